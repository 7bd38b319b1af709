use Rattle.std.proofs.Common.{◌≡◌, ◌∷◌, Some, None, Ok, sym, refl, ap, ◌∙◌}
use Rattle.tokens.specs.declared.token.Class.TheVariants.{Made}
use Rattle.layers.specs.Layers.{deeper}
use Rattle.tokens.specs.Tokens.{first, rest}
use Rattle.layers.specs.Names.{named, named_ending, whole_name}
use Rattle.layers.specs.Naming.{pending, names_left, names_ending}
use Rattle.tokens.proofs.Streams.{first_some}
use Rattle.layers.proofs.Joining.{named_joined, ending_joined, going, end_told}
use Rattle.layers.proofs.names.NamesSource.next.Goals as goal

pub returns : goal.returns
returns g c =
    let tokens = g.S.Source.tokens in
    let ending = g.S.Source.ending in
    let depth = g.S.Source.depth in
    let start = c.args.self.now in
    let mid = c.first_pending.new.self in
    let done = c.rest_of_name.new.self in
    let t = c.in-Some-2.first in
    let h = c.in_ok-first.ensures.answer in
    let came : Ok (Some t) ≡ first (pending tokens start) (ending start.below.below) = cc in
    let split : pending tokens start ≡ t ∷ pending tokens mid = first_some (pending tokens start) _ t came ∙ ap (λ xs. t ∷ xs) (sym c.first_pending.ensures.left) in
    let cases = end_told t.to c.in-Some-rest_of_name.to (pending tokens mid) c.in-Some-rest_of_name.ensures.answer in
    let left = c.in-Some-rest_of_name.ensures.left refl in
    let starts = sym c.starts_name.ensures ∙ c.if-not-starts_name.false in
    let none : mid.stopped ≡ None = c.first_pending.ensures.stopped ∙ c.in_default.is in
    let none' : done.stopped ≡ None = c.rest_of_name.ensures.stopped ∙ none in
    let end : ending done.below.below ≡ ending start.below.below = c.rest_of_name.ensures.ending ∙ c.first_pending.ensures.ending in
    let deep : depth done.below.below ≡ depth start.below.below = c.rest_of_name.ensures.depth ∙ c.first_pending.ensures.depth in
    let name : whole_name t (pending tokens mid) ≡ record { code = 300; class = Made; from = t.from; to = c.in-Some-rest_of_name.to } = ap (λ x. record { code = 300; class = Made; from = t.from; to = x }) (sym cases.1) in
    let list : names_left tokens start ≡ record { code = 300; class = Made; from = t.from; to = c.in-Some-rest_of_name.to } ∷ named (pending tokens done) =
    going start.stopped _ _ c.in_default.is ∙ ap named split ∙ named_joined t (pending tokens mid) starts cases.0 ∙ ap (λ xs. whole_name t (pending tokens mid) ∷ named xs) (sym left) ∙ ap (λ x. x ∷ named (pending tokens done)) name in
    let last : names_ending tokens ending depth done ≡ names_ending tokens ending depth start =
    going done.stopped _ _ none' ∙ ap (λ d. named_ending (deeper d) (pending tokens done) (ending done.below.below)) deep ∙ ap (named_ending (deeper (depth start.below.below)) (pending tokens done)) end
    ∙ sym (going start.stopped _ _ c.in_default.is ∙ ap (λ xs. named_ending (deeper (depth start.below.below)) xs (ending start.below.below)) split ∙ ending_joined _ _ t (pending tokens mid) cases.0 ∙ ap (λ xs. named_ending (deeper (depth start.below.below)) xs (ending start.below.below)) (sym left)) in
    record {
      answer = sym (ap (λ xs. first xs (names_ending tokens ending depth start)) list);
      left = going done.stopped _ _ none' ∙ sym (ap rest list);
      ends = last;
      stays = ap deeper deep;
    }
