use Rattle.std.proofs.Common.{◌≡◌, ◌+◌, ◌<◌, ◌≤◌, ◌∷◌, ◌++◌, drop, Some, Ok, sym, ap, ◌∙◌, subst, arith}
use Rattle.std.specs.List.{prefix_len}
use Rattle.layers.specs.Names.{goes_on, name_end}
use Rattle.layers.specs.Naming.{pending}
use Rattle.layers.specs.Onwards.{onward, reached_by}
use Rattle.tokens.specs.Tokens.{first}
use Rattle.tokens.proofs.Streams.{first_some}
use Rattle.layers.proofs.Joining.{Front, front_on, front_off, fits_from, some_end, no_end}
use Rattle.layers.proofs.names.Names.rest_of_name.Goals as goal

pub returns-in-Ok-Some-2 : goal.returns-in-Ok-Some-2
returns-in-Ok-Some-2 g c =
    let t = c.in-Ok-Some.token in
    let old = onward c.loop.self.below.reached (g.S.Source.tokens c.loop.self.below.below) in
    let new = onward c.next.new.self.reached (g.S.Source.tokens c.next.new.self.below) in
    let is = c.in-Ok-Some.is in
    let some = c.in-Ok-Some.field-0-is in
    let it = c.in-Ok-Some.token-is in
    let result : c.next.result ≡ Ok (Some t) = cc in
    let came : Ok (Some t) ≡ first old (g.S.Source.ending c.loop.self.below.below) = sym result ∙ c.next.ensures.answer in
    let split : old ≡ t ∷ new = first_some old _ t came ∙ ap (λ xs. t ∷ xs) (sym c.next.ensures.left) in
    let reached : c.next.new.self.reached ≡ t.to = c.next.ensures.reaches ∙ ap (λ r. reached_by r c.loop.self.below.reached) result in
    let held = fits_from c.next.new.self.reached t (c.next.ensures.sound t result) (omega arith) in
    let front = subst (λ xs. Front c.loop.to xs 0 c.loop.to (t ∷ new)) (sym split) (front_off c.loop.to t new (sym c.goes_on.ensures ∙ c.if-goes_on.false)) in
    let inv = c.loop.invariant in
    let whole = pending g.S.Source.tokens c.args.self.now in
    let few : prefix_len goes_on whole ≤ 254 = omega (arith, front.count, inv.1, c.loop-test.true) in
    record {
      answer = some_end c.args.to c.loop.to whole few (sym front.ends ∙ inv.3);
      left = λ _. ap (λ xs. xs ++ new) held ∙ sym front.after ∙ inv.2;
      stopped = inv.4;
      ending = c.next.ensures.ends ∙ inv.5;
      depth = c.next.ensures.stays ∙ inv.6;
    }

pub loop-preserved : goal.loop-preserved
loop-preserved g c =
    let t = c.in-Ok-Some.token in
    let old = onward c.loop.self.below.reached (g.S.Source.tokens c.loop.self.below.below) in
    let new = onward c.next.new.self.reached (g.S.Source.tokens c.next.new.self.below) in
    let is = c.in-Ok-Some.is in
    let some = c.in-Ok-Some.field-0-is in
    let it = c.in-Ok-Some.token-is in
    let result : c.next.result ≡ Ok (Some t) = cc in
    let came : Ok (Some t) ≡ first old (g.S.Source.ending c.loop.self.below.below) = sym result ∙ c.next.ensures.answer in
    let split : old ≡ t ∷ new = first_some old _ t came ∙ ap (λ xs. t ∷ xs) (sym c.next.ensures.left) in
    let front = subst (λ xs. Front c.loop.to xs (1 + prefix_len goes_on new) (name_end t.to new) (drop (prefix_len goes_on new) new)) (sym split) (front_on c.loop.to t new (sym c.goes_on.ensures ∙ c.if-goes_on.true)) in
    let inv = c.loop.invariant in (
      inv.0,
      omega (arith, front.count, inv.1),
      sym front.after ∙ inv.2,
      sym front.ends ∙ inv.3,
      inv.4,
      c.next.ensures.ends ∙ inv.5,
      c.next.ensures.stays ∙ inv.6,
    )

pub returns-clause-answer : goal.returns-clause-answer
returns-clause-answer g c =
    let whole = pending g.S.Source.tokens c.args.self.now in
    let many : 254 < prefix_len goes_on whole = omega (arith, c.loop.invariant.1, c.loop-test.false) in
    no_end c.args.to whole many
