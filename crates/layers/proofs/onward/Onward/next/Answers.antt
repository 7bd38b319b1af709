use Rattle.std.proofs.Common.{◌≡◌, ◌∷◌, Some, Ok, sym, refl, ap, ◌∙◌, subst}
use Rattle.layers.specs.Onwards.{onward}
use Rattle.tokens.specs.Tokens.{Placed, Sound, first, rest}
use Rattle.layers.proofs.Onwards.{onward_taken, onward_skipped}
use Rattle.tokens.proofs.Placing.{placed_rest}
use Rattle.tokens.proofs.Streams.{first_some}
use Rattle.layers.proofs.onward.Onward.next.Goals as goal

pub returns-then-token-self : goal.returns-then-token-self
returns-then-token-self g c =
    let t = c.in-Some.token in
    let old = g.S.Source.tokens c.loop-token.self.below in
    let new = g.S.Source.tokens c.next.new.self in
    let h = c.in_ok-token.ensures.answer in
    let came : Ok (Some t) ≡ first old (g.S.Source.ending c.loop-token.self.below) = cc in
    let split : old ≡ t ∷ new = first_some old _ t came ∙ ap (λ xs. t ∷ xs) (sym c.next.ensures.left) in
    let all = onward_taken c.loop-token.self.reached t old new split c.loop-token.invariant.4 c.if-token-self.true in
    let whole : onward c.args.self.now.reached (g.S.Source.tokens c.args.self.now.below) ≡ t ∷ onward t.to new = sym c.loop-token.invariant.1 ∙ all in
    record {
      answer = sym (ap (λ x. first x (g.S.Source.ending c.args.self.now.below)) whole);
      left = sym (ap rest whole);
      ends = c.next.ensures.ends ∙ c.loop-token.invariant.2;
      stays = c.next.ensures.stays ∙ c.loop-token.invariant.3;
      sound = λ x e. let same : t ≡ x = cc in subst Sound same (subst Placed split c.loop-token.invariant.4).0;
      reaches = refl;
    }

pub loop-token-preserved : goal.loop-token-preserved
loop-token-preserved g c =
    let t = c.in-Some.token in
    let old = g.S.Source.tokens c.loop-token.self.below in
    let new = g.S.Source.tokens c.next.new.self in
    let h = c.in_ok-token.ensures.answer in
    let came : Ok (Some t) ≡ first old (g.S.Source.ending c.loop-token.self.below) = cc in
    let split : old ≡ t ∷ new = first_some old _ t came ∙ ap (λ xs. t ∷ xs) (sym c.next.ensures.left) in (
      c.loop-token.invariant.0,
      sym (onward_skipped c.loop-token.self.reached t old new split c.if-token-self.false) ∙ c.loop-token.invariant.1,
      c.next.ensures.ends ∙ c.loop-token.invariant.2,
      c.next.ensures.stays ∙ c.loop-token.invariant.3,
      subst Placed (sym c.next.ensures.left) (placed_rest 0 old c.loop-token.invariant.4),
    )
