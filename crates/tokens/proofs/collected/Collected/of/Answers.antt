use Rattle.std.proofs.Common.{◌≡◌, ◌≤◌, [], ◌∷◌, ◌++◌, Some, None, Ok, vec_items, sym, refl, ap, ◌∙◌, arith}
use Rattle.std.proofs.lemmas.List.{append_assoc, append-nil}
use Rattle.std.proofs.lemmas.Slice.{pushed}
use Rattle.tokens.specs.Tokens.{placed_from, first}
use Rattle.tokens.proofs.Placing.{placed_tested}
use Rattle.tokens.proofs.Streams.{first_some, first_none, first_err}
use Rattle.tokens.proofs.collected.Collected.of.Goals as goal
use Rattle.tokens.proofs.collected.Collected.of.Goals.{in_default, in_default-2}

pub loop-token-preserved : goal.loop-token-preserved
loop-token-preserved g c =
    let t = c.in-Ok-Some.token in
    let items = vec_items c.loop-token.list in
    let old = g.S.Source.tokens c.loop-token.source in
    let new = g.S.Source.tokens c.next.new.self in
    let h = c.in-Ok-Some.ensures.answer in
    let came : Ok (Some t) ≡ first old (g.S.Source.ending c.loop-token.source) = cc in
    let split : old ≡ t ∷ new = first_some old _ t came ∙ ap (λ xs. t ∷ xs) (sym c.next.ensures.left) in
    let more : vec_items c.push.new.self ≡ items ++ t ∷ [] = pushed (t ∷ []) refl c.in_ok-push.was c.push.ensures.items in
    (ap (λ xs. xs ++ new) more ∙ append_assoc items (t ∷ []) new ∙ ap (λ xs. items ++ xs) (sym split) ∙ c.loop-token.invariant.0, c.next.ensures.ends ∙ c.loop-token.invariant.1)

pub invariant_of-result : goal.invariant_of-result
invariant_of-result g c =
    let all = g.S.Source.tokens c.args.source in
    let items = vec_items c.loop-token.list in
    let old = g.S.Source.tokens c.loop-token.source in
    let none : old ≡ [] = elim c.match-next.branch [
      | in_default w ↦ let h = w.in_default.ensures.answer in let came : Ok None ≡ first old (g.S.Source.ending c.loop-token.source) = cc in (first_none old _ came).0
      | in_default-2 w ↦ (first_err old _ _ (sym w.in_default.is ∙ c.next.ensures.answer)).0
    ] in
    let whole : items ≡ all = sym (append-nil items) ∙ ap (λ xs. items ++ xs) (sym none) ∙ c.loop-token.invariant.0 in
    let deep : c.depth-depth.result ≤ 255 = omega (arith, c.depth-depth.ensures, c.lawful.ensures.shallow) in
    record { shallow = deep; placed = ap (placed_from 0) (c.into_iter.ensures.rest ∙ whole) ∙ placed_tested 0 all c.lawful.ensures.placed }
