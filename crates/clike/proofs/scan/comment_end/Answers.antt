use Rattle.std.proofs.Common.{◌≡◌, ◌+◌, ◌-◌, false, ◌&&◌, eqb, length, get_or, take, drop, sym, ap, ◌∙◌, add-zero, arith}
use Rattle.std.proofs.lemmas.List.{take_rest, get_or-drop, length-drop}
use Rattle.std.proofs.lemmas.Bool.{and_right, ne_eqb, ltb-true, ltb-false}
use Rattle.clike.specs.Lexemes.{read, begins_with, closing}
use Rattle.clike.proofs.Fronts.{next_is, next_none, closes_later, length_later}
use Rattle.clike.proofs.scan.comment_end.Goals as goal
use Rattle.clike.proofs.scan.comment_end.Goals.{then-body-i-lt1, else-body-i-lt1+then-this-lt2+in_default-1, else-body-i-lt1+else-this-lt2+in-42+in_default-1, else-body-i-lt1+else-this-lt2+in_default-1}

pub loop-i-preserved : goal.loop-i-preserved
loop-i-preserved c =
    let xs = c.args.body.now in
    let i = c.loop-i.i in
    let rest = take (length xs - i) (drop i xs) in
    let first : get_or rest 0 0 ≡ get_or xs i 0 = ap (λ ys. get_or ys 0 0) (take_rest xs i) ∙ get_or-drop i xs 0 0 ∙ ap (λ n. get_or xs n 0) (add-zero i) in
    let second : get_or rest 1 0 ≡ get_or xs (i + 1) 0 = ap (λ ys. get_or ys 1 0) (take_rest xs i) ∙ get_or-drop i xs 1 0 in
    let size : length rest ≡ length xs - i = ap length (take_rest xs i) ∙ length-drop i xs in
    let on : (get_or xs i 0 ≡ 0 → ⊥) × (closing (get_or xs i 0) (read (drop (i + 1) xs)) ≡ false) = elim c.if-body-i-lt1.branch [
      | then-body-i-lt1 w ↦ absurd (omega (arith, ltb-true))
      | else-body-i-lt1+then-this-lt2+in_default-1 w ↦ (λ z. omega (arith, first), and_right (eqb (get_or xs i 0) 42) _ (next_none 47 xs (i + 1) (omega (arith, ltb-true))))
      | else-body-i-lt1+else-this-lt2+in-42+in_default-1 w ↦ (λ z. omega (arith, first), and_right (eqb (get_or xs i 0) 42) _ (next_is 47 xs (i + 1) (omega arith) (omega (arith, ltb-false)) ∙ ne_eqb (get_or xs (i + 1) 0) 47 (λ e. omega (arith, second))))
      | else-body-i-lt1+else-this-lt2+in_default-1 w ↦ (λ z. omega (arith, first), ap (λ t. t && begins_with 47 (read (drop (i + 1) xs))) (ne_eqb (get_or xs i 0) 42 (λ e. omega (arith, first))))
    ] in
    let later = closes_later xs i c.loop-i-test.true on.0 on.1 in
    let all = length_later xs i c.loop-i-test.true on.0 in
    let inv = c.loop-i.invariant in
    (sym later.0 ∙ inv.0, omega (arith, later.1, inv.1), omega (arith, all, inv.2))
