-- What the library reads of one to three digits.
use Rattle.std.proofs.Common.{◌≡◌, ℕ, ◌+◌, ◌-◌, ◌*◌, ◌^◌, ◌<◌, ◌≤◌, true, leb, ◌&&◌, List, length, get_or, Some, None, Ok, Err, Result, sym, ap, ◌∙◌, ⊎_elim, rules, arith, ◌≢◌}
use Rattle.std.specs.List.{fold}
use Rattle.std.specs.Result.{result_ok}
use Rattle.std.specs.Str.Parse.{ParsesUnsigned}
use Rattle.std.proofs.lemmas.Str.Parse.{IsNumeralModel, numerals_by_fold, parse_plain}
use Rattle.std.proofs.lemmas.Bool.{cases_Bool, cond-true, cond-false, and_from, and_parts, le-leb, leb-true}
use Rattle.tokens.specs.Bytes.{between}
use Rattle.piles.specs.Words.{all_digits, decimal_value, class_of}

own : IsNumeralModel (λ ds. all_digits ds ≡ true) decimal_value
own = numerals_by_fold _ (search rules) (fold (λ n d. 10 * n + (d - 48))) (search rules)

pub class_parsed : {E : Type 0} (ds : List ℕ) (r : Result ℕ E) → length ds ≤ 3 → get_or ds 0 0 ≢ 43 → ParsesUnsigned 8 10 ds r → result_ok r ≡ class_of ds
class_parsed {E} ds (Ok x) few plain h =
    let p = parse_plain own {E = E} 8 ds (Ok x) h plain in
    let some : 1 ≤ length ds = p.0.1 in
    let small : decimal_value ds < 2 ^ 8 = p.0.2 in
    let sized = and_from (leb 1 (length ds)) (leb (length ds) 3) (le-leb 1 (length ds) some) (le-leb (length ds) 3 few) in
    ap Some p.1 ∙ sym (cond-true _ _ _ (and_from (between 1 3 (length ds)) _ sized (and_from (all_digits ds) _ p.0.0 (le-leb (decimal_value ds) 255 (omega arith)))))
class_parsed {E} ds (Err e) few plain h =
    let p = parse_plain own {E = E} 8 ds (Err e) h plain in
    let test = between 1 3 (length ds) && (all_digits ds && leb (decimal_value ds) 255) in
    let refused : test ≡ true → class_of ds ≡ None = λ t.
    let a = and_parts (between 1 3 (length ds)) _ t in
    let b = and_parts (all_digits ds) _ a.1 in
    let c = and_parts (leb 1 (length ds)) _ a.0 in
    absurd (p (b.0, leb-true 1 (length ds) c.0, let v = leb-true (decimal_value ds) 255 b.1 in omega arith)) in
    sym (⊎_elim refused (λ t. cond-false _ _ _ t) (cases_Bool test))
