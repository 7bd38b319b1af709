-- The digits of a number, and of its front.
use Rattle.std.proofs.Common.{◌≡◌, ℕ, zero, suc, ◌+◌, ◌-◌, ◌*◌, ◌/◌, ◌%◌, ◌^◌, ◌<◌, ◌≤◌, max, true, cond, List, [], ◌∷◌, ◌++◌, length, get_or, take, drop, replicate, is_ok, IsErrAnd, Ok, Err, decimal, Result, sym, ap, ap₂, ◌∙◌, arith}
use Rattle.std.specs.List.{flat_map}
use Rattle.std.proofs.lemmas.Result.{err_from_is_err_and}
use Rattle.std.proofs.lemmas.Bool.{false≢true}
use Rattle.std.proofs.lemmas.Fmt.{decimal_digit, decimal_step}
use Rattle.std.proofs.Math.Nat.{pow-suc, one-le-pow}
use Rattle.std.proofs.lemmas.List.{append-nil, append_assoc, length_push, length-append, length-replicate, replicate-append-replicate, take-append-drop, take_at, take_all, take_more, drop_all, flat_map_more}
use Rattle.columns.specs.Columns.{right, row}

pub length_digit : (n : ℕ) → n < 10 → length (decimal n) ≡ 1
length_digit n h = ap length (decimal_digit n h)

pub length_step : (n : ℕ) → 10 ≤ n → n < 2 ^ 64 → length (decimal n) ≡ length (decimal (n / 10)) + 1
length_step n h fits = ap length (decimal_step n h fits) ∙ length_push (decimal (n / 10)) (48 + n % 10)

-- a number from 10 ^ k on and below the next power has k + 1 digits
pub length_power : (k n : ℕ) → 10 ^ k ≤ n → n < 10 * 10 ^ k → n < 2 ^ 64 → length (decimal n) ≡ k + 1
length_power zero n low high fits = length_digit n high
length_power (suc k) n low high fits =
    let power : 10 ^ suc k ≡ 10 ^ k * 10 = pow-suc 10 k in
    let one : 1 ≤ 10 ^ k = one-le-pow k 10 (omega arith) in
    let front : length (decimal (n / 10)) ≡ k + 1 = length_power k (n / 10) (omega arith) (omega arith) (omega arith) in
    omega (arith, length_step n (omega arith) fits, front)

-- blanks, and then the digits over the last of them
pub cell_written : (old blank now : List ℕ) (n width more start end : ℕ) → blank ≡ old ++ replicate more 32 → more ≡ max width (length (decimal n)) → end ≡ length old + more → start + length (decimal n) ≡ end → take start now ≡ take start blank → drop start now ≡ decimal n ++ drop end blank → now ≡ old ++ right width n
cell_written old blank now n width more start end b m e s before written =
    let k = width - length (decimal n) in
    let at : length old + k ≡ start = omega arith in
    let few : more ≡ k + (more - k) = omega arith in
    let all : length blank ≤ end = omega (arith, ap length b, length-append old (replicate more 32), length-replicate {A = ℕ} more 32) in
    let front : take start blank ≡ old ++ replicate k 32 =
    ap (take start) (b ∙ ap (λ j. old ++ replicate j 32) few ∙ ap (λ xs. old ++ xs) (sym (replicate-append-replicate k (more - k) 32)) ∙ sym (append_assoc old (replicate k 32) (replicate (more - k) 32)))
    ∙ take_at (old ++ replicate k 32) (replicate (more - k) 32) start (length-append old (replicate k 32) ∙ ap (λ j. length old + j) (length-replicate {A = ℕ} k 32) ∙ at) in
    sym (take-append-drop start now) ∙ ap₂ ◌++◌ (before ∙ front) (written ∙ ap (λ xs. decimal n ++ xs) (drop_all end blank all) ∙ append-nil (decimal n)) ∙ append_assoc old (replicate k 32) (decimal n)

-- what stood before is what stands first
pub first_kept : (start now more : List ℕ) (n : ℕ) → now ≡ start ++ more → n ≡ length start → take n now ≡ start
first_kept start now more n e h = ap (take n) e ∙ take_at start more n (sym h)

-- one number more in a line
pub cells_more : (width : ℕ) (ns start now next : List ℕ) (i : ℕ) → i < length ns → now ≡ start ++ flat_map (right width) (take i ns) → next ≡ now ++ right width (get_or ns i 0) → next ≡ start ++ flat_map (right width) (take (i + 1) ns)
cells_more width ns start now next i h e f =
    f ∙ ap (λ xs. xs ++ right width (get_or ns i 0)) e ∙ flat_map_more (right width) start (take i ns) (get_or ns i 0) ∙ ap (λ xs. start ++ flat_map (right width) xs) (sym (take_more ns i 0 h))

-- the line's end
pub cells_all : (width : ℕ) (ns start now next : List ℕ) (i : ℕ) → length ns ≤ i → now ≡ start ++ flat_map (right width) (take i ns) → next ≡ now ++ 10 ∷ [] → next ≡ start ++ row width ns
cells_all width ns start now next i h e f =
    f ∙ ap (λ xs. xs ++ 10 ∷ []) (e ∙ ap (λ xs. start ++ flat_map (right width) xs) (take_all i ns h)) ∙ append_assoc start (flat_map (right width) ns) (10 ∷ [])

-- what a step that may fail leaves
pub step_ok : {T E : Type 0} {r : Result T E} {x : T} (now next more : List ℕ) → r ≡ Ok x → next ≡ cond (is_ok r) (now ++ more) now → next ≡ now ++ more
step_ok now next more e f = f ∙ ap (λ r. cond (is_ok r) (now ++ more) now) e

pub step_err : {T E : Type 0} {r : Result T E} {x : E} (now next more : List ℕ) → r ≡ Err x → next ≡ cond (is_ok r) (now ++ more) now → next ≡ now
step_err now next more e f = f ∙ ap (λ r. cond (is_ok r) (now ++ more) now) e

-- an error is not `Ok`
pub never_ok : {T E : Type 0} {P : Type 0} (Q : E → Type 0) (r : Result T E) → IsErrAnd r Q → is_ok r ≡ true → P
never_ok Q r e ok = let p = err_from_is_err_and {Q = Q} r e in absurd (false≢true (ap is_ok (sym p.1) ∙ ok))
