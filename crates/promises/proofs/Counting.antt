-- How many files have a number. Assumes nothing.
use Rattle.std.proofs.Common.{◌≡◌, ℕ, ◌+◌, ◌≤◌, Bool, true, false, cond, eqb, [], ◌∷◌, count_by, sym, refl, ap, ◌∙◌, ⊎_elim, arith}
use Rattle.std.proofs.lemmas.List.Sums.{sum_by-cons}
use Rattle.std.proofs.lemmas.Bool.{cases_Bool, eqb-true, eq-eqb, or_parts, or_from}
use Rattle.model.specs.Files.{File, Files, known, Distinct}

-- how many files have the number n
abbrev pub count_of : ℕ → Files → ℕ
count_of n fs = count_by (λ f. eqb f.0 n) fs

module _ (n : ℕ) (f : File) (fs : Files) where
  step : count_of n (f ∷ fs) ≡ cond (eqb f.0 n) 1 0 + count_of n fs
  step = sum_by-cons (λ (g : File). cond (eqb g.0 n) 1 0) f fs

  count_more : eqb f.0 n ≡ true → count_of n (f ∷ fs) ≡ 1 + count_of n fs
  count_more e = step ∙ ap (λ (b : Bool). cond b 1 0 + count_of n fs) e

  count_same : eqb f.0 n ≡ false → count_of n (f ∷ fs) ≡ count_of n fs
  count_same e = step ∙ ap (λ (b : Bool). cond b 1 0 + count_of n fs) e ∙ omega arith

pub unknown_count : (fs : Files) (n : ℕ) → known n fs ≡ false → count_of n fs ≡ 0
unknown_count [] n e = refl
unknown_count (f ∷ fs) n e = let h = or_parts (eqb f.0 n) (known n fs) e in count_same n f fs h.0 ∙ unknown_count fs n h.1

pub count_unknown : (fs : Files) (n : ℕ) → count_of n fs ≡ 0 → known n fs ≡ false
count_unknown [] n e = refl
count_unknown (f ∷ fs) n e =
    ⊎_elim
    (λ (y : eqb f.0 n ≡ true). let z = count_more n f fs y in absurd (omega arith))
    (λ (y : eqb f.0 n ≡ false). or_from (eqb f.0 n) (known n fs) y (count_unknown fs n (sym (count_same n f fs y) ∙ e)))
    (cases_Bool (eqb f.0 n))

pub distinct_count : (fs : Files) → Distinct fs → (n : ℕ) → count_of n fs ≤ 1
distinct_count [] d n = omega arith
distinct_count (f ∷ fs) d n =
    ⊎_elim
    (λ (y : eqb f.0 n ≡ true).
    let more = count_more n f fs y in
    let none : count_of n fs ≡ 0 = unknown_count fs n (ap (λ (m : ℕ). known m fs) (sym (eqb-true f.0 n y)) ∙ d.0) in
    omega arith)
    (λ (y : eqb f.0 n ≡ false). let same = count_same n f fs y in let few = distinct_count fs d.1 n in omega arith)
    (cases_Bool (eqb f.0 n))

pub count_distinct : (fs : Files) → ((n : ℕ) → count_of n fs ≤ 1) → Distinct fs
count_distinct [] h = tt
count_distinct (f ∷ fs) h =
    let more = count_more f.0 f fs (eq-eqb f.0 f.0 refl) in
    let once = h f.0 in
    (count_unknown fs f.0 (omega arith), count_distinct fs (λ n. let few = h n in let sum = step n f fs in omega arith))
