-- The gram test decides whether two grams are the same. Assumes nothing.
use Rattle.std.proofs.Common.{◌≡◌, ℕ, ◌+◌, ◌<◌, ◌≤◌, Bool, true, false, leb, List, length, Decides, sym, refl, ⊎_elim}
use Rattle.std.proofs.lemmas.Bool.{cases_Bool, leb-true, le-leb}
use Rattle.std.proofs.lemmas.Bool.Decides.{Decides-and, Decides-below_and, same_from_decides}
use Rattle.tokens.specs.declared.token.Token.{Token}
use Rattle.runs.specs.Shares.{same_at, every_below, gram_same, SameGrams}

module _ (k : ℕ) (xs ys : List Token) (i j : ℕ) where
  abbrev partner : ℕ → Bool
  partner d = same_at xs ys (i + d) (j + d)

  all_partners : Decides (every_below partner k) ((d : ℕ) → d < k → partner d ≡ true)
  all_partners = Decides-below_and partner (λ d. partner d ≡ true) (every_below partner) (λ d. (λ e. e, λ e. e)) refl (λ _. refl) k

  parts : Decides (gram_same k xs ys i j) ((i + k ≤ length xs) × ((j + k ≤ length ys) × ((d : ℕ) → d < k → partner d ≡ true)))
  parts =
      Decides-and (leb (i + k) (length xs)) _ (leb-true (i + k) (length xs), le-leb (i + k) (length xs))
      (Decides-and (leb (j + k) (length ys)) _ (leb-true (j + k) (length ys), le-leb (j + k) (length ys)) all_partners)

  pub decides_grams : Decides (gram_same k xs ys i j) (SameGrams k xs ys i j)
  decides_grams = (
    λ e. let h = parts.0 e in record { left_in = h.0; right_in = h.1.0; each = h.1.1 },
    λ h. parts.1 (h.left_in, (h.right_in, h.each)),
  )

  -- what is answered where they are the same, and where they are not
  pub answer_yes : SameGrams k xs ys i j → true ≡ gram_same k xs ys i j
  answer_yes h = sym (decides_grams.1 h)

  pub answer_no : (SameGrams k xs ys i j → ⊥) → false ≡ gram_same k xs ys i j
  answer_no differ = ⊎_elim (λ e. absurd (differ (decides_grams.0 e))) (λ e. sym e) (cases_Bool (gram_same k xs ys i j))

  -- what decides whether they are the same is the test
  pub answer : (b : Bool) → Decides b (SameGrams k xs ys i j) → b ≡ gram_same k xs ys i j
  answer b d = same_from_decides b _ d decides_grams
