-- An array that is made by calls of a function: what it holds. Assumes nothing.
use Rattle.std.proofs.Common.{◌≡◌, ℕ, zero, suc, ◌+◌, ◌<◌, ◌≤◌, List, get_or, refl, sym, ap, ◌∙◌, subst, ⊎_elim, arith}
use denote.Param.Members.{Mut, Called}
use Rattle.std.specs.Array.{IsFromFnResult, IsFromFnResultFrom}
use Rattle.std.proofs.lemmas.Bool.{cases_eq}

-- each call leaves the function as it was, and gives `value` of its number
module _ {F B : Type 0} {g : Mut F (ℕ × Unit {0}) B} {f : F} (value : ℕ → B) (gives : (i : ℕ) (r : B) (q : F) → Called g f (i, tt) r q → (q ≡ f) × (r ≡ value i)) (ys : List B) where
  made_on : (n i : ℕ) (p : F) → p ≡ f → IsFromFnResultFrom g p ys i n → (j : ℕ) (d : B) → i ≤ j → j < i + n → get_or ys j d ≡ value j
  made_on zero i p same each j d lo hi = absurd (omega arith)
  made_on (suc n) i p same each j d lo hi =
      let call = gives i each.1 each.0 (subst (λ p. Called g p (i, tt) each.1 each.0) same each.3) in
      ⊎_elim
      (λ e. ap (λ m. get_or ys m d) e ∙ each.2.1 d ∙ call.1 ∙ ap value (sym e))
      (λ ne. made_on n (i + 1) each.0 call.0 each.4 j d (omega arith) (omega arith))
      (cases_eq j i)

  pub made : (n : ℕ) → IsFromFnResult g f ys n → (j : ℕ) (d : B) → j < n → get_or ys j d ≡ value j
  made n h j d lt = made_on n 0 f refl h.each j d (omega arith) (omega arith)
