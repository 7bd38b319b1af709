-- From `In` and `Rising` to the words of std, and one element more. Assumes nothing.
use Rattle.std.proofs.Common.{◌≡◌, ℕ, zero, suc, ◌<◌, List, [], ◌∷◌, ◌++◌, length, get_or, Ordering, Less, refl, subst, inl, inr, ⊎_elim, arith}
use Rattle.std.specs.List.{ContainsAt as Has}
use Rattle.order.specs.Listed.{In, Rising}
use Rattle.order.proofs.Joins.{rising_append}

module _ {X : Type 0} where
  pub in_at : (xs : List X) (k : ℕ) (d : X) → k < length xs → In (get_or xs k d) xs
  in_at [] k d h = absurd (omega arith)
  in_at (x ∷ xs) zero d h = inl refl
  in_at (x ∷ xs) (suc k) d h = inr (in_at xs k d (omega arith))

  pub has_in : (xs : List X) (x : X) → Has xs x → In x xs
  has_in xs x h = subst (λ y. In y xs) (h.2 x) (in_at xs h.0 x h.1)

  pub in_has : (xs : List X) (x : X) → In x xs → Has xs x
  in_has [] x m = absurd m
  in_has (y ∷ xs) x (inl e) = (0, omega arith, λ d. e)
  in_has (y ∷ xs) x (inr m) = let h = in_has xs x m in let lt = h.1 in (suc h.0, omega arith, h.2)

  pub rising_push : (cmp : X → X → Ordering) (xs : List X) (x : X) → Rising cmp xs → ((y : X) → In y xs → cmp y x ≡ Less) → Rising cmp (xs ++ x ∷ [])
  rising_push cmp xs x c f = rising_append cmp xs (x ∷ []) c (λ y m. absurd m, tt) (λ a b m n. ⊎_elim (λ e. subst (λ z. cmp a z ≡ Less) e (f a m)) (λ i. absurd i) n)
