-- What is in a joined list, and when it rises. Assumes nothing.
use Rattle.std.proofs.Common.{◌≡◌, ℕ, zero, suc, ◌+◌, ◌<◌, ◌⊎◌, List, [], ◌∷◌, ◌++◌, Ordering, Less, sym, refl, subst, inl, inr, ⊎_elim, arith}
use Rattle.std.specs.List.{range_with_len, flat_map}
use Rattle.order.specs.Listed.{In, Rising}
use Rattle.order.proofs.Members.{counting_in}

module _ {X : Type 0} where
  pub append_in : (xs ys : List X) (x : X) → In x (xs ++ ys) → In x xs ⊎ In x ys
  append_in [] ys x m = inr m
  append_in (y ∷ xs) ys x (inl e) = inl (inl e)
  append_in (y ∷ xs) ys x (inr m) = ⊎_elim (λ a. inl (inr a)) inr (append_in xs ys x m)

  pub in_left : (xs ys : List X) (x : X) → In x xs → In x (xs ++ ys)
  in_left [] ys x m = absurd m
  in_left (y ∷ xs) ys x (inl e) = inl e
  in_left (y ∷ xs) ys x (inr m) = inr (in_left xs ys x m)

  pub in_right : (xs ys : List X) (x : X) → In x ys → In x (xs ++ ys)
  in_right [] ys x m = m
  in_right (y ∷ xs) ys x m = inr (in_right xs ys x m)

  pub push_in : (xs : List X) (y x : X) → In x (xs ++ y ∷ []) → In x xs ⊎ (y ≡ x)
  push_in xs y x m = ⊎_elim (λ i. inl i) (λ (i : In x (y ∷ [])). ⊎_elim (λ (e : y ≡ x). inr e) (λ (e : ⊥). absurd e) i) (append_in xs (y ∷ []) x m)

  pub rising_append : (cmp : X → X → Ordering) (xs ys : List X) → Rising cmp xs → Rising cmp ys → ((x y : X) → In x xs → In y ys → cmp x y ≡ Less) → Rising cmp (xs ++ ys)
  rising_append cmp [] ys f g h = g
  rising_append cmp (x ∷ xs) ys f g h = (
    λ y m. ⊎_elim (f.0 y) (h x y (inl refl)) (append_in xs ys y m),
    rising_append cmp xs ys f.1 g (λ a b i j. h a b (inr i) j),
  )

module _ {A X : Type 0} (f : A → List X) where
  pub joined_in : (as' : List A) (x : X) → In x (flat_map f as') → (a : A) × In a as' × In x (f a)
  joined_in [] x m = absurd m
  joined_in (a ∷ as') x m = ⊎_elim (λ i. (a, inl refl, i)) (λ i. let h = joined_in as' x i in (h.0, inr h.1, h.2)) (append_in (f a) (flat_map f as') x m)

  pub in_joined : (as' : List A) (a : A) (x : X) → In a as' → In x (f a) → In x (flat_map f as')
  in_joined [] a x m i = absurd m
  in_joined (b ∷ as') a x (inl e) i = in_left (f b) (flat_map f as') x (subst (λ c. In x (f c)) (sym e) i)
  in_joined (b ∷ as') a x (inr m) i = in_right (f b) (flat_map f as') x (in_joined as' a x m i)

module _ {X : Type 0} (cmp : X → X → Ordering) (f : ℕ → List X) (each : (i : ℕ) → Rising cmp (f i)) (next : (i j : ℕ) (x y : X) → i < j → In x (f i) → In y (f j) → cmp x y ≡ Less) where
  pub rising_joined : (a n : ℕ) → Rising cmp (flat_map f (range_with_len a n))
  rising_joined a zero = tt
  rising_joined a (suc n) =
      rising_append cmp (f a) (flat_map f (range_with_len (a + 1) n)) (each a) (rising_joined (a + 1) n)
      (λ x y m i. let h = joined_in f (range_with_len (a + 1) n) y i in let l = counting_in (a + 1) n h.0 h.1 in next a h.0 x y (omega arith) m h.2)
