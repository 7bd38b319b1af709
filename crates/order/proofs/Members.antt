-- What is in a filtered list, in a mapped one, and in a row of numbers. Assumes nothing.
use Rattle.std.proofs.Common.{◌≡◌, ℕ, zero, suc, ◌+◌, ◌<◌, ◌≤◌, Bool, true, false, List, [], ◌∷◌, map, length, filter, sym, refl, ap, ◌∙◌, inl, inr, ⊎_elim, arith}
use Rattle.std.specs.List.{range_with_len}
use Rattle.std.proofs.lemmas.List.Sums.{length-filter, count_by-le-length}
use Rattle.std.proofs.lemmas.Bool.{cond_both, cond-true, cond-false, both_ways, cases_eq}
use Rattle.order.specs.Listed.{In}

module _ {X : Type 0} (test : X → Bool) where
  pub in_kept : (xs : List X) (x : X) → In x xs → test x ≡ true → In x (filter test xs)
  in_kept [] x m h = m
  in_kept (y ∷ ys) x (inl e) h = cond_both (test y) (y ∷ filter test ys) (filter test ys) (In x) (λ _. inl e) (λ f. absurd (both_ways (test y) f (ap test e ∙ h)))
  in_kept (y ∷ ys) x (inr m) h = cond_both (test y) (y ∷ filter test ys) (filter test ys) (In x) (λ _. inr (in_kept ys x m h)) (λ _. in_kept ys x m h)

  pub kept_passes : (xs : List X) (x : X) → In x (filter test xs) → test x ≡ true
  kept_passes [] x m = absurd m
  kept_passes (y ∷ ys) x m =
      cond_both (test y) (y ∷ filter test ys) (filter test ys) (λ l. In x l → test x ≡ true)
      (λ t. ⊎_elim (λ e. ap test (sym e) ∙ t) (kept_passes ys x))
      (λ _. kept_passes ys x)
      m

  pub kept_in : (xs : List X) (x : X) → In x (filter test xs) → In x xs
  kept_in [] x m = m
  kept_in (y ∷ ys) x m =
      cond_both (test y) (y ∷ filter test ys) (filter test ys) (λ l. In x l → In x (y ∷ ys))
      (λ _. ⊎_elim inl (λ i. inr (kept_in ys x i)))
      (λ _ i. inr (kept_in ys x i))
      m

  pub kept_all : (xs : List X) → ((x : X) → In x xs → test x ≡ true) → filter test xs ≡ xs
  kept_all [] h = refl
  kept_all (x ∷ xs) h = cond-true (test x) (x ∷ filter test xs) (filter test xs) (h x (inl refl)) ∙ ap (λ l. x ∷ l) (kept_all xs (λ y m. h y (inr m)))

  pub kept_none : (xs : List X) → ((x : X) → In x xs → test x ≡ false) → filter test xs ≡ []
  kept_none [] h = refl
  kept_none (x ∷ xs) h = cond-false (test x) (x ∷ filter test xs) (filter test xs) (h x (inl refl)) ∙ kept_none xs (λ y m. h y (inr m))

  pub kept_few : (xs : List X) → length (filter test xs) ≤ length xs
  kept_few xs = let e = length-filter test xs in let l = count_by-le-length test xs in omega arith

module _ {X Y : Type 0} (f : X → Y) where
  pub in_map : (xs : List X) (x : X) → In x xs → In (f x) (map f xs)
  in_map [] x m = absurd m
  in_map (y ∷ ys) x (inl e) = inl (ap f e)
  in_map (y ∷ ys) x (inr m) = inr (in_map ys x m)

  pub map_in : (xs : List X) (y : Y) → In y (map f xs) → (x : X) × In x xs × (f x ≡ y)
  map_in [] y m = absurd m
  map_in (x ∷ xs) y (inl e) = (x, inl refl, e)
  map_in (x ∷ xs) y (inr m) = let h = map_in xs y m in (h.0, inr h.1, h.2)

pub in_counting : (a n p : ℕ) → a ≤ p → p < a + n → In p (range_with_len a n)
in_counting a zero p lo hi = absurd (omega arith)
in_counting a (suc n) p lo hi = ⊎_elim inl (λ ne. inr (in_counting (a + 1) n p (omega arith) (omega arith))) (cases_eq a p)

pub counting_in : (a n p : ℕ) → In p (range_with_len a n) → (a ≤ p) × (p < a + n)
counting_in a zero p m = absurd m
counting_in a (suc n) p (inl e) = (omega arith, omega arith)
counting_in a (suc n) p (inr m) = let h = counting_in (a + 1) n p m in (omega arith, omega arith)
