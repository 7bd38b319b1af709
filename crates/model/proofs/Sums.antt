-- Sums over lists that are made of others, and the lengths of such lists.
use Rattle.std.proofs.Common.{◌≡◌, ℕ, ◌+◌, ◌*◌, ◌≤◌, Bool, true, false, cond, List, [], ◌∷◌, map, length, sum_by, filter, sym, refl, ap, ◌∙◌, ap₂, arith}
use Rattle.std.specs.List.{flat_map}
use Rattle.std.proofs.lemmas.List.{length-append}
use Rattle.std.proofs.lemmas.List.Sums.{sum_by-cons, sum_by-append}

module _ {X : Type 0} where
  pub sum_length : (xs : List X) → sum_by (λ _. 1) xs ≡ length xs
  sum_length [] = refl
  sum_length (x ∷ xs) = let h = sum_length xs in sum_by-cons (λ _. 1) x xs ∙ omega arith

  pub sum_same : (f g : X → ℕ) → ((x : X) → f x ≡ g x) → (xs : List X) → sum_by f xs ≡ sum_by g xs
  sum_same f g e [] = refl
  sum_same f g e (x ∷ xs) = sum_by-cons f x xs ∙ ap₂ ◌+◌ (e x) (sum_same f g e xs) ∙ sym (sum_by-cons g x xs)

  pub sum_none : (xs : List X) → sum_by (λ _. 0) xs ≡ 0
  sum_none [] = refl
  sum_none (x ∷ xs) = let h = sum_none xs in sum_by-cons (λ _. 0) x xs ∙ omega arith

  pub sum_both : (f g : X → ℕ) (xs : List X) → sum_by (λ x. f x + g x) xs ≡ sum_by f xs + sum_by g xs
  sum_both f g [] = refl
  sum_both f g (x ∷ xs) =
      let a = sum_by-cons f x xs in
      let b = sum_by-cons g x xs in
      let c = sum_both f g xs in
      sum_by-cons (λ y. f y + g y) x xs ∙ omega arith ∙ ap₂ ◌+◌ (sym a) (sym b)

  kept_one : (f : X → ℕ) (b : Bool) (x : X) (us : List X) → sum_by f (cond b (x ∷ us) us) ≡ cond b (f x) 0 + sum_by f us
  kept_one f true x us = sum_by-cons f x us
  kept_one f false x us = omega arith

  pub sum_kept : (f : X → ℕ) (p : X → Bool) (xs : List X) → sum_by f (filter p xs) ≡ sum_by (λ x. cond (p x) (f x) 0) xs
  sum_kept f p [] = refl
  sum_kept f p (x ∷ xs) = kept_one f (p x) x (filter p xs) ∙ ap (λ n. cond (p x) (f x) 0 + n) (sum_kept f p xs) ∙ sym (sum_by-cons (λ y. cond (p y) (f y) 0) x xs)

module _ {X Y : Type 0} where
  pub sum_map : (f : Y → ℕ) (g : X → Y) (xs : List X) → sum_by f (map g xs) ≡ sum_by (λ x. f (g x)) xs
  sum_map f g [] = refl
  sum_map f g (x ∷ xs) = sum_by-cons f (g x) (map g xs) ∙ ap (λ n. f (g x) + n) (sum_map f g xs) ∙ sym (sum_by-cons (λ y. f (g y)) x xs)

  pub sum_joined : (f : Y → ℕ) (g : X → List Y) (xs : List X) → sum_by f (flat_map g xs) ≡ sum_by (λ x. sum_by f (g x)) xs
  sum_joined f g [] = refl
  sum_joined f g (x ∷ xs) = sum_by-append f (g x) (flat_map g xs) ∙ ap (λ n. sum_by f (g x) + n) (sum_joined f g xs) ∙ sym (sum_by-cons (λ y. sum_by f (g y)) x xs)

  -- the order of two sums does not matter
  pub sum_exchange : (f : X → Y → ℕ) (xs : List X) (ys : List Y) → sum_by (λ x. sum_by (f x) ys) xs ≡ sum_by (λ y. sum_by (λ x. f x y) xs) ys
  sum_exchange f [] ys = sym (sum_none ys)
  sum_exchange f (x ∷ xs) ys =
      sum_by-cons (λ z. sum_by (f z) ys) x xs
      ∙ ap (λ n. sum_by (f x) ys + n) (sum_exchange f xs ys)
      ∙ sym (sum_both (f x) (λ y. sum_by (λ z. f z y) xs) ys)
      ∙ sum_same (λ y. f x y + sum_by (λ z. f z y) xs) (λ y. sum_by (λ z. f z y) (x ∷ xs)) (λ y. sym (sum_by-cons (λ z. f z y) x xs)) ys

-- ---- lengths of joined lists

module _ {X Y : Type 0} (f : X → List Y) where
  pub length_joined : (xs : List X) → length (flat_map f xs) ≡ sum_by (λ x. length (f x)) xs
  length_joined [] = refl
  length_joined (x ∷ xs) = length-append (f x) (flat_map f xs) ∙ ap (λ n. length (f x) + n) (length_joined xs) ∙ sym (sum_by-cons (λ y. length (f y)) x xs)

  pub joined_few : (m : ℕ) → ((x : X) → length (f x) ≤ m) → (xs : List X) → length (flat_map f xs) ≤ length xs * m
  joined_few m few [] = omega arith
  joined_few m few (x ∷ xs) =
      let a = length-append (f x) (flat_map f xs) in
      let b = few x in
      let c = joined_few m few xs in
      omega arith
