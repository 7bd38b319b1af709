-- Lists with the same elements in another order, seen through the sums over them. Assumes nothing.
use Rattle.std.proofs.Common.{◌≡◌, ℕ, ◌+◌, ◌<◌, Bool, true, false, cond, List, [], ◌∷◌, map, length, sum_by, filter, Ordering, Less, Equal, Greater, sym, refl, ap, ◌∙◌, subst, inl, inr, arith}
use Rattle.std.specs.Ordering.{is_eq}
use Rattle.std.specs.List.{flat_map}
use Rattle.std.proofs.lemmas.List.Sums.{sum_by-cons}
use Rattle.order.specs.Total.{TotalOrder}
use Rattle.order.specs.Listed.{In}
use Rattle.order.specs.Compared.{by_answer}
use Rattle.order.proofs.Rises.{exactly_same}
use Rattle.model.specs.Gathering.{put, gathered}
use Rattle.model.proofs.Sums.{sum_length, sum_same, sum_kept, sum_map, sum_joined, sum_exchange}
use Rattle.model.proofs.Gathers.{gathered_exactly}

-- every sum over the one list is that over the other
abbrev pub Reordered : {X : Type 0} → List X → List X → Type 0
Reordered {X} xs ys = (f : X → ℕ) → sum_by f xs ≡ sum_by f ys

-- no element is there twice
abbrev pub Once : {X : Type 0} → List X → Type 0
Once [] = Unit {0}
Once (x ∷ xs) = (In x xs → ⊥) × Once xs

-- ---- what keeps lists reordered

module _ {X : Type 0} where
  pub reordered_length : (xs ys : List X) → Reordered xs ys → length xs ≡ length ys
  reordered_length xs ys r = sym (sum_length xs) ∙ r (λ _. 1) ∙ sum_length ys

  pub reordered_kept : (p : X → Bool) (xs ys : List X) → Reordered xs ys → Reordered (filter p xs) (filter p ys)
  reordered_kept p xs ys r f = sum_kept f p xs ∙ r (λ x. cond (p x) (f x) 0) ∙ sym (sum_kept f p ys)

  pub reordered_if : (b : Bool) (xs ys : List X) → Reordered xs ys → Reordered (cond b xs []) (cond b ys [])
  reordered_if true xs ys r f = r f
  reordered_if false xs ys r f = refl

module _ {X Y : Type 0} where
  pub reordered_map : (g : X → Y) (xs ys : List X) → Reordered xs ys → Reordered (map g xs) (map g ys)
  reordered_map g xs ys r f = sum_map f g xs ∙ r (λ x. f (g x)) ∙ sym (sum_map f g ys)

  pub reordered_joined : (g h : X → List Y) (xs ys : List X) → Reordered xs ys → ((x : X) → Reordered (g x) (h x)) → Reordered (flat_map g xs) (flat_map h ys)
  reordered_joined g h xs ys r e f =
      sum_joined f g xs ∙ sum_same (λ x. sum_by f (g x)) (λ x. sum_by f (h x)) (λ x. e x f) xs ∙ r (λ x. sum_by f (h x)) ∙ sym (sum_joined f h ys)

pub reordered_exchange : {X Y Z : Type 0} (g : X → Y → List Z) (xs : List X) (ys : List Y) → Reordered (flat_map (λ x. flat_map (g x) ys) xs) (flat_map (λ y. flat_map (λ x. g x y) xs) ys)
reordered_exchange g xs ys f =
    sum_joined f (λ x. flat_map (g x) ys) xs
    ∙ sum_same (λ x. sum_by f (flat_map (g x) ys)) (λ x. sum_by (λ y. sum_by f (g x y)) ys) (λ x. sum_joined f (g x) ys) xs
    ∙ sum_exchange (λ x y. sum_by f (g x y)) xs ys
    ∙ sum_same (λ y. sum_by (λ x. sum_by f (g x y)) xs) (λ y. sum_by f (flat_map (λ x. g x y) xs)) (λ y. sym (sum_joined f (λ x. g x y) xs)) ys
    ∙ sym (sum_joined f (λ y. flat_map (λ x. g x y) xs) ys)

-- ---- under a total order

module _ {X : Type 0} {cmp : X → X → Ordering} (o : TotalOrder cmp) where
  -- how often x is there
  abbrev one_at : X → X → ℕ
  one_at x y = cond (is_eq (cmp x y)) 1 0

  abbrev times : X → List X → ℕ
  times x ys = sum_by (one_at x) ys

  in_times : (x : X) (ys : List X) → In x ys → 0 < times x ys
  in_times x [] m = absurd m
  in_times x (y ∷ ys) (inl e) =
      let c = sum_by-cons (one_at x) y ys in
      let one : one_at x y ≡ 1 = ap (λ r. cond (is_eq r) 1 0) (ap (cmp x) e ∙ o.itself x) in
      omega (arith, c, one)
  in_times x (y ∷ ys) (inr m) =
      let c = sum_by-cons (one_at x) y ys in
      let h = in_times x ys m in
      omega (arith, c, h)

  times_in : (x : X) (ys : List X) → 0 < times x ys → In x ys
  times_in x [] h = absurd (omega (arith, h))
  times_in x (y ∷ ys) h =
      let c = sum_by-cons (one_at x) y ys in
      let other : one_at x y ≡ 0 → In x (y ∷ ys) = λ none. inr (times_in x ys (omega (arith, c, none, h))) in
      by_answer (cmp x y) (λ (e : cmp x y ≡ Less). other (ap (λ r. cond (is_eq r) 1 0) e)) (λ (e : cmp x y ≡ Equal). inl (sym (o.equal x y e))) (λ (e : cmp x y ≡ Greater). other (ap (λ r. cond (is_eq r) 1 0) e))

  pub reordered_in : (xs ys : List X) → Reordered xs ys → (x : X) → In x xs → In x ys
  reordered_in xs ys r x m = times_in x ys (subst (λ n. 0 < n) (r (one_at x)) (in_times x xs m))

  -- they are gathered to one list
  pub reordered_gathered : (xs ys : List X) → Reordered xs ys → gathered cmp xs ≡ gathered cmp ys
  reordered_gathered xs ys r =
      exactly_same o (λ x. In x xs) (λ x. In x ys) (reordered_in xs ys r) (reordered_in ys xs (λ f. sym (r f))) (gathered cmp xs) (gathered cmp ys) (gathered_exactly o xs) (gathered_exactly o ys)

  put_sum : (f : X → ℕ) (x : X) (ys : List X) → (In x ys → ⊥) → sum_by f (put cmp x ys) ≡ f x + sum_by f ys
  put_sum f x [] none = omega arith
  put_sum f x (y ∷ ys) none =
      let c = sum_by-cons f y ys in
      by_answer (cmp x y) (λ (e : cmp x y ≡ Less). rw e (sum_by-cons f x (y ∷ ys))) (λ (e : cmp x y ≡ Equal). absurd (none (inl (sym (o.equal x y e)))))
      (λ (e : cmp x y ≡ Greater). rw e (let h = put_sum f x ys (λ m. none (inr m)) in let d = sum_by-cons f y (put cmp x ys) in omega (arith, c, d, h)))

  -- gathering only reorders a list that has no element twice
  pub gathered_reordered : (xs : List X) → Once xs → Reordered (gathered cmp xs) xs
  gathered_reordered [] once f = refl
  gathered_reordered (x ∷ xs) once f =
      put_sum f x (gathered cmp xs) (λ m. once.0 ((gathered_exactly o xs).only x m)) ∙ ap (λ n. f x + n) (gathered_reordered xs once.1 f) ∙ sym (sum_by-cons f x xs)
