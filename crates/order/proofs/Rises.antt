-- A rising list is known by its members; what keeps a list rising. Assumes nothing.
use Rattle.std.proofs.Common.{◌≡◌, ℕ, zero, suc, ◌+◌, ◌<◌, ◌≤◌, Bool, List, [], ◌∷◌, length, filter, Ordering, Less, sym, refl, ap, ◌∙◌, subst, ap₂, inl, inr, arith}
use Rattle.std.specs.List.{range_with_len}
use Rattle.std.specs.Cmp.{ranks}
use Rattle.std.specs.Ordering.{MatchOrdering, nat_cmp}
use Rattle.std.proofs.lemmas.Bool.{cond_both, lt-ltb, cond-true}
use Rattle.order.specs.Total.{TotalOrder}
use Rattle.order.specs.Listed.{In, Rising, ListsExactly, OneList}
use Rattle.order.specs.Compared.{not_itself}
use Rattle.order.proofs.Members.{kept_in, counting_in}

module _ {X : Type 0} {cmp : X → X → Ordering} (o : TotalOrder cmp) where
  first_same : (x y : X) (xs ys : List X) → Rising cmp (x ∷ xs) → Rising cmp (y ∷ ys) → In x (y ∷ ys) → In y (x ∷ xs) → x ≡ y
  first_same x y xs ys f g (inl e) n = sym e
  first_same x y xs ys f g (inr m) (inl e) = e
  first_same x y xs ys f g (inr m) (inr n) = absurd (not_itself o x x refl (o.trans x y x (f.0 y n) (g.0 x m)))

  rest_in : (x y z : X) (xs ys : List X) → Rising cmp (x ∷ xs) → x ≡ y → In z xs → In z (y ∷ ys) → In z ys
  rest_in x y z xs ys f e m (inl h) = absurd (not_itself o x z (e ∙ h) (f.0 z m))
  rest_in x y z xs ys f e m (inr n) = n

  pub same_rising : (xs ys : List X) → Rising cmp xs → Rising cmp ys → ((x : X) → In x xs → In x ys) → ((x : X) → In x ys → In x xs) → xs ≡ ys
  same_rising [] [] f g h k = refl
  same_rising [] (y ∷ ys) f g h k = absurd (k y (inl refl))
  same_rising (x ∷ xs) [] f g h k = absurd (h x (inl refl))
  same_rising (x ∷ xs) (y ∷ ys) f g h k =
      let e = first_same x y xs ys f g (h x (inl refl)) (k y (inl refl)) in
      ap₂ ◌∷◌ e (same_rising xs ys f.1 g.1 (λ z m. rest_in x y z xs ys f e m (h z (inr m))) (λ z m. rest_in y x z ys xs g (sym e) m (k z (inr m))))

  -- a rising list with elements of another is no longer than it
  without : (x : X) (ys : List X) → In x ys → List X
  without x [] m = []
  without x (y ∷ ys) (inl e) = ys
  without x (y ∷ ys) (inr m) = y ∷ without x ys m

  length_without : (x : X) (ys : List X) (m : In x ys) → length ys ≡ suc (length (without x ys m))
  unfolding without
  length_without x [] m = absurd m
  length_without x (y ∷ ys) (inl e) = refl
  length_without x (y ∷ ys) (inr m) = ap suc (length_without x ys m)

  in_without : (x z : X) (ys : List X) (m : In x ys) → (x ≡ z → ⊥) → In z ys → In z (without x ys m)
  unfolding without
  in_without x z [] m ne i = absurd m
  in_without x z (y ∷ ys) (inl e) ne (inl f) = absurd (ne (sym e ∙ f))
  in_without x z (y ∷ ys) (inl e) ne (inr i) = i
  in_without x z (y ∷ ys) (inr m) ne (inl f) = inl f
  in_without x z (y ∷ ys) (inr m) ne (inr i) = inr (in_without x z ys m ne i)

  pub rising_short : (xs ys : List X) → Rising cmp xs → ((x : X) → In x xs → In x ys) → length xs ≤ length ys
  rising_short [] ys c f = omega arith
  rising_short (x ∷ xs) ys c f =
      let m = f x (inl refl) in
      let one = length_without x ys m in
      let rest = rising_short xs (without x ys m) c.1 (λ z i. in_without x z ys m (λ e. not_itself o x z e (c.0 z i)) (f z (inr i))) in
      omega arith

-- one list only has exactly the elements that a fact holds of, however the fact is said
pub exactly_same : {X : Type 0} {cmp : X → X → Ordering} (o : TotalOrder cmp) (P Q : X → Type 0) → ((x : X) → P x → Q x) → ((x : X) → Q x → P x) → (xs ys : List X) → ListsExactly cmp xs P → ListsExactly cmp ys Q → xs ≡ ys
exactly_same o P Q f g xs ys a b =
    same_rising o xs ys a.rises b.rises (λ x m. b.every x (f x (a.only x m))) (λ x m. a.every x (g x (b.only x m)))

pub one_list : (X : Type 0) → OneList X
one_list X cmp o = same_rising o

pub rising_kept : {X : Type 0} (cmp : X → X → Ordering) (test : X → Bool) (xs : List X) → Rising cmp xs → Rising cmp (filter test xs)
rising_kept cmp test [] c = tt
rising_kept cmp test (x ∷ xs) c =
    cond_both (test x) (x ∷ filter test xs) (filter test xs) (Rising cmp)
    (λ _. (λ y m. c.0 y (kept_in test xs y m), rising_kept cmp test xs c.1))
    (λ _. rising_kept cmp test xs c.1)

pub rank_less : (a b : ℕ) → a < b → nat_cmp a b ≡ Less
rank_less a b h = cond-true _ _ _ (lt-ltb a b h)

pub rising_counting : (a n : ℕ) → Rising nat_cmp (range_with_len a n)
rising_counting a zero = tt
rising_counting a (suc n) = (λ y m. let h = counting_in (a + 1) n y m in rank_less a y (omega arith), rising_counting (a + 1) n)

pub rank_lt : (a b : ℕ) → nat_cmp a b ≡ Less → a < b
rank_lt a b e = subst (λ r. MatchOrdering r (a < b) (a ≡ b) (b < a)) e (ranks a b)
