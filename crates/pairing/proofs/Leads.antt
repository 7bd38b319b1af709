-- The front of a list that passes a test, and lists of which one part passes.
use Rattle.std.proofs.Common.{◌≡◌, Bool, true, false, List, [], ◌∷◌, ◌++◌, take, drop, filter, Ordering, Less, sym, refl, ap, ◌∙◌, subst, ap₂, inl, inr, ⊎_elim, append-nil, one-add}
use Rattle.std.specs.List.{flat_map, prefix_len}
use Rattle.std.proofs.lemmas.Bool.{cases_Bool}
use Rattle.std.proofs.lemmas.List.Elements.{filter-append}
use Rattle.order.specs.Listed.{In, Rising}
use Rattle.order.proofs.Members.{kept_in, kept_all, kept_none}

module _ {X : Type 0} (p : X → Bool) where
  -- the first passes, or not
  front_yes : (y : X) (ys : List X) → p y ≡ true → take (prefix_len p (y ∷ ys)) (y ∷ ys) ≡ y ∷ take (prefix_len p ys) ys
  front_yes y ys e = rw (e, one-add) refl

  rest_yes : (y : X) (ys : List X) → p y ≡ true → drop (prefix_len p (y ∷ ys)) (y ∷ ys) ≡ drop (prefix_len p ys) ys
  rest_yes y ys e = rw (e, one-add) refl

  front_no : (y : X) (ys : List X) → p y ≡ false → take (prefix_len p (y ∷ ys)) (y ∷ ys) ≡ []
  front_no y ys e = rw e refl

  rest_no : (y : X) (ys : List X) → p y ≡ false → drop (prefix_len p (y ∷ ys)) (y ∷ ys) ≡ y ∷ ys
  rest_no y ys e = rw e refl

  -- the front passes
  pub passed : (xs : List X) (x : X) → In x (take (prefix_len p xs) xs) → p x ≡ true
  passed [] x i = absurd i
  passed (y ∷ ys) x i =
      ⊎_elim
      (λ (e : p y ≡ true). ⊎_elim (λ (q : y ≡ x). ap p (sym q) ∙ e) (λ (j : In x (take (prefix_len p ys) ys)). passed ys x j) (subst (In x) (front_yes y ys e) i))
      (λ (e : p y ≡ false). absurd (subst (In x) (front_no y ys e) i))
      (cases_Bool (p y))

  -- and what stands right behind it does not
  pub stopped : (xs : List X) (y : X) (ys : List X) → drop (prefix_len p xs) xs ≡ y ∷ ys → p y ≡ false
  stopped [] y ys e = let never : [] ≡ y ∷ ys = e in cc
  stopped (z ∷ zs) y ys e =
      ⊎_elim
      (λ (q : p z ≡ true). stopped zs y ys (sym (rest_yes z zs q) ∙ e))
      (λ (q : p z ≡ false). let same : z ∷ zs ≡ y ∷ ys = sym (rest_no z zs q) ∙ e in cc)
      (cases_Bool (p z))

  -- where all after one that fails fail, all behind it fail
  pub failed : {cmp : X → X → Ordering} (xs : List X) → Rising cmp xs → ((x y : X) → In x xs → In y xs → cmp x y ≡ Less → p x ≡ false → p y ≡ false) → (x : X) → In x (drop (prefix_len p xs) xs) → p x ≡ false
  failed [] r keeps x i = absurd i
  failed (y ∷ ys) r keeps x i =
      ⊎_elim
      (λ (e : p y ≡ true). failed ys r.1 (λ a b j k. keeps a b (inr j) (inr k)) x (subst (In x) (rest_yes y ys e) i))
      (λ (e : p y ≡ false). ⊎_elim (λ (q : y ≡ x). ap p (sym q) ∙ e) (λ (j : In x ys). keeps y x (inl refl) (inr j) (r.0 x j) e) (subst (In x) (rest_no y ys e) i))
      (cases_Bool (p y))

-- of three parts only the middle one passes the second test
pub kept_middle : {X : Type 0} (p q : X → Bool) (a b c : List X) → ((x : X) → In x a → q x ≡ false) → ((x : X) → In x b → q x ≡ true) → ((x : X) → In x c → q x ≡ false) → filter q (filter p (a ++ (b ++ c))) ≡ filter p b
kept_middle {X} p q a b c before here after =
    ap (filter q) (filter-append p a (b ++ c) ∙ ap (λ (l : List X). filter p a ++ l) (filter-append p b c))
    ∙ filter-append q (filter p a) (filter p b ++ filter p c)
    ∙ ap₂ (λ (l m : List X). l ++ m) (kept_none q (filter p a) (λ x i. before x (kept_in p a x i)))
    (filter-append q (filter p b) (filter p c)
    ∙ ap₂ (λ (l m : List X). l ++ m) (kept_all q (filter p b) (λ x i. here x (kept_in p b x i))) (kept_none q (filter p c) (λ x i. after x (kept_in p c x i)))
    ∙ append-nil (filter p b))

module _ {X Y : Type 0} where
  pub joined_none : (f : X → List Y) (xs : List X) → ((x : X) → In x xs → f x ≡ []) → flat_map f xs ≡ []
  joined_none f [] h = refl
  joined_none f (x ∷ xs) h = rw (h x (inl refl)) (joined_none f xs (λ y i. h y (inr i)))

  pub joined_same : (f g : X → List Y) (xs : List X) → ((x : X) → In x xs → f x ≡ g x) → flat_map f xs ≡ flat_map g xs
  joined_same f g [] h = refl
  joined_same f g (x ∷ xs) h = ap₂ (λ a b. a ++ b) (h x (inl refl)) (joined_same f g xs (λ y i. h y (inr i)))
