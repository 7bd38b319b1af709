-- Two rising lists merged from their ends. Assumes nothing.
use Rattle.std.proofs.Common.{◌≡◌, ◌⊎◌, List, [], ◌∷◌, ◌++◌, Ordering, Less, Equal, Greater, sym, refl, ap, ◌∙◌, subst, inl, inr, ⊎_elim}
use Rattle.std.proofs.lemmas.List.{append_assoc, append-nil}
use Rattle.order.specs.Total.{TotalOrder}
use Rattle.order.specs.Listed.{In, Rising, ListsExactly}
use Rattle.order.proofs.Joins.{append_in, in_left, in_right, rising_append}
use Rattle.ordered.proofs.Edits.{rising_split, greater_less}

-- what is left of the two lists, `L` and `B`, and what is written already, `S`: each of the two goes on into S, and together they are what P names
pub record Merging {X : Type 0} (cmp : X → X → Ordering) (P : X → Type 0) (L B S : List X) : Type 0 where
  pub left : Rising cmp (L ++ S)
  pub right : Rising cmp (B ++ S)
  pub from_left : (z : X) → In z (L ++ S) → P z
  pub from_right : (z : X) → In z (B ++ S) → P z
  pub every : (z : X) → P z → In z (L ++ S) ⊎ In z (B ++ S)

module _ {X : Type 0} {cmp : X → X → Ordering} (P : X → Type 0) where
  pub merging_none : (L B : List X) → Rising cmp L → Rising cmp B → ((z : X) → In z L ⊎ In z B → P z) → ((z : X) → P z → In z L ⊎ In z B) → Merging cmp P L B []
  merging_none L B l b f g = record {
    left = subst (Rising cmp) (sym (append-nil L)) l;
    right = subst (Rising cmp) (sym (append-nil B)) b;
    from_left = λ z m. f z (inl (subst (In z) (append-nil L) m));
    from_right = λ z m. f z (inr (subst (In z) (append-nil B) m));
    every = λ z p. ⊎_elim (λ m. inl (subst (In z) (sym (append-nil L)) m)) (λ m. inr (subst (In z) (sym (append-nil B)) m)) (g z p);
  }

  pub merging_swap : (L B S : List X) → Merging cmp P L B S → Merging cmp P B L S
  merging_swap L B S h = record {
    left = h.right;
    right = h.left;
    from_left = h.from_right;
    from_right = h.from_left;
    every = λ z p. ⊎_elim inr inl (h.every z p);
  }

  pub merging_left_done : (B S : List X) → Merging cmp P [] B S → ListsExactly cmp (B ++ S) P
  merging_left_done B S h = record {
    rises = h.right;
    only = h.from_right;
    every = λ z p. ⊎_elim (in_right B S z) (λ m. m) (h.every z p);
  }

  module _ (o : TotalOrder cmp) where
    -- the last of B is greater than all of L: it is the next
    pub merging_right : (L B S : List X) (y : X) → Merging cmp P L (B ++ y ∷ []) S → ((z : X) → In z L → cmp z y ≡ Less) → Merging cmp P L B (y ∷ S)
    merging_right L B S y h f =
        let e = append_assoc B (y ∷ []) S in
        let r = subst (Rising cmp) e h.right in
        let l = rising_split cmp L S h.left in
        let s = rising_split cmp B (y ∷ S) r in
        record {
          left = rising_append cmp L (y ∷ S) l.0 s.1 (λ a b m n. ⊎_elim (λ q. subst (λ w. cmp a w ≡ Less) q (f a m)) (λ k. l.2 a b m k) n);
          right = r;
          from_left = λ z m. ⊎_elim (λ a. h.from_left z (in_left L S z a)) (λ n. h.from_right z (subst (In z) (sym e) (in_right B (y ∷ S) z n))) (append_in L (y ∷ S) z m);
          from_right = λ z m. h.from_right z (subst (In z) (sym e) m);
          every = λ z p. ⊎_elim (λ m. inl (⊎_elim (in_left L (y ∷ S) z) (λ k. in_right L (y ∷ S) z (inr k)) (append_in L S z m))) (λ m. inr (subst (In z) e m)) (h.every z p);
        }

    -- the last of both is the same record: it is the next, once
    pub merging_both : (L B S : List X) (x y : X) → Merging cmp P (L ++ x ∷ []) (B ++ y ∷ []) S → x ≡ y → Merging cmp P L B (x ∷ S)
    merging_both L B S x y h q =
        let e = append_assoc L (x ∷ []) S in
        let f : (B ++ y ∷ []) ++ S ≡ B ++ (x ∷ S) = append_assoc B (y ∷ []) S ∙ ap (λ w. B ++ (w ∷ S)) (sym q) in
        record {
          left = subst (Rising cmp) e h.left;
          right = subst (Rising cmp) f h.right;
          from_left = λ z m. h.from_left z (subst (In z) (sym e) m);
          from_right = λ z m. h.from_right z (subst (In z) (sym f) m);
          every = λ z p. ⊎_elim (λ m. inl (subst (In z) e m)) (λ m. inr (subst (In z) f m)) (h.every z p);
        }

    -- all of a list are below what is above its last
    pub below_last : (L S : List X) (x y : X) → Rising cmp ((L ++ x ∷ []) ++ S) → cmp x y ≡ Less → (z : X) → In z (L ++ x ∷ []) → cmp z y ≡ Less
    below_last L S x y c l z m =
        let r = (rising_split cmp (L ++ x ∷ []) S c).0 in
        let s = rising_split cmp L (x ∷ []) r in
        ⊎_elim (λ n. o.trans z x y (s.2 z x n (inl refl)) l) (⊎_elim (λ q. subst (λ w. cmp w y ≡ Less) q l) (λ k. absurd k)) (append_in L (x ∷ []) z m)

    -- by the answer of a comparison of the two last records
    pub merging_less : (L B S : List X) (x y : X) → Merging cmp P (L ++ x ∷ []) (B ++ y ∷ []) S → cmp x y ≡ Less → Merging cmp P (L ++ x ∷ []) B (y ∷ S)
    merging_less L B S x y h l = merging_right (L ++ x ∷ []) B S y h (below_last L S x y h.left l)

    pub merging_greater : (L B S : List X) (x y : X) → Merging cmp P (L ++ x ∷ []) (B ++ y ∷ []) S → cmp x y ≡ Greater → Merging cmp P L (B ++ y ∷ []) (x ∷ S)
    merging_greater L B S x y h g = merging_swap (B ++ y ∷ []) L (x ∷ S) (merging_less B L S y x (merging_swap (L ++ x ∷ []) (B ++ y ∷ []) S h) (greater_less o y x g))

    pub merging_equal : (L B S : List X) (x y : X) → Merging cmp P (L ++ x ∷ []) (B ++ y ∷ []) S → cmp x y ≡ Equal → Merging cmp P L B (x ∷ S)
    merging_equal L B S x y h e = merging_both L B S x y h (o.equal x y e)
