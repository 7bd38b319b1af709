-- What is gathered rises, and has the members of what it was gathered from.
use Rattle.std.proofs.Common.{◌≡◌, ◌⊎◌, List, [], ◌∷◌, Ordering, Less, Equal, Greater, sym, refl, subst, inl, inr, ⊎_elim}
use Rattle.order.specs.Total.{TotalOrder}
use Rattle.order.specs.Listed.{In, Rising, ListsExactly}
use Rattle.order.specs.Compared.{by_answer}
use Rattle.ordered.proofs.Edits.{greater_less}
use Rattle.model.specs.Gathering.{put, gathered}

module _ {X : Type 0} {cmp : X → X → Ordering} (o : TotalOrder cmp) where
  pub put_in : (x : X) (ys : List X) → In x (put cmp x ys)
  put_in x [] = inl refl
  put_in x (y ∷ ys) =
      by_answer (cmp x y) (λ (e : cmp x y ≡ Less). rw e (inl refl)) (λ (e : cmp x y ≡ Equal). rw e (inl (sym (o.equal x y e))))
      (λ (e : cmp x y ≡ Greater). rw e (inr (put_in x ys)))

  pub put_keeps : (x : X) (ys : List X) (z : X) → In z ys → In z (put cmp x ys)
  put_keeps x [] z h = absurd h
  put_keeps x (y ∷ ys) z h =
      by_answer (cmp x y) (λ (e : cmp x y ≡ Less). rw e (inr h)) (λ (e : cmp x y ≡ Equal). rw e h)
      (λ (e : cmp x y ≡ Greater). rw e (⊎_elim (λ (q : y ≡ z). inl q) (λ (q : In z ys). inr (put_keeps x ys z q)) h))

  pub put_only : (x : X) (ys : List X) (z : X) → In z (put cmp x ys) → (x ≡ z) ⊎ In z ys
  put_only x [] z h = h
  put_only x (y ∷ ys) z h =
      by_answer (cmp x y) (λ (e : cmp x y ≡ Less). rw e at h) (λ (e : cmp x y ≡ Equal). inr (rw e at h))
      (λ (e : cmp x y ≡ Greater).
      let k : In z (y ∷ put cmp x ys) = rw e at h in
      ⊎_elim (λ (q : y ≡ z). inr (inl q)) (λ (q : In z (put cmp x ys)). ⊎_elim (λ (r : x ≡ z). inl r) (λ (r : In z ys). inr (inr r)) (put_only x ys z q)) k)

  pub put_rises : (x : X) (ys : List X) → Rising cmp ys → Rising cmp (put cmp x ys)
  put_rises x [] h = ((λ y q. absurd q), tt)
  put_rises x (y ∷ ys) h =
      by_answer (cmp x y)
      (λ (e : cmp x y ≡ Less).
      rw e ((λ z q. ⊎_elim (λ (r : y ≡ z). subst (λ (v : X). cmp x v ≡ Less) r e) (λ (r : In z ys). o.trans x y z e (h.0 z r)) q), h))
      (λ (e : cmp x y ≡ Equal). rw e h)
      (λ (e : cmp x y ≡ Greater).
      rw e ((λ z q. ⊎_elim (λ (r : x ≡ z). subst (λ (v : X). cmp y v ≡ Less) r (greater_less o y x e)) (λ (r : In z ys). h.0 z r) (put_only x ys z q)), put_rises x ys h.1))

  pub gathered_exactly : (xs : List X) → ListsExactly cmp (gathered cmp xs) (λ x. In x xs)
  gathered_exactly [] = record { rises = tt; only = λ x h. h; every = λ x h. h }
  gathered_exactly (x ∷ xs) =
      let r = gathered_exactly xs in
      record {
        rises = put_rises x (gathered cmp xs) r.rises;
        only = λ z h. ⊎_elim (λ (q : x ≡ z). inl q) (λ (q : In z (gathered cmp xs)). inr (r.only z q)) (put_only x (gathered cmp xs) z h);
        every = λ z h. ⊎_elim (λ (q : x ≡ z). subst (λ (v : X). In v (put cmp x (gathered cmp xs))) q (put_in x (gathered cmp xs))) (λ (q : In z xs). put_keeps x (gathered cmp xs) z (r.every z q)) h;
      }
