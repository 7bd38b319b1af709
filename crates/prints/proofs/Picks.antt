-- The rightmost place of a smallest value of a window: there is one, and only one; windows further on have theirs no further left. Assumes nothing.
use Rattle.std.proofs.Common.{◌≡◌, ℕ, zero, suc, ◌+◌, ◌-◌, ◌<◌, ◌≤◌, Bool, true, false, cond, eqb, Decides, Ordering, Less, Equal, Greater, sym, refl, ap, ◌∙◌, subst, ap₂, ⊎_elim, arith}
use Rattle.std.specs.List.{range_with_len}
use Rattle.std.specs.Ordering.{is_lt, ordering_reverse, nat_cmp}
use Rattle.std.proofs.lemmas.Bool.{false≢true, cond_both, cases_lt}
use Rattle.std.proofs.lemmas.Bool.Decides.{Decides-below_or, Decides-eqb}
use Rattle.order.specs.Total.{TotalOrder}
use Rattle.order.specs.Listed.{In, Rising}
use Rattle.order.specs.Compared.{by_answer, not_itself, tie}
use Rattle.order.proofs.Members.{in_kept, kept_passes, in_counting}
use Rattle.order.proofs.Rises.{rising_kept, rising_counting}
use Rattle.prints.specs.Choice.{Rightmost, Chosen, Agrees, pick, some_below, is_picked, chosen}

is_lt_less : (o : Ordering) → is_lt o ≡ true → o ≡ Less
is_lt_less Less e = refl
is_lt_less Equal e = absurd (false≢true e)
is_lt_less Greater e = absurd (false≢true e)

less_is_lt : (o : Ordering) → is_lt o ≡ false → o ≡ Less → ⊥
less_is_lt o f l = false≢true (sym f ∙ ap is_lt l)

-- the same values, perhaps at other places: what one window chooses, the other chooses there
module _ {V : Type 0} (at there : ℕ → V) (s z w : ℕ) (alike : (d : ℕ) → d < w → at (s + d) ≡ there (z + d)) where
  moved : (p q : ℕ) → s ≤ p → p < s + w → p + z ≡ q + s → at p ≡ there q
  moved p q lo hi e =
      let back : p ≡ s + (p - s) = omega arith in
      let on : z + (p - s) ≡ q = omega arith in
      ap at back ∙ alike (p - s) (omega arith) ∙ ap there on

  pub rightmost_moved : {cmp : V → V → Ordering} (p q : ℕ) → p + z ≡ q + s → Rightmost cmp at s w p → Rightmost cmp there z w q
  rightmost_moved {cmp} p q e r =
      let lo = r.from in
      let hi = r.below in
      let same-p = moved p q lo hi e in
      record {
        from = omega arith;
        below = omega arith;
        least = λ c a b less. r.least (s + (c - z)) (omega arith) (omega arith) (ap₂ cmp (moved (s + (c - z)) c (omega arith) (omega arith) (omega arith)) same-p ∙ less);
        last = λ c a b f. r.last (s + (c - z)) (omega arith) (omega arith) (moved (s + (c - z)) c (omega arith) (omega arith) (omega arith) ∙ f ∙ sym same-p);
      }

module _ {V : Type 0} {cmp : V → V → Ordering} (o : TotalOrder cmp) (at : ℕ → V) where
  -- a window of one
  pub rightmost_single : (s : ℕ) → Rightmost cmp at s 1 s
  rightmost_single s = record {
    from = omega arith;
    below = omega arith;
    least = λ q a b. not_itself o (at q) (at s) (ap at (omega arith));
    last = λ q a b e. absurd (omega arith);
  }

  -- what is smaller than the right one is smaller than the left one, unless that is smaller than the right one
  below_left : (x y z : V) → cmp x z ≡ Less → is_lt (cmp y z) ≡ false → cmp x y ≡ Less
  below_left x y z l no' =
      by_answer (cmp y z)
      (λ h. absurd (less_is_lt (cmp y z) no' h))
      (λ h. ap (cmp x) (o.equal y z h) ∙ l)
      (λ h. o.trans x z y l (o.flip z y ∙ ap ordering_reverse h))

  -- two windows side by side: the smaller of the two, and the right one of equals
  pub rightmost_join : (s v w z p q : ℕ) → s + v ≡ z → Rightmost cmp at s v p → Rightmost cmp at z w q → Rightmost cmp at s (v + w) (cond (is_lt (cmp (at p) (at q))) p q)
  rightmost_join s v w z p q e f g =
      let pl = f.from in
      let ph = f.below in
      let ql = g.from in
      let qh = g.below in
      cond_both (is_lt (cmp (at p) (at q))) p q (Rightmost cmp at s (v + w))
      (λ yes'.
      let less = is_lt_less (cmp (at p) (at q)) yes' in
      record {
        from = omega arith;
        below = omega arith;
        least = λ c a b l. ⊎_elim (λ lt. f.least c a (omega arith) l) (λ le. g.least c (omega arith) (omega arith) (o.trans (at c) (at p) (at q) l less)) (cases_lt c z);
        last = λ c a b same. ⊎_elim (λ lt. f.last c a (omega arith) same) (λ le. g.least c (omega arith) (omega arith) (ap (λ x. cmp x (at q)) same ∙ less)) (cases_lt c z);
      })
      (λ no'. record {
        from = omega arith;
        below = omega arith;
        least = λ c a b l. ⊎_elim (λ lt. f.least c a (omega arith) (below_left (at c) (at p) (at q) l no')) (λ le. g.least c (omega arith) (omega arith) l) (cases_lt c z);
        last = λ c a b. g.last c a (omega arith);
      })

  pub pick_rightmost : (s m : ℕ) → Rightmost cmp at s (suc m) (pick cmp at s m)
  pick_rightmost s zero = rightmost_single s
  pick_rightmost s (suc m) =
      let e : s + 1 ≡ suc s = omega arith in
      let size : 1 + suc m ≡ suc (suc m) = omega arith in
      subst (λ w. Rightmost cmp at s w (pick cmp at s (suc m))) size (rightmost_join s 1 (suc m) (suc s) s (pick cmp at (suc s) m) e (rightmost_single s) (pick_rightmost (suc s) m))

  -- the window of w places from s on
  pub picked_rightmost : (s w : ℕ) → 0 < w → Rightmost cmp at s w (pick cmp at s (w - 1))
  picked_rightmost s w pos =
      let one : suc (w - 1) ≡ w = omega arith in
      subst (λ x. Rightmost cmp at s x (pick cmp at s (w - 1))) one (pick_rightmost s (w - 1))

  -- windows further on have theirs no further left
  pub rightmost_rises : (s z w p q : ℕ) → s ≤ z → Rightmost cmp at s w p → Rightmost cmp at z w q → p ≤ q
  rightmost_rises s z w p q le f g =
      let pl = f.from in
      let ph = f.below in
      let ql = g.from in
      let qh = g.below in
      ⊎_elim
      (λ lt.
      let e : at q ≡ at p = tie o (at q) (at p) (f.least q (omega arith) (omega arith)) (g.least p (omega arith) (omega arith)) in
      absurd (g.last p lt (omega arith) (sym e)))
      (λ h. h)
      (cases_lt q p)

  pub rightmost_one : (s w p q : ℕ) → Rightmost cmp at s w p → Rightmost cmp at s w q → p ≡ q
  rightmost_one s w p q f g =
      let a = rightmost_rises s s w p q (omega arith) f g in
      let b = rightmost_rises s s w q p (omega arith) g f in
      omega arith

  -- the places that are picked are those of some window
  picked : (w n p : ℕ) → Decides (is_picked cmp w at n p) ((s : ℕ) × (s < n + 1 - w) × (p ≡ pick cmp at s (w - 1)))
  picked w n p =
      let test : ℕ → Bool = λ s. eqb p (pick cmp at s (w - 1)) in
      Decides-below_or test (λ s. p ≡ pick cmp at s (w - 1)) (some_below test) (λ s. Decides-eqb p (pick cmp at s (w - 1))) refl (λ _. refl) (n + 1 - w)

  pub in_chosen : (w n p : ℕ) → 0 < w → Chosen cmp w at n p → In p (chosen cmp w at n)
  in_chosen w n p pos c =
      let s = c.0 in
      let fits = c.1 in
      let r = c.2 in
      let lo = r.from in
      let hi = r.below in
      in_kept _ (range_with_len 0 n) p (in_counting 0 n p (omega arith) (omega arith)) ((picked w n p).1 (s, omega arith, rightmost_one s w p _ r (picked_rightmost s w pos)))

  pub chosen_in : (w n p : ℕ) → 0 < w → In p (chosen cmp w at n) → Chosen cmp w at n p
  chosen_in w n p pos m =
      let found = (picked w n p).0 (kept_passes _ (range_with_len 0 n) p m) in
      let s = found.0 in
      let lt : s < n + 1 - w = found.1 in
      (s, omega arith, subst (λ x. Rightmost cmp at s w x) (sym found.2) (picked_rightmost s w pos))

pub chosen_rises : {V : Type 0} (cmp : V → V → Ordering) (w : ℕ) (at : ℕ → V) (n : ℕ) → Rising nat_cmp (chosen cmp w at n)
chosen_rises cmp w at n = rising_kept nat_cmp (is_picked cmp w at n) (range_with_len 0 n) (rising_counting 0 n)

pub agrees : (V : Type 0) → Agrees V
agrees V cmp o w pos at n = record { rises = chosen_rises cmp w at n; only = λ p. chosen_in o at w n p pos; every = λ p. in_chosen o at w n p pos }
