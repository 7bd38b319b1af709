-- The window queue: the best of a block's ends, and of windows that lie over two blocks. Assumes nothing.
use Rattle.std.proofs.Common.{◌≡◌, ℕ, ◌+◌, ◌-◌, ◌<◌, ◌≤◌, Bool, true, false, cond, List, length, get_or, set, Option, Some, None, MatchOption, Ordering, sym, refl, ap, ◌∙◌, subst, ap₂, ⊎_elim, arith}
use Rattle.std.specs.Ordering.{is_lt}
use Rattle.std.proofs.lemmas.List.{length-set, get_or-set_same, get_or-set_other}
use Rattle.std.proofs.lemmas.Bool.{true≢false, cases_eq}
use Rattle.order.specs.Total.{TotalOrder}
use Rattle.prints.specs.declared.window.Placed.{Placed}
use Rattle.prints.specs.declared.window.WindowQueue.{WindowQueue}
use Rattle.prints.specs.Choice.{Rightmost, at_place}
use Rattle.prints.specs.Best.{better_of, Best, Whole, Settled}
use Rattle.prints.specs.Window.{width, Block, Pushed}
use Rattle.prints.proofs.Picks.{rightmost_single, rightmost_join}

-- the slots from j on are settled, and `best` is what stands at j; those before are as they were
pub record Settling {V : Type 0} (cmp : V → V → Ordering) (j : ℕ) (best : Placed V) (before after : List (Placed V)) : Type 0 where
  pub inside : j < length before
  pub same : length after ≡ length before
  pub front : (at : ℕ → V) (b : ℕ) → Whole cmp at b before → Best cmp at (b + j) (length before - j) best
  pub done : (at : ℕ → V) (b : ℕ) → Whole cmp at b before → (i : ℕ) → j ≤ i → i < length before → (d : Placed V) → Best cmp at (b + i) (length before - i) (get_or after i d)
  pub kept : (i : ℕ) → i < j → (d : Placed V) → get_or after i d ≡ get_or before i d

module _ {V : Type 0} {cmp : V → V → Ordering} {at : ℕ → V} where
  -- the same window, said otherwise
  pub best_moved : {s z v w : ℕ} {x y : Placed V} → s ≡ z → v ≡ w → x ≡ y → Best cmp at s v x → Best cmp at z w y
  best_moved {s} {z} {v} {w} {x} {y} e f g h = subst (λ a. Best cmp at a w y) e (subst (λ a. Best cmp at s a y) f (subst (λ a. Best cmp at s v a) g h))

  best_cond : (s w : ℕ) (x y : Placed V) (t : Bool) → Rightmost cmp at s w (cond t x.place y.place) → x.value ≡ at x.place → y.value ≡ at y.place → Best cmp at s w (cond t x y)
  best_cond s w x y true r e f = record { place = r; value = e }
  best_cond s w x y false r e f = record { place = r; value = f }

module _ {V : Type 0} {cmp : V → V → Ordering} (o : TotalOrder cmp) where
  -- the best of two windows side by side
  pub best_join : (at : ℕ → V) (s v w z : ℕ) (x y : Placed V) → s + v ≡ z → Best cmp at s v x → Best cmp at z w y → Best cmp at s (v + w) (better_of cmp x y)
  best_join at s v w z x y e f g =
      let r = rightmost_join o at s v w z x.place y.place e f.place g.place in
      let same : cmp (at x.place) (at y.place) ≡ cmp x.value y.value = sym (ap₂ cmp f.value g.value) in
      best_cond s (v + w) x y (is_lt (cmp x.value y.value)) (subst (λ k. Rightmost cmp at s (v + w) (cond (is_lt k) x.place y.place)) same r) f.value g.value

  -- the value at n, alone
  best_single : (at : ℕ → V) (n : ℕ) (x : Placed V) → x ≡ at_place at n → Best cmp at n 1 x
  best_single at n x e = subst (Best cmp at n 1) (sym e) (record { place = rightmost_single o at n; value = refl })

  pub settling_starts : (slots : List (Placed V)) (best : Placed V) → 0 < length slots → best ≡ get_or slots (length slots - 1) best → Settling cmp (length slots - 1) best slots slots
  settling_starts slots best pos e = record {
    inside = omega arith;
    same = refl;
    front = λ at b h. best_moved refl (omega arith) (sym e) (h (length slots - 1) (omega arith) best);
    done = λ at b h i lo hi d. best_moved refl (omega arith) refl (h i hi d);
    kept = λ i lt d. refl;
  }

  pub settling_more : (j : ℕ) (best here x : Placed V) (before after : List (Placed V)) → 0 < j → here ≡ get_or after (j - 1) here → x ≡ better_of cmp here best → Settling cmp j best before after → Settling cmp (j - 1) x before (set after (j - 1) x)
  settling_more j best here x before after pos here_is is h =
      let in' = h.inside in
      let same = h.same in
      let lt : j - 1 < length after = omega arith in
      let front : (at : ℕ → V) (b : ℕ) → Whole cmp at b before → Best cmp at (b + (j - 1)) (length before - (j - 1)) x =
      λ at b whole.
      best_moved refl (omega arith) (sym is)
      (best_join at (b + (j - 1)) 1 (length before - j) (b + j) here best (omega arith)
      (best_moved refl refl (sym (here_is ∙ h.kept (j - 1) (omega arith) here)) (whole (j - 1) (omega arith) here))
      (h.front at b whole)) in
      record {
        inside = omega arith;
        same = length-set after (j - 1) x ∙ same;
        front = front;
        done = λ at b whole i lo hi e.
            ⊎_elim
            (λ eq. best_moved (ap (λ m. b + m) (sym eq)) (ap (λ m. length before - m) (sym eq)) (sym (ap (λ m. get_or (set after (j - 1) x) m e) eq ∙ get_or-set_same after (j - 1) x e lt)) (front at b whole))
            (λ ne. best_moved refl refl (sym (get_or-set_other after (j - 1) i x e ne)) (h.done at b whole i (omega arith) hi e))
            (cases_eq i (j - 1));
        kept = λ i l e. get_or-set_other after (j - 1) i x e (λ eq. omega arith) ∙ h.kept i (omega arith) e;
      }

  -- from j = 0 the whole block is settled
  pub settled_all : (j : ℕ) (best : Placed V) (before after : List (Placed V)) → j ≤ 0 → Settling cmp j best before after → (at : ℕ → V) (b : ℕ) → Whole cmp at b before → Settled cmp at b after
  settled_all j best before after none h at b whole i lt d =
      let same = h.same in
      best_moved refl (omega arith) refl (h.done at b whole i (omega arith) (omega arith) d)

  -- the best of a block of n values, with one more
  grown_best : (at : ℕ → V) (b n : ℕ) (before : Option (Placed V)) (x new : Placed V)
      → MatchOption before (n ≡ 0) (λ m. (0 < n) × Best cmp at b n m) → MatchOption before (x ≡ new) (λ m. x ≡ better_of cmp m new) → Best cmp at (b + n) 1 new → Best cmp at b (n + 1) x
  grown_best at b n None x new none e h = best_moved (omega arith) (omega arith) (sym e) h
  grown_best at b n (Some m) x new some e h = best_moved refl refl (sym e) (best_join at b n 1 (b + n) m new refl some.1 h)

  module _ (q : WindowQueue V) (at : ℕ → V) (n : ℕ) (new back : Placed V) (new_is : new ≡ at_place at n) (grows : MatchOption q.back (back ≡ new) (λ m. back ≡ better_of cmp m new)) (b : ℕ) (k : Block cmp at n b q) where
    come : Best cmp at (b + q.taken) 1 new
    come = best_moved (sym k.count) refl refl (best_single at n new new_is)

    best_so_far : Best cmp at b (q.taken + 1) back
    best_so_far = grown_best at b q.taken q.back back new k.back grows come

    abbrev slots' : List (Placed V)
    slots' = set q.slots.now q.taken new

    -- the block's values, with the one that came
    new_slots : (j : ℕ) → j < q.taken + 1 → (d : Placed V) → Best cmp at (b + j) 1 (get_or slots' j d)
    new_slots j lt d =
        ⊎_elim
        (λ e. best_moved (ap (λ m. b + m) (sym e)) refl (sym (ap (λ m. get_or slots' m d) e ∙ get_or-set_same q.slots.now q.taken new d q.room)) come)
        (λ ne. best_moved refl refl (sym (get_or-set_other q.slots.now q.taken j new d ne)) (k.new j (omega arith) d))
        (cases_eq j q.taken)

    -- the block is full: its ends are settled, and a new one begins
    pub pushed_full : (z : WindowQueue V) → q.taken + 1 ≡ width q → width z ≡ width q → z.taken ≡ 0 → z.back ≡ None → z.wrapped ≡ true → (Whole cmp at b slots' → Settled cmp at b z.slots.now) → Pushed cmp at n z (Some back)
    pushed_full z full wide taken empty wrapped settles =
        let count = k.count in
        let long = length-set q.slots.now q.taken new in
        let settled = settles (λ j lt d. new_slots j (omega arith) d) in
        let block : Block cmp at (n + 1) (b + width q) z =
        record {
          count = omega arith;
          first = λ e. absurd (true≢false (sym wrapped ∙ e));
          later = λ e. omega arith;
          back = subst (λ o. MatchOption o (z.taken ≡ 0) (λ m. (0 < z.taken) × Best cmp at (b + width q) z.taken m)) (sym empty) taken;
          new = λ j lt d. absurd (omega arith);
          old = λ e j lo hi d. best_moved (omega arith) refl refl (settled j hi d);
        } in
        record { holds = (b + width q, block); answer = (omega arith, best_moved (omega arith) (omega arith) refl best_so_far) }

    module _ (z : WindowQueue V) (taken : z.taken ≡ q.taken + 1) (wrapped : z.wrapped ≡ q.wrapped) (back_is : z.back ≡ Some back) (slots_are : z.slots.now ≡ slots') where
      wide : width z ≡ width q
      wide = ap length slots_are ∙ length-set q.slots.now q.taken new

      -- the block goes on
      block_goes : Block cmp at (n + 1) b z
      block_goes =
          let count = k.count in
          let same = wide in
          record {
            count = omega arith;
            first = λ e. k.first (sym wrapped ∙ e);
            later = λ e. let h = k.later (sym wrapped ∙ e) in omega arith;
            back = subst (λ o. MatchOption o (z.taken ≡ 0) (λ m. (0 < z.taken) × Best cmp at b z.taken m)) (sym back_is) (omega arith, best_moved refl (sym taken) refl best_so_far);
            new = λ j lt d. best_moved refl refl (ap (λ l. get_or l j d) (sym slots_are)) (new_slots j (omega arith) d);
            old = λ e j lo hi d.
                best_moved (omega arith) (omega arith) (sym (ap (λ l. get_or l j d) slots_are ∙ get_or-set_other q.slots.now q.taken j new d (λ same. omega arith))) (k.old (sym wrapped ∙ e) j (omega arith) (omega arith) d);
          }

      -- there is no window yet
      pub pushed_early : q.taken + 1 < width q → q.wrapped ≡ false → Pushed cmp at n z None
      pushed_early lt e =
          let count = k.count in
          let start = k.first e in
          let same = wide in
          record { holds = (b, block_goes); answer = omega arith }

      -- the window lies over two blocks
      pub pushed_over : q.taken + 1 < width q → q.wrapped ≡ true → (rest r : Placed V) → rest ≡ get_or slots' (q.taken + 1) rest → r ≡ better_of cmp rest back → Pushed cmp at n z (Some r)
      pushed_over lt e rest r rest_is r_is =
          let count = k.count in
          let late = k.later e in
          let same = wide in
          let old = best_moved refl refl (sym (rest_is ∙ get_or-set_other q.slots.now q.taken (q.taken + 1) new rest (λ same. omega arith))) (k.old e (q.taken + 1) (omega arith) lt rest) in
          record {
            holds = (b, block_goes);
            answer = (omega arith, best_moved (omega arith) (omega arith) (sym r_is) (best_join at (b + (q.taken + 1) - width q) (width q - (q.taken + 1)) (q.taken + 1) b rest back (omega arith) old best_so_far));
          }
