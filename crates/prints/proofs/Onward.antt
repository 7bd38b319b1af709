-- A walk goes on until a window chooses a place that was not handed out. Assumes nothing.
use Rattle.std.proofs.Common.{◌≡◌, ℕ, ◌+◌, ◌-◌, ◌^◌, ◌<◌, ◌≤◌, List, [], ◌∷◌, map, Some, None, Option, Ordering, sym, ap, ◌∙◌, subst, ap₂, ⊎_elim, arith}
use Rattle.std.proofs.lemmas.Bool.{cases_lt}
use Rattle.order.specs.Total.{TotalOrder}
use Rattle.prints.specs.declared.window.Placed.{Placed}
use Rattle.prints.specs.declared.window.WindowQueue.{WindowQueue}
use Rattle.prints.specs.declared.walk.Grams.{Grams}
use Rattle.prints.specs.Choice.{Rightmost, at_place}
use Rattle.prints.specs.Best.{Best}
use Rattle.prints.specs.Window.{width, Holds, Pushed}
use Rattle.prints.specs.Walk.{grams, value_at, codes_of, row_of, winnowed_from, Gave, Walking}
use Rattle.prints.proofs.Picks.{rightmost_one}
use Rattle.prints.proofs.Walks.{next_chosen, none_chosen}

module _ {H C V : Type 0} (hash : List ℕ → V) (cmp : V → V → Ordering) (read : C → List ℕ) where
  -- what a walk in this state has yet to hand out
  abbrev pub left : Grams H C V → WindowQueue V → ℕ → List (Placed V)
  left x q from = winnowed_from hash cmp x.k (width q) (read x.codes) from

-- the walk has handed out all but the list that is left
pub record Leaves {H C V : Type 0} (hash : List ℕ → V) (cmp : V → V → Ordering) (read : C → List ℕ) (x : Grams H C V) (q : WindowQueue V) (from : ℕ) (list : List (Placed V)) : Type 0 where
  pub walking : Walking hash cmp read x q from
  pub left : list ≡ left hash cmp read x q from

module _ {H C V : Type 0} {hash : List ℕ → V} {cmp : V → V → Ordering} {read : C → List ℕ} {x y : Grams H C V} {q : WindowQueue V} {from : ℕ} {list : List (Placed V)} (h : Leaves hash cmp read x q from list) where
  module _ {z : WindowQueue V} {m : Placed V} {r : Option (Placed V)} (a : Gave hash read x (Some m) y) (wide : width z ≡ width q) (takes : (at : ℕ → V) (n : ℕ) → Holds cmp at n q → m ≡ at_place at n → Pushed cmp at n z r) where
    pushed : Pushed cmp (row_of hash read x) x.place z r
    pushed = takes (row_of hash read x) x.place h.walking.queue a.gave.1

    rows : row_of hash read y ≡ row_of hash read x
    rows = ap₂ (λ k c. value_at hash k (read c)) a.k a.codes

    left_same : (f : ℕ) → left hash cmp read x q f ≡ left hash cmp read y z f
    left_same f = sym (ap₂ (λ k c. winnowed_from hash cmp k (width z) (read c) f) a.k a.codes ∙ ap (λ w. winnowed_from hash cmp x.k w (read x.codes) f) wide)

    -- the windows so far chose below a bound, if the new one does
    walks_on : (bound : ℕ) → from ≤ bound → ((p : ℕ) → width q ≤ x.place + 1 → Rightmost cmp (row_of hash read x) (x.place + 1 - width q) (width q) p → p < bound) → Walking hash cmp read y z bound
    walks_on bound le new = record {
      going = a.going;
      queue = subst (λ f. Holds cmp f y.place z) (sym rows) (subst (λ n. Holds cmp (row_of hash read x) n z) (sym a.gave.2) pushed.holds);
      gone = λ s p fits r.
          let next = a.gave.2 in
          let here : Rightmost cmp (row_of hash read x) s (width q) p = subst (λ f. Rightmost cmp f s (width q) p) rows (subst (λ w. Rightmost cmp (row_of hash read y) s w p) wide r) in
          ⊎_elim
          (λ lt. let old = h.walking.gone s p (omega arith) here in omega arith)
          (λ ge.
          let e : s ≡ x.place + 1 - width q = omega arith in
          new p (omega arith) (subst (λ t. Rightmost cmp (row_of hash read x) t (width q) p) e here))
          (cases_lt (s + width q) (x.place + 1));
    }

  -- no window ends here
  pub onward_early : {z : WindowQueue V} {m : Placed V} → Gave hash read x (Some m) y → width z ≡ width q → ((at : ℕ → V) (n : ℕ) → Holds cmp at n q → m ≡ at_place at n → Pushed cmp at n z None) → Leaves hash cmp read y z from list
  onward_early a wide takes = record {
    walking = walks_on a wide takes from (omega arith) (λ p le r. let lt = (pushed a wide takes).answer in absurd (omega arith));
    left = h.left ∙ left_same a wide takes from;
  }

  module _ (o : TotalOrder cmp) {z : WindowQueue V} {m best : Placed V} (a : Gave hash read x (Some m) y) (wide : width z ≡ width q) (takes : (at : ℕ → V) (n : ℕ) → Holds cmp at n q → m ≡ at_place at n → Pushed cmp at n z (Some best)) where
    found : Best cmp (row_of hash read x) (x.place + 1 - width q) (width q) best
    found = subst (λ w. Best cmp (row_of hash read x) (x.place + 1 - w) w best) wide (pushed a wide takes).answer.1

    -- the window lies within the grams
    pub window_inside : (width q ≤ x.place + 1) × (x.place < grams x.k (codes_of hash read x))
    window_inside = let full = (pushed a wide takes).answer.0 in (omega arith, a.gave.0)

    -- so the place that it chooses has one behind it
    pub place_inside : best.place + 1 < 2 ^ 64
    place_inside =
        let low = h.walking.going.low in
        let size = h.walking.going.size in
        let inside = window_inside in
        let full = inside.0 in
        let some = inside.1 in
        let below = found.place.below in
        omega arith

    bounded : (bound : ℕ) → best.place < bound → (p : ℕ) → width q ≤ x.place + 1 → Rightmost cmp (row_of hash read x) (x.place + 1 - width q) (width q) p → p < bound
    bounded bound lt p _ r = let e = rightmost_one o (row_of hash read x) (x.place + 1 - width q) (width q) p best.place r found.place in omega arith

    -- the window chooses a place that was handed out
    pub onward_again : best.place < from → Leaves hash cmp read y z from list
    onward_again lt = record {
      walking = walks_on a wide takes from (omega arith) (bounded from lt);
      left = h.left ∙ left_same a wide takes from;
    }

    module _ (le : from ≤ best.place) where
      -- the window chooses a new place
      pub onward_found : Walking hash cmp read y z (best.place + 1)
      onward_found = walks_on a wide takes (best.place + 1) (omega arith) (bounded (best.place + 1) (omega arith))

      -- which is the first that is left
      pub first_left : list ≡ best ∷ left hash cmp read y z (best.place + 1)
      unfolding winnowed_from
      first_left =
          let w = width q in
          let row = row_of hash read x in
          let inside = window_inside in
          let full = inside.0 in
          let some = inside.1 in
          let room = q.room in
          let value : at_place row best.place ≡ best = λ i. record { place = best.place; value = sym found.value i } in
          let split = next_chosen o row w (grams x.k (codes_of hash read x)) from (omega arith) (x.place + 1 - w) best.place (omega arith) (λ t p lt r. h.walking.gone t p (omega arith) r) found.place le in
          h.left ∙ ap (map (at_place row)) split ∙ ap₂ ◌∷◌ value (left_same a wide takes (best.place + 1))

  -- there are no more values
  module _ (o : TotalOrder cmp) (a : Gave hash read x None y) where
    pub onward_ends : Walking hash cmp read y q from
    onward_ends =
        let rows : row_of hash read x ≡ row_of hash read y = sym (ap₂ (λ k c. value_at hash k (read c)) a.k a.codes) in
        let place = a.gave.1 in
        record {
          going = a.going;
          queue = subst (λ f. Holds cmp f y.place q) rows (subst (λ n. Holds cmp (row_of hash read x) n q) (sym place) h.walking.queue);
          gone = λ s p fits r. h.walking.gone s p (omega arith) (subst (λ f. Rightmost cmp f s (width q) p) (sym rows) r);
        }

    pub none_left : list ≡ []
    unfolding winnowed_from
    none_left =
        let row = row_of hash read x in
        let none = a.gave.0 in
        let room = q.room in
        h.left ∙ ap (map (at_place row)) (none_chosen o row (width q) (grams x.k (codes_of hash read x)) from (omega arith) (λ t p fits r. h.walking.gone t p (omega arith) r))

    pub ends_empty : left hash cmp read y q from ≡ []
    ends_empty = ap₂ (λ k c. winnowed_from hash cmp k (width q) (read c) from) a.k a.codes ∙ sym h.left ∙ none_left
