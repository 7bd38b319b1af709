-- What a change of the first n entries of a slice leaves: `before` is the slice at the call, `after` at the return. Assumes nothing.
use Rattle.std.specs.Prelude.{◌≡◌, ℕ, ◌+◌, ◌-◌, ◌<◌, ◌≤◌, Bool, false, not, List, ◌∷◌, length, take, drop, filter, ◌≢◌, slice_index_or}
use Rattle.std.specs.declared.cmp.Ordering.{Ordering}
use Rattle.std.specs.List.{insert, remove}
use Rattle.order.specs.Listed.{In, Rising, ListsExactly}

-- x is put in at place i, and stands once in the rising list of the old records and x; the entries past that are untouched
pub record PutIn {X : Type 0} (cmp : X → X → Ordering) (before after : List X) (n i : ℕ) (x : X) : Type 0 where
  pub place : i ≤ n
  pub room : n < length before
  pub list : take (n + 1) after ≡ insert (take n before) i x
  pub rest : drop (n + 1) after ≡ drop (n + 1) before
  pub lists : Rising cmp (take n before) → ListsExactly cmp (take (n + 1) after) (λ y. In y (x ∷ take n before))

-- x stands at place i already, and nothing is changed
pub record Already {X : Type 0} (before after : List X) (n i : ℕ) (x : X) : Type 0 where
  pub same : after ≡ before
  pub place : i < n
  pub is : (d : X) → slice_index_or before i d ≡ x

-- x is none of the first n, and nothing is changed
pub record Missed {X : Type 0} (cmp : X → X → Ordering) (before after : List X) (n : ℕ) (x : X) : Type 0 where
  pub same : after ≡ before
  pub none : Rising cmp (take n before) → In x (take n before) → ⊥

-- x stood at place i and is taken out; the entries past the old records are untouched, and the last of the old places is free
pub record TakenOut {X : Type 0} (cmp : X → X → Ordering) (before after : List X) (n i : ℕ) (x : X) : Type 0 where
  pub place : i < n
  pub was : (d : X) → slice_index_or before i d ≡ x
  pub list : take (n - 1) after ≡ remove (take n before) i
  pub rest : drop n after ≡ drop n before
  pub lists : Rising cmp (take n before) → ListsExactly cmp (take (n - 1) after) (λ y. In y (take n before) × (x ≢ y))

-- some of the first n are left, in their order; the entries past the old records are untouched, those between are free
pub record Fewer {X : Type 0} (cmp : X → X → Ordering) (before after : List X) (n left : ℕ) : Type 0 where
  pub fewer : left ≤ n
  pub rest : drop n after ≡ drop n before
  pub only : (y : X) → In y (take left after) → In y (take n before)
  pub rises : Rising cmp (take n before) → Rising cmp (take left after)

-- those that the test does not name are kept, in their order; the entries past the old records are untouched, those between are free
pub record Thinned {X : Type 0} (cmp : X → X → Ordering) (test : X → Bool) (before after : List X) (n left : ℕ) : Type 0 where
  pub fewer : left ≤ n
  pub list : take left after ≡ filter (λ y. not (test y)) (take n before)
  pub rest : drop n after ≡ drop n before
  pub lists : Rising cmp (take n before) → ListsExactly cmp (take left after) (λ y. In y (take n before) × (test y ≡ false))
