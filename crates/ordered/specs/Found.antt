-- What a search by a key finds. Assumes nothing.
use Rattle.std.specs.Prelude.{◌≡◌, ℕ, ◌-◌, ◌<◌, ◌≤◌, Bool, true, false, List, length, take, drop, slice_index_or}
use Rattle.std.specs.declared.cmp.Ordering.TheVariants.{Less, Equal, Greater}
use Rattle.std.specs.declared.cmp.Ordering.{Ordering}
use Rattle.order.specs.Listed.{In, Rising}

-- where the first of two records that rise stands to a key, and where the second does: what lies before the key's records comes first,
-- what lies after them comes last
abbrev pub Steady : Ordering → Ordering → Type 0
Steady first second = (second ≡ Less → first ≡ Less) × (first ≡ Greater → second ≡ Greater)

-- a cut: the record before it, if any, passes the test, and the record at it, if any, does not
pub record Cut {X : Type 0} (test : X → Bool) (xs : List X) (at : ℕ) : Type 0 where
  pub within : at ≤ length xs
  pub last : 0 < at → (d : X) → test (slice_index_or xs (at - 1) d) ≡ true
  pub next : at < length xs → (d : X) → test (slice_index_or xs at d) ≡ false

-- the records equal by the key are exactly those from `from` on and before `to`
pub record Together {X : Type 0} (place : X → Ordering) (xs : List X) (from to : ℕ) : Type 0 where
  pub forward : from ≤ to
  pub within : to ≤ length xs
  pub before : (k : ℕ) (d : X) → k < from → place (slice_index_or xs k d) ≡ Less
  pub equal : (k : ℕ) (d : X) → from ≤ k → k < to → place (slice_index_or xs k d) ≡ Equal
  pub after : (k : ℕ) (d : X) → to ≤ k → k < length xs → place (slice_index_or xs k d) ≡ Greater

-- x stands at a place
abbrev pub Stands : {X : Type 0} → List X → ℕ → X → Type 0
Stands {X} xs k x = (k < length xs) × ((d : X) → slice_index_or xs k d ≡ x)

-- the place at which x would be put in: where the list rises, x is greater than all before and less than all from there on, so it is none of them
pub record Seat {X : Type 0} (cmp : X → X → Ordering) (xs : List X) (i : ℕ) (x : X) : Type 0 where
  pub within : i ≤ length xs
  pub below : Rising cmp xs → (y : X) → In y (take i xs) → cmp y x ≡ Less
  pub above : Rising cmp xs → (y : X) → In y (drop i xs) → cmp x y ≡ Less
