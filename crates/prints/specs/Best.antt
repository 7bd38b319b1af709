-- The best of neighbouring values: the rightmost of the smallest. Assumes nothing.
use Rattle.std.specs.Prelude.{◌≡◌, ℕ, ◌+◌, ◌-◌, ◌<◌, cond, List, length, slice_index_or}
use Rattle.std.specs.declared.cmp.Ordering.{Ordering}
use Rattle.std.specs.Ordering.{is_lt}
use Rattle.prints.specs.declared.window.Placed.{Placed}
use Rattle.prints.specs.Choice.{Rightmost}

-- of two values the smaller, and the later of two equal ones
abbrev pub better_of : {V : Type 0} → (V → V → Ordering) → Placed V → Placed V → Placed V
better_of cmp earlier later = cond (is_lt (cmp earlier.value later.value)) earlier later

-- m is the rightmost of the smallest of the w values from s on, with its value
pub record Best {V : Type 0} (cmp : V → V → Ordering) (at : ℕ → V) (s w : ℕ) (m : Placed V) : Type 0 where
  pub place : Rightmost cmp at s w m.place
  pub value : m.value ≡ at m.place

-- the slots hold the values from b on
abbrev pub Whole : {V : Type 0} → (V → V → Ordering) → (ℕ → V) → ℕ → List (Placed V) → Type 0
Whole {V} cmp at b slots = (j : ℕ) → j < length slots → (d : Placed V) → Best cmp at (b + j) 1 (slice_index_or slots j d)

-- each of the slots holds the best from its place to the block's end
abbrev pub Settled : {V : Type 0} → (V → V → Ordering) → (ℕ → V) → ℕ → List (Placed V) → Type 0
Settled {V} cmp at b slots = (j : ℕ) → j < length slots → (d : Placed V) → Best cmp at (b + j) (length slots - j) (slice_index_or slots j d)
