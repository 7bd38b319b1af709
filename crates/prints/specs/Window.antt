-- What the window queue holds. Assumes nothing.
use Rattle.std.specs.Prelude.{◌≡◌, ℕ, ◌+◌, ◌-◌, ◌<◌, ◌≤◌, true, false, length, Option, MatchOption, slice_index_or}
use Rattle.std.specs.declared.cmp.Ordering.{Ordering}
use Rattle.prints.specs.declared.window.Placed.{Placed}
use Rattle.prints.specs.declared.window.WindowQueue.{WindowQueue}
use Rattle.prints.specs.Best.{Best}

-- how many values a window has
abbrev pub width : {V : Type 0} → WindowQueue V → ℕ
width q = length q.slots.now

-- of the row `at` the queue has taken n values: those of the block from b on as they came, and of the block before the best from each place to its end
pub record Block {V : Type 0} (cmp : V → V → Ordering) (at : ℕ → V) (n b : ℕ) (q : WindowQueue V) : Type 0 where
  pub count : b + q.taken ≡ n
  pub first : q.wrapped ≡ false → b ≡ 0
  pub later : q.wrapped ≡ true → width q ≤ b
  pub back : MatchOption q.back (q.taken ≡ 0) (λ m. (0 < q.taken) × Best cmp at b q.taken m)
  pub new : (j : ℕ) → j < q.taken → (d : Placed V) → Best cmp at (b + j) 1 (slice_index_or q.slots.now j d)
  pub old : q.wrapped ≡ true → (j : ℕ) → q.taken ≤ j → j < width q → (d : Placed V) → Best cmp at (b + j - width q) (width q - j) (slice_index_or q.slots.now j d)

abbrev pub Holds : {V : Type 0} → (V → V → Ordering) → (ℕ → V) → ℕ → WindowQueue V → Type 0
Holds cmp at n q = (b : ℕ) × Block cmp at n b q

-- after the value at place n: the best of the window that ends with it, and nothing where there is no such window yet
pub record Pushed {V : Type 0} (cmp : V → V → Ordering) (at : ℕ → V) (n : ℕ) (q : WindowQueue V) (r : Option (Placed V)) : Type 0 where
  pub holds : Holds cmp at (n + 1) q
  pub answer : MatchOption r (n + 1 < width q) (λ m. (width q ≤ n + 1) × Best cmp at (n + 1 - width q) (width q) m)
