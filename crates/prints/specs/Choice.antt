-- Which places of a row of values are chosen (Winnowing, SIGMOD 2003). A row is a function from places to values and the number of its places. Assumes nothing.
use Rattle.std.specs.Prelude.{◌≡◌, ℕ, zero, suc, ◌+◌, ◌-◌, ◌<◌, ◌≤◌, Bool, false, cond, ◌||◌, List, [], map, filter, ◌≢◌, nat_eq}
use Rattle.std.specs.declared.cmp.Ordering.TheVariants.{Less}
use Rattle.std.specs.declared.cmp.Ordering.{Ordering}
use Rattle.std.specs.List.{range_with_len}
use Rattle.std.specs.Ordering.{is_lt, nat_cmp}
use Rattle.order.specs.Total.{TotalOrder}
use Rattle.order.specs.Listed.{ListsExactly}
use Rattle.prints.specs.declared.window.Placed.{Placed}

-- ---- the relation

-- of the window of w places from s on, p is the rightmost place of a smallest value
pub record Rightmost {V : Type 0} (cmp : V → V → Ordering) (at : ℕ → V) (s w p : ℕ) : Type 0 where
  pub from : s ≤ p
  pub below : p < s + w
  pub least : (q : ℕ) → s ≤ q → q < s + w → cmp (at q) (at p) ≢ Less
  pub last : (q : ℕ) → p < q → q < s + w → at q ≢ at p

-- some window of w neighbouring values of the n has p as the rightmost place of its smallest
abbrev pub Chosen : {V : Type 0} → (V → V → Ordering) → ℕ → (ℕ → V) → ℕ → ℕ → Type 0
Chosen cmp w at n p = (s : ℕ) × (s + w ≤ n) × Rightmost cmp at s w p

-- ---- the places, computed

-- the rightmost place of a smallest value among the m + 1 places from s on
abbrev pub pick : {V : Type 0} → (V → V → Ordering) → (ℕ → V) → ℕ → ℕ → ℕ
pick cmp at s zero = s
pick cmp at s (suc m) = let p = pick cmp at (suc s) m in cond (is_lt (cmp (at s) (at p))) s p

-- the test passes at some number below n
abbrev pub some_below : (ℕ → Bool) → ℕ → Bool
some_below test zero = false
some_below test (suc n) = test n || some_below test n

-- some window of w of the n values picks p
abbrev pub is_picked : {V : Type 0} → (V → V → Ordering) → ℕ → (ℕ → V) → ℕ → ℕ → Bool
is_picked cmp w at n p = some_below (λ s. nat_eq p (pick cmp at s (w - 1))) (n + 1 - w)

abbrev pub chosen : {V : Type 0} → (V → V → Ordering) → ℕ → (ℕ → V) → ℕ → List ℕ
chosen cmp w at n = filter (is_picked cmp w at n) (range_with_len 0 n)

-- ---- with their values

abbrev pub at_place : {V : Type 0} → (ℕ → V) → ℕ → Placed V
at_place at p = record { place = p; value = at p }

-- the chosen places, each with its value
abbrev pub fingerprints : {V : Type 0} → (V → V → Ordering) → ℕ → (ℕ → V) → ℕ → List (Placed V)
fingerprints cmp w at n = map (at_place at) (chosen cmp w at n)

-- ---- statements

-- the list that is computed has exactly the places that are chosen, in rising order
abbrev pub Agrees : Type 0 → Type 0
Agrees V =
    (cmp : V → V → Ordering) → TotalOrder cmp → (w : ℕ) → 0 < w → (at : ℕ → V) (n : ℕ) → ListsExactly nat_cmp (chosen cmp w at n) (Chosen cmp w at n)

-- where there are fewer values than a window has, no place is chosen
abbrev pub NoWindow : Type 0 → Type 0
NoWindow V = (cmp : V → V → Ordering) → TotalOrder cmp → (w : ℕ) (at : ℕ → V) (n : ℕ) → n < w → chosen cmp w at n ≡ []
