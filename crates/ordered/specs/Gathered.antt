-- What becomes of a batch. Assumes nothing.
use Rattle.std.specs.Prelude.{◌≡◌, ℕ, ◌+◌, ◌-◌, ◌<◌, ◌≤◌, ◌⊎◌, List, ◌++◌, take, drop}
use Rattle.std.specs.declared.cmp.Ordering.TheVariants.{Less, Equal, Greater}
use Rattle.std.specs.declared.cmp.Ordering.{Ordering}
use Rattle.order.specs.Listed.{In, Rising, ListsExactly}

-- `count` records from `from` on, copied to `to` on
abbrev pub moved : {X : Type 0} → List X → ℕ → ℕ → ℕ → List X
moved xs from count to = take to xs ++ (take count (drop from xs) ++ drop (to + count) xs)

-- two parts that stand side by side change places
abbrev pub turned : {X : Type 0} → List X → ℕ → ℕ → ℕ → List X
turned xs from first second = take from xs ++ ((take second (drop (from + first) xs) ++ take first (drop from xs)) ++ drop (from + first + second) xs)

-- the larger of two records, by how the first stands to the second
abbrev pub larger : {X : Type 0} → Ordering → X → X → X
larger Less x y = y
larger Equal x y = x
larger Greater x y = x

-- a record among the first a or among the b that stand at `at` and on
abbrev pub InEither : {X : Type 0} → List X → ℕ → ℕ → ℕ → X → Type 0
InEither xs a b at z = In z (take a xs) ⊎ In z (take b (drop at xs))

-- the first a and the b that stand at `at` and on become one rising list of the first r; what stands past the first a + b is untouched
pub record Merged {X : Type 0} (cmp : X → X → Ordering) (before after : List X) (a b at r : ℕ) : Type 0 where
  pub fewer : r ≤ a + b
  pub rest : drop (a + b) after ≡ drop (a + b) before
  pub lists : Rising cmp (take a before) → Rising cmp (take b (drop at before)) → ListsExactly cmp (take r after) (InEither before a b at)

-- the first i of the a records and the first j of the b behind them are less than all others, and each side has fewer than all
pub record Parting {X : Type 0} (cmp : X → X → Ordering) (xs : List X) (a b i j : ℕ) : Type 0 where
  pub left : i ≤ a
  pub right : j ≤ b
  pub some : 0 < i + j
  pub not_all : i + j < a + b
  pub low_left : Rising cmp (take a xs) → Rising cmp (take b (drop a xs)) → (x y : X) → In x (take i xs) → In y (drop j (take b (drop a xs))) → cmp x y ≡ Less
  pub low_right : Rising cmp (take a xs) → Rising cmp (take b (drop a xs)) → (x y : X) → In x (take j (drop a xs)) → In y (drop i (take a xs)) → cmp x y ≡ Less

-- the first a and the b behind them become one rising list, the first r; what stands between them and `at` is untouched
pub record Joined {X : Type 0} (cmp : X → X → Ordering) (before after : List X) (a b at r : ℕ) : Type 0 where
  pub fewer : r ≤ a + b
  pub rest : take (at - (a + b)) (drop (a + b) after) ≡ take (at - (a + b)) (drop (a + b) before)
  pub lists : Rising cmp (take a before) → Rising cmp (take b (drop a before)) → ListsExactly cmp (take r after) (λ z. In z (take (a + b) before))

-- the record behind the first n is put in among them, unless it is one of them; what stands past it is untouched
pub record Grown {X : Type 0} (cmp : X → X → Ordering) (before after : List X) (n r : ℕ) : Type 0 where
  pub fewer : r ≤ n + 1
  pub rest : drop (n + 1) after ≡ drop (n + 1) before
  pub lists : Rising cmp (take n before) → ListsExactly cmp (take r after) (λ z. In z (take (n + 1) before))

-- the first n, which rise, and the m behind them become one rising list of exactly their records; all else is free
pub record TakenIn {X : Type 0} (cmp : X → X → Ordering) (before after : List X) (n m r : ℕ) : Type 0 where
  pub fewer : r ≤ n + m
  pub lists : Rising cmp (take n before) → ListsExactly cmp (take r after) (λ z. In z (take (n + m) before))

-- the same; what stands past m entries more is untouched, and what stands before them and past the list is free
pub record AllIn {X : Type 0} (cmp : X → X → Ordering) (before after : List X) (n m r : ℕ) : Type 0 where
  pub fewer : r ≤ n + m
  pub rest : drop (n + m + m) after ≡ drop (n + m + m) before
  pub lists : Rising cmp (take n before) → ListsExactly cmp (take r after) (λ z. In z (take (n + m) before))
