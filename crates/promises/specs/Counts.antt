-- How many values have a property. Assumes nothing.
use Rattle.std.specs.Prelude.{◌≡◌, ℕ, List, [], ◌∷◌, length}
use Rattle.order.specs.Listed.{In}

-- no member stands there twice
abbrev pub EachOnce : {X : Type 0} → List X → Type 0
EachOnce [] = Unit {0}
EachOnce (x ∷ xs) = (In x xs → ⊥) × EachOnce xs

-- exactly n values have the property P: a list has them all, each once
pub record Counts {X : Type 0} (P : X → Type 0) (n : ℕ) : Type 0 where
  pub all : List X
  pub only : (x : X) → In x all → P x
  pub every : (x : X) → P x → In x all
  pub once : EachOnce all
  pub count : length all ≡ n
