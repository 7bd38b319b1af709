-- What a total order is, and orders made of others. Assumes nothing.
use Rattle.std.specs.Prelude.{◌≡◌}
use Rattle.std.specs.declared.cmp.Ordering.TheVariants.{Less, Equal}
use Rattle.std.specs.declared.cmp.Ordering.{Ordering}
use Rattle.std.specs.Ordering.{ordering_reverse, ordering_then}

-- of two values exactly one holds, less, equal or greater, since `cmp` is a function; equal means the same value; less carries over
pub record TotalOrder {V : Type 0} (cmp : V → V → Ordering) : Type 0 where
  pub equal : (x y : V) → cmp x y ≡ Equal → x ≡ y
  pub itself : (x : V) → cmp x x ≡ Equal
  pub flip : (x y : V) → cmp x y ≡ ordering_reverse (cmp y x)
  pub trans : (x y z : V) → cmp x y ≡ Less → cmp y z ≡ Less → cmp x z ≡ Less

-- by the first part, and where these are equal by the second
abbrev pub by_both : {A B : Type 0} → (A → A → Ordering) → (B → B → Ordering) → A × B → A × B → Ordering
by_both f g x y = ordering_then (f x.0 y.0) (g x.1 y.1)

-- by a key, a part or parts of the value
abbrev pub by_key : {X K : Type 0} → (X → K) → (K → K → Ordering) → X → X → Ordering
by_key key f x y = f (key x) (key y)
