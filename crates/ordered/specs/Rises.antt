-- That a list rises is one fact. Assumes nothing.
use Rattle.std.specs.Prelude.{List, [], ◌∷◌}
use Rattle.std.specs.declared.cmp.Ordering.{Ordering}
use Rattle.std.specs.Ordering.{Ordering-set}
use Rattle.std.specs.Coded.{×_prop, Π_prop, Unit-prop}
use Rattle.order.specs.Listed.{Rising}

pub rising_prop : {X : Type 0} (cmp : X → X → Ordering) (xs : List X) → IsProp (Rising cmp xs)
rising_prop cmp [] = Unit-prop
rising_prop cmp (x ∷ xs) = ×_prop (Π_prop (λ y. Π_prop (λ m. Ordering-set _ _))) (rising_prop cmp xs)
