-- Lists that rise, and lists of exactly the values that a fact names. Assumes nothing.
use Rattle.std.specs.Prelude.{◌≡◌, ◌⊎◌, List, [], ◌∷◌}
use Rattle.std.specs.declared.cmp.Ordering.TheVariants.{Less}
use Rattle.std.specs.declared.cmp.Ordering.{Ordering}
use Rattle.order.specs.Total.{TotalOrder}

-- x is a member of the list
abbrev pub In : {X : Type 0} → X → List X → Type 0
In x [] = ⊥
In x (y ∷ ys) = (y ≡ x) ⊎ In x ys

-- each member is less than all those after it, so none stands there twice
abbrev pub Rising : {X : Type 0} → (X → X → Ordering) → List X → Type 0
Rising {X} cmp [] = Unit {0}
Rising {X} cmp (x ∷ xs) = ((y : X) → In y xs → cmp x y ≡ Less) × Rising cmp xs

-- xs lists exactly the values that P names, each once, in rising order
pub record ListsExactly {X : Type 0} (cmp : X → X → Ordering) (xs : List X) (P : X → Type 0) : Type 0 where
  pub rises : Rising cmp xs
  pub only : (x : X) → In x xs → P x
  pub every : (x : X) → P x → In x xs

-- two rising lists with the same members are one list, so a rising list is determined by what it lists
abbrev pub OneList : Type 0 → Type 0
OneList X = (cmp : X → X → Ordering) → TotalOrder cmp → (xs ys : List X) → Rising cmp xs → Rising cmp ys → ((x : X) → In x xs → In x ys) → ((x : X) → In x ys → In x xs) → xs ≡ ys
