-- The rising list of what a list has, each once. Assumes nothing.
use Rattle.std.specs.Prelude.{List, [], ◌∷◌}
use Rattle.std.specs.declared.cmp.Ordering.TheVariants.{Less, Equal, Greater}
use Rattle.std.specs.declared.cmp.Ordering.{Ordering}

-- x put in before y and what follows it, or into what follows it, or not at all, by how x stands to y
abbrev pub put_by : {X : Type 0} → Ordering → X → X → List X → List X → List X
put_by Less x y ys into = x ∷ y ∷ ys
put_by Equal x y ys into = y ∷ ys
put_by Greater x y ys into = y ∷ into

-- x put into a rising list at its place, unless it is there
abbrev pub put : {X : Type 0} → (X → X → Ordering) → X → List X → List X
put cmp x [] = x ∷ []
put cmp x (y ∷ ys) = put_by (cmp x y) x y ys (put cmp x ys)

-- the rising list of the members of xs
abbrev pub gathered : {X : Type 0} → (X → X → Ordering) → List X → List X
gathered cmp [] = []
gathered cmp (x ∷ xs) = put cmp x (gathered cmp xs)
