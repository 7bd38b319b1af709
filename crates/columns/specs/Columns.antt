-- A number in a column.
use Rattle.std.specs.Prelude.{ℕ, ◌-◌, List, [], ◌∷◌, ◌++◌, length, replicate, decimal}
use Rattle.std.specs.List.{flat_map}

-- decimal, with blanks in front up to the width; a number that is wider is written whole
abbrev pub right : ℕ → ℕ → List ℕ
right width n = replicate (width - length (decimal n)) 32 ++ decimal n

-- a line of numbers, each in so many columns, with the line feed that ends it
abbrev pub row : ℕ → List ℕ → List ℕ
row width ns = flat_map (right width) ns ++ 10 ∷ []
