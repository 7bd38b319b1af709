-- Values and chosen places worked by hand. Assumes nothing.
use Rattle.std.specs.Prelude.{◌≡◌, ℕ, List, [], ◌∷◌, length, slice_index}
use Rattle.prints.specs.Choice.{chosen}
use Rattle.prints.specs.Hashes.{polynomial, cyclic}
use Rattle.std.specs.Ordering.{nat_cmp}

-- the chosen places of a row of numbers
abbrev pub chosen_of : ℕ → List ℕ → List ℕ
chosen_of w row = chosen nat_cmp w (λ p. slice_index row p) (length row)

-- the row of numbers in Winnowing, SIGMOD 2003
abbrev pub row : List ℕ
row = 77 ∷ 74 ∷ 42 ∷ 17 ∷ 98 ∷ 50 ∷ 17 ∷ 98 ∷ 8 ∷ 88 ∷ 67 ∷ 39 ∷ 77 ∷ 74 ∷ 42 ∷ 17 ∷ 98 ∷ []

pub record Worked : Type 0 where
  pub abcd : polynomial (97 ∷ 98 ∷ 99 ∷ 100 ∷ []) ≡ 461334985
  pub ones : cyclic (1 ∷ 1 ∷ []) ≡ 0xA2598AD2
  pub two_one : polynomial (2 ∷ 1 ∷ []) ≡ 2001
  pub one_thousand : polynomial (1 ∷ 1001 ∷ []) ≡ 2001
  pub winnowed : chosen_of 4 row ≡ 3 ∷ 6 ∷ 8 ∷ 11 ∷ 15 ∷ []
  pub fives : chosen_of 2 (5 ∷ 5 ∷ 5 ∷ []) ≡ 1 ∷ 2 ∷ []
