-- The chosen places of the files of the program's stored run, worked out by hand. Assumes nothing.
use Rattle.std.specs.Prelude.{◌≡◌, ℕ, List, [], ◌∷◌, codes}
use Rattle.prints.specs.Choice.{chosen}
use Rattle.runs.specs.Passages.{width, row, places}
use Rattle.pages.specs.Pages.{file_tokens, plan}

-- the chosen places of a file, as the program `passages` reads it
abbrev pub chosen_places : List ℕ → List ℕ
chosen_places file = let ts = file_tokens file in chosen plan.scheme.cmp (width plan.scheme) (row plan.scheme ts) (places plan.scheme ts)

-- those of the two files of its stored run
pub record ProgramFiles : Type 0 where
  pub left : chosen_places (codes "A do run run run") ≡ 0 ∷ 1 ∷ 2 ∷ 5 ∷ 8 ∷ []
  pub right : chosen_places (codes "Can do run run!") ≡ 1 ∷ 3 ∷ 4 ∷ 7 ∷ []
