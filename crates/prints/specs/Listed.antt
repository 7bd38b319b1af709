-- All chosen places of a list of codes at once. Assumes nothing.
use Rattle.std.specs.Prelude.{◌≡◌, ℕ, ◌<◌, ◌≤◌, List, map, codes}
use Rattle.std.specs.declared.cmp.Ordering.{Ordering}
use Rattle.order.specs.Listed.{ListsExactly}
use Rattle.prints.specs.declared.list.Unfit.{Unfit}
use Rattle.prints.specs.declared.list.Unfit.TheVariants as unfit
use Rattle.prints.specs.declared.window.Placed.{Placed}
use Rattle.prints.specs.Grams.{Coded}
use Rattle.prints.specs.Choice.{Chosen}
use Rattle.prints.specs.Walk.{grams, value_at, winnowed}
use Rattle.std.specs.Ordering.{nat_cmp}

-- these have a list of chosen places
pub record Fit (k w room : ℕ) (cs : List ℕ) : Type 0 where
  pub low : 1 ≤ k
  pub high : k ≤ 64
  pub some : 1 ≤ w
  pub work : w ≤ room
  pub coded : Coded cs

-- why k and w choose no places
abbrev pub NoWinnowing : ℕ → ℕ → Unfit → Type 0
NoWinnowing k w unfit.Gram = (1 ≤ k) × (k ≤ 64) → ⊥
NoWinnowing k w unfit.Window = (1 ≤ k) × (k ≤ 64) × (w ≡ 0)
NoWinnowing k w unfit.Work = ⊥
NoWinnowing k w unfit.Code = ⊥
NoWinnowing k w unfit.Memory = ⊥

-- the reason why not, the first that holds
abbrev pub UnfitFor : ℕ → ℕ → ℕ → List ℕ → Unfit → Type 0
UnfitFor k w room cs unfit.Gram = (1 ≤ k) × (k ≤ 64) → ⊥
UnfitFor k w room cs unfit.Window = (1 ≤ k) × (k ≤ 64) × (w ≡ 0)
UnfitFor k w room cs unfit.Work = (1 ≤ k) × (k ≤ 64) × (1 ≤ w) × (room < w)
UnfitFor k w room cs unfit.Code = (1 ≤ k) × (k ≤ 64) × (1 ≤ w) × (w ≤ room) × (Coded cs → ⊥)
UnfitFor k w room cs unfit.Memory = Fit k w room cs

-- what is written of each reason
abbrev pub unfit_text : Unfit → List ℕ
unfit_text unfit.Gram = codes "k is not 1 to 64"
unfit_text unfit.Window = codes "w is 0"
unfit_text unfit.Work = codes "the work list is too short"
unfit_text unfit.Code = codes "a code is not 1 to 1023"
unfit_text unfit.Memory = codes "no memory"

-- the list has exactly the chosen places, by the relation and by computation, each with the value of the gram there
pub record ChosenListed {V : Type 0} (hash : List ℕ → V) (cmp : V → V → Ordering) (k w : ℕ) (cs : List ℕ) (list : List (Placed V)) : Type 0 where
  pub all : list ≡ winnowed hash cmp k w cs
  pub exact : ListsExactly nat_cmp (map (λ m. m.place) list) (Chosen cmp w (value_at hash k cs) (grams k cs))
