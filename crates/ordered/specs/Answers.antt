-- What each answer to an insertion says. Assumes nothing.
use Rattle.std.specs.Prelude.{◌≡◌, ℕ, List, length}
use Rattle.std.specs.declared.cmp.Ordering.{Ordering}
use Rattle.ordered.specs.declared.insertion.Insertion.{Insertion}
use Rattle.ordered.specs.declared.insertion.Insertion.TheVariants.{At, Present, Full}
use Rattle.ordered.specs.Edited.{PutIn, Already, Missed}

abbrev pub AfterInsert : {X : Type 0} → (X → X → Ordering) → List X → List X → ℕ → X → Insertion → Type 0
AfterInsert cmp before after n x (At i) = PutIn cmp before after n i x
AfterInsert cmp before after n x (Present i) = Already before after n i x
AfterInsert cmp before after n x Full = (n ≡ length before) × Missed cmp before after n x

-- how many records more there are after an insertion
abbrev pub more : Insertion → ℕ
more (At i) = 1
more (Present i) = 0
more Full = 0
