use Rattle.std.proofs.Common.{◌≡◌, ℕ, ◌<◌, get_or, take}
use Rattle.model.specs.Tables.{extent, no_entry}
use Rattle.model.proofs.table.find.Given as goal

abbrev pub invariant-loop-slot : goal.invariant-loop-slot
invariant-loop-slot l =
    (l.start ≡ extent (take l.slot l.table))
    × ((i : ℕ) → i < l.slot → (get_or l.table i no_entry).number ≡ l.number → ⊥)
