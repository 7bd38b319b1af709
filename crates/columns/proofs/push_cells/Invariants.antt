use Rattle.std.proofs.Common.{◌≡◌, ◌++◌, take, vec_items}
use Rattle.std.specs.List.{flat_map}
use Rattle.columns.specs.Columns.{right}
use Rattle.columns.proofs.push_cells.Given as goal

abbrev pub invariant-loop-n : goal.invariant-loop-n
invariant-loop-n l = vec_items l.out ≡ vec_items l.initial.out ++ flat_map (right l.width) (take l.n-index l.numbers)
