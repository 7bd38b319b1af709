use Rattle.std.proofs.Common.{drop}
use Rattle.filling.proofs.Writes.{Underway}
use Rattle.filling.proofs.entries.write_numbers.Given as goal

abbrev pub invariant-loop-i : goal.invariant-loop-i
invariant-loop-i l = Underway (λ e. e.number) l.initial.list l.list l.initial.table (drop l.i l.initial.table) l.i
