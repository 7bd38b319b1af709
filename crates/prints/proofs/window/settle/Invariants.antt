use Rattle.prints.proofs.Windows.{Settling}
use Rattle.prints.proofs.window.settle.Given as goal

abbrev pub invariant-loop-j : goal.invariant-loop-j
invariant-loop-j g l = Settling g.V.Ord.cmp l.j l.best l.initial.slots l.slots
