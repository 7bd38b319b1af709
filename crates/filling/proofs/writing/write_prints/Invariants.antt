use Rattle.prints.specs.Walk.{winnowed}
use Rattle.runs.specs.Passages.{codes}
use Rattle.model.specs.Prints.{filed}
use Rattle.filling.proofs.Writes.{Underway}
use Rattle.filling.proofs.writing.write_prints.Given as goal

abbrev pub invariant-loop-found : goal.invariant-loop-found
invariant-loop-found g l = Underway (filed l.number) l.initial.free l.free (winnowed g.H.GramHash.value g.H.Value.Ord.cmp l.fn.by.k l.fn.by.w (codes l.fn.tokens)) l.found-iterator l.n
