use Rattle.ordered.proofs.Sorting.{Distinct}
use Rattle.ordered.proofs.batch.dedup.Given as goal

abbrev pub invariant-loop-k : goal.invariant-loop-k
invariant-loop-k g l = Distinct g.T.Ord.cmp l.initial.list l.list l.k l.count l.last
