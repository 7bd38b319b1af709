use Rattle.std.proofs.Common.{◌+◌}
use Rattle.ordered.proofs.Stages.{Halfway}
use Rattle.ordered.proofs.batch.merge.Given as goal

abbrev pub invariant-loop-i : goal.invariant-loop-i
invariant-loop-i g l = Halfway g.T.Ord.cmp l.initial.xs l.xs l.a l.b l.at l.i l.j l.w

abbrev pub decreases-loop-i : goal.decreases-loop-i
decreases-loop-i g l = l.i + l.j
