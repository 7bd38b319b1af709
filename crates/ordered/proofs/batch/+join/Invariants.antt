use Rattle.std.proofs.Common.{◌+◌}
use Rattle.ordered.proofs.batch.+join.Given as goal

abbrev pub decreases-join : goal.decreases-join
decreases-join g l = l.a + l.b
