use Rattle.std.proofs.Common.{arith}
use Rattle.runs.proofs.Alike.{same_from_cut}
use Rattle.runs.proofs.longest.Alignment.same_from.Goals as goal

pub returns : goal.returns
returns c = same_from_cut _ _ _ _ _ _ _ _ c.rest-xs.ensures c.rest-ys.ensures (let m = c.min-n.ensures in omega arith) c.same_at_start.ensures
