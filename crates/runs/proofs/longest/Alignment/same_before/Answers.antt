use Rattle.std.proofs.Common.{arith}
use Rattle.runs.proofs.Alike.{same_before_cut}
use Rattle.runs.proofs.longest.Alignment.same_before.Goals as goal

pub returns : goal.returns
returns c = same_before_cut _ _ _ _ _ _ c.requires.left c.requires.right (let m = c.min-n.ensures in omega arith) c.same_at_end.ensures
