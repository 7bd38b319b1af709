use Rattle.ordered.proofs.Moves.{moved_none}
use Rattle.ordered.proofs.batch.copy_part.Goals as goal

pub returns-else-from-to : goal.returns-else-from-to
returns-else-from-to g c = moved_none c.args.xs.now c.args.from c.args.count c.args.to c.if-from-to.false
