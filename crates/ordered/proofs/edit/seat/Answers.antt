use Rattle.ordered.proofs.Edits.{seated}
use Rattle.ordered.proofs.edit.seat.Goals as goal

pub returns : goal.returns
returns g c = seated g.met.T.Order.total c.args.list.now c.args.n c.args.x c.find.result c.find.ensures.place
