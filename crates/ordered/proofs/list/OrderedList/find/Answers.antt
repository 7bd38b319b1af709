use Rattle.ordered.proofs.Edits.{absent}
use Rattle.ordered.proofs.list.OrderedList.find.Goals as goal

pub returns-clause-none : goal.returns-clause-none
returns-clause-none g c = absent g.met.T.Order.total c.args.x c.as_slice.ensures.items c.as_slice.ensures.rises c.find.result c.find.ensures.place
