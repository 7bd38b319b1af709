use Rattle.ordered.proofs.Joining.{grown_put, grown_same}
use Rattle.ordered.proofs.batch.insert_next.Goals as goal

pub returns-in-At : goal.returns-in-At
returns-in-At g c = grown_put c.args.xs.now c.insert.new.list c.args.n c.in-At.field-0 c.index-xs-n.result c.requires c.index-xs-n.is c.in-At.ensures

pub returns-in-Present : goal.returns-in-Present
returns-in-Present g c = grown_same c.args.xs.now c.insert.new.list c.args.n c.in-Present.field-0 c.index-xs-n.result c.requires c.index-xs-n.is g.T.Ord.cmp c.in-Present.ensures
