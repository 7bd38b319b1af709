use Rattle.ordered.proofs.Joining.{parting_left, parting_right}
use Rattle.ordered.proofs.batch.halve.Goals as goal

pub returns-then-b-a : goal.returns-then-b-a
returns-then-b-a g c =
    parting_left g.met.T.Order.total c.args.xs.now c.args.a c.args.b c.index-xs-i.result c.requires.first c.requires.second c.requires.within c.lower_bound-j.result c.if-b-a.true c.index-xs-i.is c.lower_bound-j.ensures

pub returns-else-b-a : goal.returns-else-b-a
returns-else-b-a g c =
    parting_right g.met.T.Order.total c.args.xs.now c.args.a c.args.b c.index-xs-a.result c.requires.first c.requires.second c.requires.within c.lower_bound-i.result c.if-b-a.false c.index-xs-a.is c.lower_bound-i.ensures
