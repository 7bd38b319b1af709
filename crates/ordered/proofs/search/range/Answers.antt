use Rattle.ordered.proofs.Places.{together}
use Rattle.ordered.proofs.search.range.Goals as goal

pub returns-clause-together : goal.returns-clause-together
returns-clause-together g c r = together (g.K.Key.places c.args.key.now) (g.met.K.Key.steady c.args.key.now) c.args.list.now r c.lower_bound.result c.upper_bound.result c.lower_bound.ensures c.upper_bound.ensures
