use Rattle.runs.proofs.Grown.{the_run}
use Rattle.runs.proofs.longest.Alignment.grow.Goals as goal

pub returns : goal.returns
returns c = the_run _ _ c.args.k c.args.self.now.i c.args.self.now.j c.requires.some c.same_before-before.result c.same_from-after.result c.requires.grams c.same_before-before.ensures c.same_from-after.ensures
