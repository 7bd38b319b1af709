use Rattle.clike.proofs.Lawful.{cutting_loses_nothing}
use Rattle.clike.proofs.laws.cutting_loses_nothing.Goals as goal

pub returns : goal.returns
returns c = cutting_loses_nothing
