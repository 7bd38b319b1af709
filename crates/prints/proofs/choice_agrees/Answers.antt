use Rattle.prints.proofs.Picks.{agrees}
use Rattle.prints.proofs.choice_agrees.Goals as goal

pub returns : goal.returns
returns g c = agrees _
