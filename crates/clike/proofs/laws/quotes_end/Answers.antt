use Rattle.clike.proofs.Lawful.{quotes_end}
use Rattle.clike.proofs.laws.quotes_end.Goals as goal

pub returns : goal.returns
returns c = quotes_end
