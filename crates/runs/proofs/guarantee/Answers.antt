use Rattle.runs.proofs.Windows as windows
use Rattle.runs.proofs.guarantee.Goals as goal

pub returns : goal.returns
returns g c = windows.guarantee _ _ g.met.H.Value.Order.total
