use Rattle.runs.proofs.Windows as windows
use Rattle.runs.proofs.prints_listed.Goals as goal

pub returns : goal.returns
returns g c = windows.prints_listed _ _ g.met.H.Value.Order.total
