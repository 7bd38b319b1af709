use Rattle.promises.proofs.Promising as promising
use Rattle.promises.proofs.promises.Goals as goal

pub returns : goal.returns
returns g c = promising.promises _ _ g.met.H.Value.Order.total
