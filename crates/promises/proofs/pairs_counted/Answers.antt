use Rattle.runs.specs.Passages.{scheme}
use Rattle.promises.proofs.Pairing.{pairs_counted}
use Rattle.promises.proofs.pairs_counted.Goals as goal

pub returns : goal.returns
returns g c k t = pairs_counted (scheme _ _ k t) g.met.H.Value.Order.total
