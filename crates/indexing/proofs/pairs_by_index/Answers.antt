use Rattle.model.specs.Calls.{setting}
use Rattle.indexing.proofs.Reports.{report_by_index}
use Rattle.indexing.proofs.pairs_by_index.Goals as goal

pub returns : goal.returns
returns g c k t tokens index fs d n room = report_by_index (setting _ _ k t tokens index) g.met.H.Value.Order.total fs d n room
