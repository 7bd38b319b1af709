use Rattle.order.proofs.Rises.{one_list}
use Rattle.order.proofs.one_list.Goals as goal

pub returns : goal.returns
returns g c = one_list _
