use Rattle.layers.proofs.Onwards.{onward_placed}
use Rattle.layers.proofs.onward.Onward.lawful.Goals as goal

pub returns : goal.returns
returns g c = onward_placed _ 0 _ c.lawful.ensures.placed
