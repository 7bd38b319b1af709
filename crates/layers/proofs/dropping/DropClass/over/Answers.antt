use Rattle.std.proofs.Common.{refl}
use Rattle.layers.proofs.Layers.{without_idle}
use Rattle.layers.proofs.dropping.DropClass.over.Goals as goal

pub returns : goal.returns
returns g c = record { tokens = refl; ending = refl; depth = refl; idle = λ out. without_idle _ 0 _ out c.lawful.ensures.placed }
