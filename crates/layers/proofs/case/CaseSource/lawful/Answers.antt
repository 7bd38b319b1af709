use Rattle.std.proofs.Common.{arith}
use Rattle.layers.proofs.Layers.{placed_lowered}
use Rattle.layers.proofs.case.CaseSource.lawful.Goals as goal

pub returns : goal.returns
returns g c = record { placed = placed_lowered 0 _ c.lawful.ensures.placed; shallow = omega arith }
