use Rattle.std.proofs.Common.{arith}
use Rattle.tokens.proofs.Placing.{placed_kept}
use Rattle.layers.proofs.dropping.DropClassSource.lawful.Goals as goal

pub returns : goal.returns
returns g c = record { placed = placed_kept _ 0 _ c.lawful.ensures.placed; shallow = omega arith }
