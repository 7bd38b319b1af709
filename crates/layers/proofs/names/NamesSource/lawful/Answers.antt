use Rattle.std.proofs.Common.{arith}
use Rattle.layers.proofs.Joining.{placed_named, placed_pending, placed_unless}
use Rattle.layers.proofs.names.NamesSource.lawful.Goals as goal

pub returns : goal.returns
returns g c =
    let self = c.args.self.now in
    record { placed = placed_unless self.stopped _ (placed_named 0 _ (placed_pending self.below.reached self.held _ c.lawful.ensures)); shallow = omega arith }
