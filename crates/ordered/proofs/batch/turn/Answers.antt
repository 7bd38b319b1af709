use Rattle.std.proofs.Common.{◌+◌, ◌-◌, arith}
use Rattle.ordered.proofs.Moves.{turned_is}
use Rattle.ordered.proofs.batch.turn.Goals as goal

pub returns : goal.returns
returns g c =
    turned_is c.args.xs.now c.rotate_left.new.self c.args.from c.args.first c.args.second (c.args.from + c.args.first + c.args.second - c.args.from) (omega arith)
    c.rotate_left.ensures.after
