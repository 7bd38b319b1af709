use Rattle.std.proofs.Common.{◌≡◌, ◌-◌, min, length, arith}
use Rattle.library.proofs.Ends.{widened}
use Rattle.library.proofs.running.run.Goals as goal

pub returns : goal.returns
returns g c =
    let r = c.capped-room.ensures in
    let p = c.capped-places.ensures in
    let a : c.capped-room.result - 0 ≡ min (length c.args.tokens.now) 1048576 = omega arith in
    let b : c.capped-places.result - 0 ≡ min (length c.args.index.now) 1048576 = omega arith in
    widened _ _ c.args.plan.k c.args.plan.t _ _ c.args.tokens.now c.run_over.new.tokens c.args.index.now c.run_over.new.index (c.capped-room.result - 0) (c.capped-places.result - 0) a b c.run_over.auto.tokens c.run_over.auto.index c.run_over.ensures
