use Rattle.std.proofs.Common.{take, drop, refl, arith}
use Rattle.ordered.proofs.Sorting.{all_in}
use Rattle.ordered.proofs.batch.insert_all.Goals as goal

pub returns : goal.returns
returns g c =
    let xs = c.args.list.now in
    let end = c.reach-end.result in
    let e = c.reach-end.ensures.within in
    all_in xs (take end xs) c.take_in.new.xs c.args.n c.args.m end c.take_in.result (omega arith) (omega arith) (omega arith) refl c.take_in.ensures c.take_in.auto.xs (drop end xs) refl
