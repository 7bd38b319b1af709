use Rattle.std.proofs.Common.{arith}
use Rattle.library.proofs.Adds.{indexed}
use Rattle.library.proofs.adding.index_file.Goals as goal

pub returns : goal.returns
returns g c =
    let n = c.count_prints-places.ensures in
    indexed _ _ c.args.number c.args.used c.args.index.now c.insert_all-used.new.list c.write_prints.new.free c.count_prints-places.result c.insert_all-used.result c.requires.within (omega arith) n c.insert_all-used.auto.list c.write_prints.ensures.after c.insert_all-used.ensures
