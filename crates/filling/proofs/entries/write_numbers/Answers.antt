use Rattle.std.proofs.Common.{arith}
use Rattle.std.proofs.lemmas.List.{drop_more, drop_all}
use Rattle.model.specs.Tables.{no_entry}
use Rattle.filling.proofs.Writes.{one_more, finished}
use Rattle.filling.proofs.entries.write_numbers.Goals as goal

pub loop-i-preserved : goal.loop-i-preserved
loop-i-preserved c = one_more c.loop-i.invariant (drop_more c.args.table.now c.loop-i.i no_entry (omega arith)) (omega arith)

pub returns : goal.returns
returns c = finished c.loop-i.invariant (drop_all c.loop-i.i c.args.table.now (omega arith))
