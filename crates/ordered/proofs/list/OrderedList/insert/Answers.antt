use Rattle.std.proofs.Common.{rules}
use Rattle.ordered.proofs.Edits.{none_put}
use Rattle.ordered.proofs.list.OrderedList.insert.Goals as goal

pub returns-in_default : goal.returns-in_default
returns-in_default g c =
    let old = c.args.self.now in
    let h = none_put old.entries.now c.insert-answer.new.list old.count c.args.x c.insert-answer.result c.in_default.not-At old.within old.rises c.insert-answer.ensures in
    record { after = c.insert-answer.ensures; count = h.0; lists = h.1; room = c.insert-answer.auto.list; same_reference = search rules }
