use Rattle.std.proofs.Common.{◌∙◌}
use Rattle.ordered.proofs.Edits.{taken_out}
use Rattle.ordered.proofs.Moves.{moved_down}
use Rattle.ordered.proofs.edit.close.Goals as goal

pub returns : goal.returns
returns g c x s =
    taken_out g.met.T.Order.total c.args.list.now c.args.n c.args.i x c.copy_within.new.self c.requires.within s
    (c.copy_within.ensures.after ∙ moved_down c.args.list.now c.args.n c.args.i c.requires.place c.requires.within)
