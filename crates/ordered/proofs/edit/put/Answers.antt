use Rattle.std.proofs.Common.{set, ap, ◌∙◌}
use Rattle.ordered.proofs.Edits.{put_in}
use Rattle.ordered.proofs.Moves.{moved_up}
use Rattle.ordered.proofs.edit.put.Goals as goal

pub returns : goal.returns
returns g c s =
    put_in g.met.T.Order.total c.args.list.now c.args.n c.args.i c.args.x (set c.copy_within.new.self c.args.i c.args.x) c.requires.room s
    (ap (λ l. set l c.args.i c.args.x) c.copy_within.ensures.after
    ∙ moved_up c.args.list.now c.args.n c.args.i c.args.x c.requires.place c.requires.room)
