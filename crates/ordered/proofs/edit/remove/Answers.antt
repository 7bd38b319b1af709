use Rattle.ordered.proofs.edit.remove.Goals as goal

pub returns-in-Ok : goal.returns-in-Ok
returns-in-Ok g c = c.close.ensures c.args.x c.in-Ok.ensures
