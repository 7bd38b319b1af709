use Rattle.std.proofs.Common.{sym}
use Rattle.model.specs.Tables.{At, Absent}
use Rattle.library.specs.Stores.{bounds_of}
use Rattle.library.specs.States.{state, shape_of}
use Rattle.library.proofs.Removes.{removed_step, unremoved_step}
use Rattle.library.proofs.store.Store.remove.Goals as goal

pub returns-in_default : goal.returns-in_default
returns-in_default g c =
    let s = c.args.self.now in
    let a : Absent c.args.number s.table.items = rw (sym c.as_slice.ensures.value) c.in_default.ensures in
    rw c.plain.ensures (unremoved_step _ _ (state s) c.args.number a)

pub returns : goal.returns
returns g c =
    let s = c.args.self.now in
    let f : At c.args.number s.table.items c.in-Some.spot = rw (sym c.as_slice.ensures.value) c.in-Some.ensures in
    removed_step _ g.met.H.Value.Order.total (state s) (bounds_of (shape_of s)) c.args.number c.in-Some.spot f _ c.take_out.ensures
