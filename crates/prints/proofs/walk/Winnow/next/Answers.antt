use Rattle.std.proofs.Common.{arith}
use Rattle.prints.proofs.Onward.{onward_early, onward_again, onward_found, onward_ends, first_left, none_left, ends_empty, place_inside}
use Rattle.prints.proofs.walk.Winnow.next.Goals as goal

pub overflow_add-self : goal.overflow_add-self
overflow_add-self g c =
    let inside = place_inside c.loop-here.invariant g.met.H.Value.Order.total c.in-Some.ensures c.in-Some-push.ensures.width c.in-Some-push.ensures.best in
    record { fits = omega arith }

pub invariant_of-self : goal.invariant_of-self
invariant_of-self g c = onward_found c.loop-here.invariant g.met.H.Value.Order.total c.in-Some.ensures c.in-Some-push.ensures.width c.in-Some-push.ensures.best c.if-best-self.true

pub returns-then-best-self : goal.returns-then-best-self
returns-then-best-self g c = first_left c.loop-here.invariant g.met.H.Value.Order.total c.in-Some.ensures c.in-Some-push.ensures.width c.in-Some-push.ensures.best c.if-best-self.true

pub loop-here-preserved-else-best-self : goal.loop-here-preserved-else-best-self
loop-here-preserved-else-best-self g c = onward_again c.loop-here.invariant g.met.H.Value.Order.total c.in-Some.ensures c.in-Some-push.ensures.width c.in-Some-push.ensures.best (omega (arith, c.if-best-self.false))

pub loop-here-preserved : goal.loop-here-preserved
loop-here-preserved g c = onward_early c.loop-here.invariant c.in-Some.ensures c.in_default-push.ensures.width c.in_default-push.ensures.best

pub invariant_of-self-in_default : goal.invariant_of-self-in_default
invariant_of-self-in_default g c = onward_ends c.loop-here.invariant g.met.H.Value.Order.total c.in_default.ensures

pub returns : goal.returns
returns g c =
    (none_left c.loop-here.invariant g.met.H.Value.Order.total c.in_default.ensures, ends_empty c.loop-here.invariant g.met.H.Value.Order.total c.in_default.ensures)
