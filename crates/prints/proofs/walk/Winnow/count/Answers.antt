use Rattle.std.proofs.Common.{length, ap, arith}
use Rattle.prints.proofs.Winnowed.{winnowed_from_few}
use Rattle.prints.proofs.walk.Winnow.count.Goals as goal

pub overflow_add-n : goal.overflow_add-n
overflow_add-n g c =
    let x = c.self.inside in
    let going = c.self.invariant.going in
    let few = winnowed_from_few g.H.GramHash.value g.H.Value.Ord.cmp x.grams.k (length x.queue.slots.now) (g.C.Codes.codes x.grams.codes) x.from going.low in
    let size = going.size in
    let is = ap length c.self.view_is in
    let one = ap length c.in-Some.ensures in
    let sum = c.loop-n.invariant in
    record { fits = omega arith }

pub loop-n-preserved : goal.loop-n-preserved
loop-n-preserved g c =
    let one = ap length c.in-Some.ensures in
    let sum = c.loop-n.invariant in
    omega arith

pub loop-n-smaller : goal.loop-n-smaller
loop-n-smaller g c = let one = ap length c.in-Some.ensures in omega arith

pub returns : goal.returns
returns g c =
    let none = ap length c.in_default.ensures.0 in
    let sum = c.loop-n.invariant in
    record { all = omega arith; none = c.in_default.ensures.1 }
