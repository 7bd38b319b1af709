use Rattle.prints.proofs.Windows.{settling_starts, settling_more, settled_all}
use Rattle.prints.proofs.window.settle.Goals as goal

pub loop-j-init : goal.loop-j-init
loop-j-init g c = settling_starts g.met.V.Order.total c.args.slots.now c.index-slots-last.result c.requires c.index-slots-last.is

pub loop-j-preserved : goal.loop-j-preserved
loop-j-preserved g c = settling_more g.met.V.Order.total c.loop-j.j c.loop-j.best c.index-slots-j.result c.better-best.result _ c.loop-j.slots c.loop-j-test.true c.index-slots-j.is c.better-best.ensures c.loop-j.invariant

pub returns : goal.returns
returns g c = record { same = c.loop-j.invariant.same; best = settled_all g.met.V.Order.total c.loop-j.j c.loop-j.best _ c.loop-j.slots c.loop-j-test.false c.loop-j.invariant }
