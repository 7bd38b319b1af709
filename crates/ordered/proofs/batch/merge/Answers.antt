use Rattle.std.proofs.Common.{sym, inl, inr, arith}
use Rattle.ordered.proofs.Stages.{halfway_less, halfway_equal, halfway_greater, halfway_as, halfway_all}
use Rattle.ordered.proofs.batch.merge.Goals as goal
use Rattle.ordered.proofs.batch.merge.Goals.{then-loop-i-test+else-j-gt0, else-loop-i-test}

pub loop-i-preserved-in-Less : goal.loop-i-preserved-in-Less
loop-i-preserved-in-Less g c =
    halfway_as c.in-Less.ensures.after (halfway_less g.met.T.Order.total c.args.xs.now c.loop-i.xs c.args.a c.args.b c.args.at c.loop-i.i c.loop-i.j c.loop-i.w c.index-xs-i.result c.index-xs-at.result (omega arith) (omega arith)
    c.index-xs-i.is c.index-xs-at.is c.loop-i.invariant (sym c.in-Less.ensures.answer))

pub loop-i-preserved-in-Equal : goal.loop-i-preserved-in-Equal
loop-i-preserved-in-Equal g c =
    halfway_as c.in-Equal.ensures.after (halfway_equal g.met.T.Order.total c.args.xs.now c.loop-i.xs c.args.a c.args.b c.args.at c.loop-i.i c.loop-i.j c.loop-i.w c.index-xs-i.result c.index-xs-at.result (omega arith) (omega arith)
    c.index-xs-i.is c.index-xs-at.is c.loop-i.invariant (sym c.in-Equal.ensures.answer))

pub loop-i-preserved : goal.loop-i-preserved
loop-i-preserved g c =
    halfway_as c.in-Greater.ensures.after (halfway_greater g.met.T.Order.total c.args.xs.now c.loop-i.xs c.args.a c.args.b c.args.at c.loop-i.i c.loop-i.j c.loop-i.w c.index-xs-i.result c.index-xs-at.result (omega arith) (omega arith)
    c.index-xs-i.is c.index-xs-at.is c.loop-i.invariant (sym c.in-Greater.ensures.answer))

pub returns : goal.returns
returns g c =
    halfway_all c.args.xs.now c.loop-i.xs c.copy_part.new.xs c.copy_part-2.new.xs c.args.a c.args.b c.args.at c.loop-i.i c.loop-i.j c.loop-i.w
    c.loop-i.invariant (elim c.loop-i-test.branch [ then-loop-i-test+else-j-gt0 w ↦ inr (omega arith) | else-loop-i-test w ↦ inl (omega arith) ]) c.copy_part.ensures c.copy_part-2.ensures
