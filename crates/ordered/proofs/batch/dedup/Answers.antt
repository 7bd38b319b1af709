use Rattle.std.proofs.Common.{rules, sym, ap, ◌∙◌, arith}
use Rattle.std.specs.Ordering.{is_ge}
use Rattle.ordered.proofs.Sorting.{distinct_first, distinct_more, distinct_same, distinct_all}
use Rattle.ordered.proofs.batch.dedup.Goals as goal

pub loop-k-init : goal.loop-k-init
loop-k-init g c = distinct_first g.T.Ord.cmp c.args.list.now c.index-list-0.result (search rules) c.index-list-0.is

pub loop-k-preserved-then-is_ge : goal.loop-k-preserved-then-is_ge
loop-k-preserved-then-is_ge g c =
    distinct_same g.met.T.Order.total c.args.list.now c.loop-k.list c.loop-k.k c.loop-k.count c.loop-k.last c.index-list-k.result c.loop-k.invariant c.loop-k-test.true c.index-list-k.is
    (sym (ap is_ge c.cmp.ensures) ∙ (sym c.is_ge.ensures ∙ c.if-is_ge.true))

pub loop-k-preserved : goal.loop-k-preserved
loop-k-preserved g c =
    distinct_more g.met.T.Order.total c.args.list.now c.loop-k.list c.loop-k.k c.loop-k.count c.loop-k.last c.index-list-k.result c.loop-k.invariant c.loop-k-test.true c.index-list-k.is
    (sym (ap is_ge c.cmp.ensures) ∙ (sym c.is_ge.ensures ∙ c.if-is_ge.false))

pub returns : goal.returns
returns g c =
    let h = c.loop-k.invariant in
    let b = h.behind in
    let w = h.within in
    record { fewer = omega arith; lists = distinct_all c.args.list.now c.loop-k.list c.loop-k.k c.loop-k.count c.loop-k.last h c.loop-k-test.false }
