use Rattle.std.proofs.Common.{sym, refl, ap, ◌∙◌, arith}
use Rattle.std.proofs.lemmas.List.{length-set}
use Rattle.prints.specs.Best.{better_of}
use Rattle.prints.proofs.Windows.{pushed_full, pushed_early, pushed_over}
use Rattle.prints.proofs.window.WindowQueue.push.Goals as goal

pub returns-then-next-self-clause-best : goal.returns-then-next-self-clause-best
returns-then-next-self-clause-best g c at n h e =
    let q = c.args.self.now in
    let long = length-set q.slots.now q.taken c.args.new in
    pushed_full g.met.V.Order.total q at n c.args.new c.grown-back.result e c.grown-back.ensures h.0 h.1 _ (c.if-next-self.true ∙ long) (c.settle.ensures.same ∙ long) refl refl refl (c.settle.ensures.best at h.0)

pub returns-then-self-clause-best : goal.returns-then-self-clause-best
returns-then-self-clause-best g c at n h e =
    let q = c.args.self.now in
    let long = length-set q.slots.now q.taken c.args.new in
    let in' = q.room in
    let more = c.if-next-self.false in
    pushed_over g.met.V.Order.total q at n c.args.new c.grown-back.result e c.grown-back.ensures h.0 h.1 _ refl refl refl refl (omega arith) c.if-self.true c.index-self-next.result c.better.result c.index-self-next.is (c.better.ensures ∙ ap (λ x. better_of g.V.Ord.cmp x c.grown-back.result) (sym c.index-self-next.is))

pub returns-else-self-clause-best : goal.returns-else-self-clause-best
returns-else-self-clause-best g c at n h e =
    let q = c.args.self.now in
    let long = length-set q.slots.now q.taken c.args.new in
    let in' = q.room in
    let more = c.if-next-self.false in
    pushed_early g.met.V.Order.total q at n c.args.new c.grown-back.result e c.grown-back.ensures h.0 h.1 _ refl refl refl refl (omega arith) c.if-self.false
