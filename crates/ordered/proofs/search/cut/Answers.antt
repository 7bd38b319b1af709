use Rattle.std.proofs.Common.{◌+◌, ◌-◌, ◌/◌, sym, ◌∙◌, of_calls, arith}
use Rattle.ordered.proofs.Places.{around_low, around_high}
use Rattle.ordered.proofs.Edits.{answers_next}
use Rattle.ordered.proofs.search.cut.Goals as goal

pub loop-low-preserved-then-test : goal.loop-low-preserved-then-test
loop-low-preserved-then-test g c =
    let mid = c.loop-low.low + (c.loop-low.high - c.loop-low.low) / 2 in (
      search of_calls,
      omega arith,
      omega arith,
      λ before by.
          let f = c.loop-low.invariant.3 before by in
          let next = answers_next g.F.FnMut _ _ _ _ c.test.ensures f.0 in
          (next.1, around_low before c.args.list.now c.loop-low.low mid c.loop-low.high c.index-list-mid.result f.1 (omega arith) c.index-list-mid.is (sym next.0 ∙ c.if-test.true)),
    )

pub loop-low-preserved : goal.loop-low-preserved
loop-low-preserved g c =
    let mid = c.loop-low.low + (c.loop-low.high - c.loop-low.low) / 2 in (
      search of_calls,
      omega arith,
      omega arith,
      λ before by.
          let f = c.loop-low.invariant.3 before by in
          let next = answers_next g.F.FnMut _ _ _ _ c.test.ensures f.0 in
          (next.1, around_high before c.args.list.now c.loop-low.low mid c.loop-low.high c.index-list-mid.result f.1 (omega arith) c.index-list-mid.is (sym next.0 ∙ c.if-test.false)),
    )
