use Rattle.std.proofs.Common.{sym, ◌∙◌, of_calls, arith}
use Rattle.std.proofs.lemmas.Bool.{not_from_false, not_from_true}
use Rattle.std.proofs.lemmas.List.Filters.{FiltersInPlace-more_no, FiltersInPlace-more_set}
use Rattle.ordered.proofs.Edits.{keeping_out, keeping_in, kept_fewer, thinned, answers_next}
use Rattle.ordered.proofs.edit.remove_where.Goals as goal

pub loop-i-preserved-then-test : goal.loop-i-preserved-then-test
loop-i-preserved-then-test g c =
    let h = c.loop-i.invariant in (
      search of_calls,
      keeping_out h.1 (omega arith) c.index-list-i.is,
      λ named by.
          let f = h.2 named by in
          let next = answers_next g.F.FnMut _ _ _ _ c.test.ensures f.0 in
          (next.1, FiltersInPlace-more_no f.1 (omega arith) (not_from_true (named c.index-list-i.result) (sym next.0 ∙ c.if-test.true)) c.index-list-i.is),
    )

pub loop-i-preserved : goal.loop-i-preserved
loop-i-preserved g c =
    let h = c.loop-i.invariant in (
      search of_calls,
      keeping_in h.1 (omega arith) c.index-list-i.is,
      λ named by.
          let f = h.2 named by in
          let next = answers_next g.F.FnMut _ _ _ _ c.test.ensures f.0 in
          (next.1, FiltersInPlace-more_set f.1 (omega arith) (not_from_false (named c.index-list-i.result) (sym next.0 ∙ c.if-test.false)) c.index-list-i.is),
    )

pub returns-clause-fewer : goal.returns-clause-fewer
returns-clause-fewer g c = kept_fewer (omega arith) c.loop-i.invariant.1

pub returns-clause-thinned : goal.returns-clause-thinned
returns-clause-thinned g c named by = thinned g.T.Ord.cmp named c.args.list.now c.loop-i.list c.args.n c.loop-i.left c.loop-i.i (c.loop-i.invariant.2 named by).1 (omega arith)
