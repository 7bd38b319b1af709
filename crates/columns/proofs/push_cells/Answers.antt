use Rattle.std.proofs.Common.{ℕ, List, [], ◌∷◌, get_or, vec_items, ◌∙◌}
use Rattle.columns.specs.Columns.{right}
use Rattle.columns.proofs.Steps.{first_kept, cells_more, cells_all, step_ok, step_err, never_ok}
use Rattle.columns.proofs.push_cells.Goals as goal

pub returns-in_err-push_right : goal.returns-in_err-push_right
returns-in_err-push_right c =
    let now = vec_items c.loop-n.out in
    let more = right c.args.width (get_or c.args.numbers.now c.loop-n.n-index 0) in
    record {
      all = never_ok _ c.from_residual.result c.from_residual.ensures.1;
      first = first_kept _ _ _ _ (step_err now _ more c.in_err-push_right.was c.push_right.ensures ∙ c.loop-n.invariant) c.args.out.now.ok.0;
    }

pub loop-n-preserved : goal.loop-n-preserved
loop-n-preserved c =
    let now = vec_items c.loop-n.out in
    let more = right c.args.width (get_or c.args.numbers.now c.loop-n.n-index 0) in
    cells_more c.args.width c.args.numbers.now _ _ _ c.loop-n.n-index c.loop-n-test.true c.loop-n.invariant (step_ok now _ more c.in_ok-push_right.was c.push_right.ensures)

pub returns-in_err-push : goal.returns-in_err-push
returns-in_err-push c =
    let now = vec_items c.loop-n.out in
    let more : List ℕ = 10 ∷ [] in
    record {
      all = never_ok _ c.from_residual-in_err-push.result c.from_residual-in_err-push.ensures.1;
      first = first_kept _ _ _ _ (step_err now _ more c.in_err-push.was c.push.ensures.items ∙ c.loop-n.invariant) c.args.out.now.ok.0;
    }

pub returns : goal.returns
returns c =
    let now = vec_items c.loop-n.out in
    let more : List ℕ = 10 ∷ [] in
    let whole = cells_all c.args.width c.args.numbers.now _ _ _ c.loop-n.n-index c.loop-n-test.false c.loop-n.invariant (step_ok now _ more c.in_ok-push.was c.push.ensures.items) in
    record { all = λ _. whole; first = first_kept _ _ _ _ whole c.args.out.now.ok.0 }
