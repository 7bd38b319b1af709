use Rattle.std.proofs.Common.{◌≡◌, ◌++◌, length, take, drop, ◌∙◌}
use Rattle.std.proofs.lemmas.List.{with_items_is}
use Rattle.library.proofs.store.Store.make.Goals as goal

pub returns-in-Held : goal.returns-in-Held
returns-in-Held g c =
    let v = c.in-Held.list in
    let ws = c.held-answer.new.list in
    let n = c.as_mut_slice-in-Held.ensures.len in
    let k : length ws ≡ v.len = c.held-answer.auto.list ∙ n in
    let e : take v.len (ws ++ drop (length ws) v.items) ≡ ws = with_items_is v ws k in
    rw (c.in-Held.is, e) (rw n at c.held-answer.ensures)

pub returns-in-Report : goal.returns-in-Report
returns-in-Report g c =
    let v = c.in-Report.list in
    let ws = c.report-answer.new.list in
    let n = c.as_mut_slice-in-Report.ensures.len in
    let k : length ws ≡ v.len = c.report-answer.auto.list ∙ n in
    let e : take v.len (ws ++ drop (length ws) v.items) ≡ ws = with_items_is v ws k in
    rw (c.in-Report.is, e) (rw n at c.report-answer.ensures)
