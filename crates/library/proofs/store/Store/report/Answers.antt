use Rattle.std.proofs.Common.{◌≡◌, length, take, sym}
use Rattle.order.specs.Listed.{Rising}
use Rattle.model.specs.Files.{known}
use Rattle.model.specs.Indexes.{index_pairs}
use Rattle.model.specs.Prints.{by_fields}
use Rattle.model.specs.Tables.{cut}
use Rattle.model.specs.Calls.{reported, pairs_outcome}
use Rattle.library.specs.States.{state}
use Rattle.library.proofs.Reports.{report_step}
use Rattle.library.proofs.store.Store.report.Goals as goal

pub returns : goal.returns
returns g c =
    let s = c.args.self.now in
    let n = c.args.number in
    let cmp = g.H.Value.Ord.cmp in
    let e : Rising (by_fields cmp) (take s.prints s.index.now) → reported c.report.result c.report.new.list ≡ pairs_outcome (known n (cut s.table.items s.tokens.now)) s.plan.k (cut s.table.items s.tokens.now) (index_pairs cmp n (take s.prints s.index.now)) (length c.args.list.now) = rw (sym c.as_slice.ensures.value) c.report.ensures.outcome in
    report_step _ g.met.H.Value.Order.total (state s) n (length c.args.list.now) (reported c.report.result c.report.new.list) e
