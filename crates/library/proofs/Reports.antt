-- What a Report answers.
use Rattle.std.proofs.Common.{◌≡◌, ℕ, List, take, Ordering, refl, ap, ◌∙◌}
use Rattle.order.specs.Total.{TotalOrder}
use Rattle.order.specs.Listed.{Rising}
use Rattle.runs.specs.Passages.{scheme}
use Rattle.model.specs.Files.{known}
use Rattle.model.specs.Indexes.{index_pairs}
use Rattle.model.specs.Prints.{by_fields}
use Rattle.model.specs.Calls.{Outcome, report, pairs_outcome}
use Rattle.indexing.proofs.Index.{index_rises}
use Rattle.indexing.proofs.Reports.{report_by_index}
use Rattle.library.specs.Stores.{State, Step, files, setting}
use Rattle.library.proofs.Stays.{stays}

pub report_step : {V : Type 0} (value : List ℕ → V) {cmp : V → V → Ordering} (o : TotalOrder cmp) (s : State V) (n room : ℕ) (r : Outcome) →
    (Rising (by_fields cmp) (take s.prints s.index.now) → r ≡ pairs_outcome (known n (files s)) s.k (files s) (index_pairs cmp n (take s.prints s.index.now)) room) →
    Step value cmp s s (report n room) r
report_step value {cmp} o s n room r h =
    stays value cmp s (report n room) r refl (λ q.
    let S = scheme value cmp s.k s.t in
    h (rw q.index (index_rises S o (files s)))
    ∙ ap (λ l. pairs_outcome (known n (files s)) s.k (files s) (index_pairs cmp n l) room) q.index
    ∙ report_by_index (setting value cmp s) o (files s) q.distinct n room)
