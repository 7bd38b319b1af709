-- What holds of the index of fingerprints, for a hash and the order of its values. Assumes nothing.
use Rattle.std.specs.Prelude.{◌≡◌, ℕ, List, length}
use Rattle.std.specs.declared.cmp.Ordering.{Ordering}
use Rattle.order.specs.Listed.{In, ListsExactly}
use Rattle.runs.specs.Passages.{scheme}
use Rattle.model.specs.Files.{Files, known, Distinct}
use Rattle.model.specs.Prints.{by_fields, all_prints, print_count, index_of}
use Rattle.model.specs.Indexes.{index_pairs}
use Rattle.model.specs.Calls.{setting, pairs_outcome, report, answer}

module _ {V : Type 0} (hash : List ℕ → V) (cmp : V → V → Ordering) where
  -- it lists exactly the fingerprints of the held files, each once, and fills as many entries as the files have chosen places
  abbrev pub IndexLists : Type 0
  IndexLists =
      (k t : ℕ) (fs : Files) → Distinct fs →
      ListsExactly (by_fields cmp) (index_of (scheme hash cmp k t) fs) (λ e. In e (all_prints (scheme hash cmp k t) fs))
      × (length (index_of (scheme hash cmp k t) fs) ≡ print_count (scheme hash cmp k t) fs)

  -- what a report reads off it is what is defined
  abbrev pub PairsByIndex : Type 0
  PairsByIndex =
      (k t tokens index : ℕ) (fs : Files) → Distinct fs → (n room : ℕ) →
      pairs_outcome (known n fs) k fs (index_pairs cmp n (index_of (scheme hash cmp k t) fs)) room ≡ answer (setting hash cmp k t tokens index) fs (report n room)
