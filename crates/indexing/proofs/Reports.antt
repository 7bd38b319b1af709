-- What a report reads off the index is what is defined. Assumes nothing.
use Rattle.std.proofs.Common.{◌≡◌, ℕ, Bool, true, false, not, List, length, filter, refl, ap, ◌∙◌, ⊎_elim}
use Rattle.std.proofs.lemmas.Bool.{cases_Bool}
use Rattle.order.specs.Total.{TotalOrder}
use Rattle.model.specs.declared.fingerprint.Fingerprint.{Fingerprint}
use Rattle.model.specs.declared.passage.Passage.{Passage}
use Rattle.model.specs.Files.{Files, known, Distinct}
use Rattle.model.specs.Gathering.{gathered}
use Rattle.model.specs.Prints.{index_of}
use Rattle.model.specs.Passages.{by_eight, alike, around, marked, differing, pairs_of}
use Rattle.model.specs.Indexes.{index_pairs}
use Rattle.model.specs.Calls.{Setting, report, report_outcome, pairs_outcome, answer}
use Rattle.model.specs.Totals.{eight_total}
use Rattle.indexing.proofs.Reorders.{Reordered, reordered_length, reordered_kept, reordered_map, reordered_gathered}
use Rattle.indexing.proofs.Pairs.{pairs_reordered}

module _ {V : Type 0} (k : ℕ) (fs : Files) (ps qs : List (Fingerprint V × Fingerprint V)) (r : Reordered ps qs) where
  same_passages : gathered by_eight (marked k fs ps) ≡ gathered by_eight (marked k fs qs)
  same_passages =
      reordered_gathered eight_total (marked k fs ps) (marked k fs qs)
      (reordered_map (around k fs) (filter (alike k fs) ps) (filter (alike k fs) qs) (reordered_kept (alike k fs) ps qs r))

  same_differing : differing k fs ps ≡ differing k fs qs
  same_differing = reordered_length (filter (λ p. not (alike k fs p)) ps) (filter (λ p. not (alike k fs p)) qs) (reordered_kept (λ p. not (alike k fs p)) ps qs r)

  -- the outcome does not depend on the order of the pairs
  pub same_outcome : (is_held : Bool) (room : ℕ) → pairs_outcome is_held k fs ps room ≡ pairs_outcome is_held k fs qs room
  same_outcome is_held room =
      ap (λ (l : List Passage). report_outcome is_held l (length ps) (differing k fs ps) room) same_passages
      ∙ ap (λ (c : ℕ). report_outcome is_held (gathered by_eight (marked k fs qs)) c (differing k fs ps) room) (reordered_length ps qs r)
      ∙ ap (λ (c : ℕ). report_outcome is_held (gathered by_eight (marked k fs qs)) (length qs) c room) same_differing

module _ {V : Type 0} (st : Setting V) (o : TotalOrder st.scheme.cmp) where
  pub report_by_index : (fs : Files) → Distinct fs → (n room : ℕ) → pairs_outcome (known n fs) st.scheme.k fs (index_pairs st.scheme.cmp n (index_of st.scheme fs)) room ≡ answer st fs (report n room)
  report_by_index fs d n room =
      let S = st.scheme in
      ⊎_elim
      (λ (q : known n fs ≡ true). same_outcome S.k fs (index_pairs S.cmp n (index_of S fs)) (pairs_of S fs n) (pairs_reordered S n o fs d q) (known n fs) room)
      (λ (q : known n fs ≡ false). rw q refl) (cases_Bool (known n fs))
