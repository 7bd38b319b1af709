use Rattle.std.proofs.Common.{◌≡◌, ℕ, List, length, replicate, Err, ap, ◌∙◌, ap₂}
use Rattle.model.specs.declared.passage.Passage.{Passage}
use Rattle.model.specs.declared.refusal.Refusal.{Refusal}
use Rattle.model.specs.Calls.{reported}
use Rattle.model.specs.Indexes.{index_pairs}
use Rattle.model.specs.Passages.{no_passage}
use Rattle.pairing.specs.Scopes.{held_files}
use Rattle.pairing.proofs.Outcomes.{pairs_fit, granted, overfull}
use Rattle.pairing.proofs.report.report.Goals as goal

pub returns-in-Ok : goal.returns-in-Ok
returns-in-Ok g c =
    let fs = held_files c.args.held in
    let index = c.args.index.now in
    let cmp = g.V.Ord.cmp in
    record {
      long = c.counted.ensures.long ∙ c.clear.auto.list;
      outcome = λ r.
          rw c.in-Some.ensures.0
          (granted c.args.k fs (index_pairs cmp c.args.number index) c.clear.new.list (length c.args.list.now) c.clear.ensures (pairs_fit cmp c.args.number index c.requires.few)
          c.counted.new.list c.in-Ok.counts (c.in-Ok.ensures.counted r));
    }

pub returns-in-Err : goal.returns-in-Err
returns-in-Err g c =
    let fs = held_files c.args.held in
    let index = c.args.index.now in
    let room = length c.args.list.now in
    let long : length c.counted.new.list ≡ room = c.counted.ensures.long ∙ c.clear.auto.list in
    let zeros : c.clear-in-Err.new.list ≡ replicate room no_passage = c.clear-in-Err.ensures ∙ ap (λ (n : ℕ). replicate n no_passage) long in
    record {
      long = c.clear-in-Err.auto.list ∙ long;
      outcome = λ r.
          ap₂ (λ (e : Refusal) (l : List Passage). reported (Err e) l) c.plain-in-Err.ensures zeros
          ∙ rw c.in-Some.ensures.0 (overfull c.args.k fs (index_pairs g.V.Ord.cmp c.args.number index) c.clear.new.list room c.clear.ensures (c.in-Err.ensures.counted r));
    }
