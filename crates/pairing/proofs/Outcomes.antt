-- The walk's end as the outcome of a report.
use Rattle.std.proofs.Common.{◌≡◌, ℕ, ◌-◌, ◌^◌, ◌<◌, ◌≤◌, true, false, leb, List, ◌++◌, length, take, drop, replicate, Ok, Err, Ordering, sym, refl, ap, ◌∙◌, ap₂, inr, ⊎_elim, mul-le-mul_right, mul-le-mul_left, arith}
use Rattle.std.proofs.lemmas.List.{length-take-le, length-replicate, take-append-drop, drop-replicate}
use Rattle.std.proofs.lemmas.Bool.{le-leb, lt-leb}
use Rattle.order.specs.Listed.{In}
use Rattle.order.proofs.Rises.{rising_short, exactly_same}
use Rattle.model.specs.declared.answers.Reported.{Reported}
use Rattle.model.specs.declared.fingerprint.Fingerprint.{Fingerprint}
use Rattle.model.specs.declared.passage.Passage.{Passage}
use Rattle.model.specs.declared.refusal.Reason.TheVariants.{ReportFull}
use Rattle.model.specs.Calls.{reported, padded, pairs_outcome}
use Rattle.model.specs.Files.{Files}
use Rattle.model.specs.Gathering.{gathered}
use Rattle.model.specs.Indexes.{index_pairs}
use Rattle.model.specs.Passages.{no_passage, by_eight, marked, differing}
use Rattle.model.specs.Refusals.{plain}
use Rattle.model.specs.Totals.{eight_total}
use Rattle.model.proofs.Gathers.{gathered_exactly}
use Rattle.model.proofs.Pairs.{pairs_few}
use Rattle.pairing.specs.Tallies.{no_counts, Due, Tallied, Overfull}
use Rattle.pairing.specs.Groups.{Pairs}

-- ---- how many pairs there can be

module _ {V : Type 0} (cmp : V → V → Ordering) (n : ℕ) (index : List (Fingerprint V)) where
  pub pairs_fit : length index ≤ 1048576 → length (index_pairs cmp n index) < 2 ^ 64
  pairs_fit l =
      let a = mul-le-mul_left (length index) l in
      let b = mul-le-mul_right 1048576 l in
      omega (arith, pairs_few cmp n index, a, b)

-- ---- the outcome

module _ {V : Type 0} (k : ℕ) (fs : Files) (ps : Pairs V) (list : List Passage) (room : ℕ) (clear : list ≡ replicate room no_passage) where
  abbrev all : List Passage
  all = gathered by_eight (marked k fs ps)

  room_is : length list ≡ room
  room_is = ap length clear ∙ length-replicate room no_passage

  due_marked : (x : Passage) → Due k fs ps list no_counts x → In x (marked k fs ps)
  due_marked x i = ⊎_elim (λ (a : ⊥). absurd a) (λ (b : In x (marked k fs ps)). b) i

  pub granted : length ps < 2 ^ 64 → (after : List Passage) (u : Reported) → Tallied k fs ps list no_counts after u → reported (Ok u) after ≡ pairs_outcome true k fs ps room
  granted few after u h =
      let front : take u.passages after ≡ all =
      exactly_same eight_total (Due k fs ps list no_counts) (λ x. In x (marked k fs ps)) due_marked (λ x i. inr i) (take u.passages after) all h.lists (gathered_exactly eight_total (marked k fs ps)) in
      let fits : u.passages ≤ length after = let a = h.room in let b = h.long in omega arith in
      let many : length all ≡ u.passages = sym (ap length front) ∙ length-take-le u.passages after fits in
      let back : drop u.passages after ≡ replicate (room - u.passages) no_passage = h.rest ∙ ap (drop u.passages) clear ∙ drop-replicate u.passages room no_passage in
      let whole : after ≡ padded all room no_passage =
      sym (take-append-drop u.passages after) ∙ ap₂ (λ (a b : List Passage). a ++ b) front (back ∙ ap (λ (m : ℕ). replicate (room - m) no_passage) (sym many)) in
      let met : u.pairs ≡ length ps = let m = h.met (omega arith) in omega arith in
      let differ : u.differing ≡ differing k fs ps = let m = h.differ (omega arith) in omega arith in
      let counts : u ≡ record { passages = length all; pairs = length ps; differing = differing k fs ps } = λ i. record { passages = sym many i; pairs = met i; differing = differ i } in
      let held : leb (length all) room ≡ true = le-leb (length all) room (let a = h.room in let b = room_is in omega arith) in
      ap₂ (λ (v : Reported) (l : List Passage). reported (Ok v) l) counts whole ∙ rw held refl

  pub overfull : Overfull k fs ps list no_counts → reported (Err (plain ReportFull)) (replicate room no_passage) ≡ pairs_outcome true k fs ps room
  overfull h =
      let exactly = gathered_exactly eight_total (marked k fs ps) in
      let short = rising_short eight_total h.due all h.rises (λ x i. exactly.every x (due_marked x (h.only x i))) in
      let over : leb (length all) room ≡ false = lt-leb (length all) room (let a = h.many in let b = room_is in omega arith) in
      rw over refl
