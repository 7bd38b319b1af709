-- How many pairs can be read off an index.
use Rattle.std.proofs.Common.{ℕ, ◌*◌, ◌≤◌, eqb, List, [], length, filter, Ordering, arith}
use Rattle.std.specs.Ordering.{is_eq}
use Rattle.std.proofs.lemmas.List.{length-map}
use Rattle.std.proofs.lemmas.Bool.{cond_both}
use Rattle.order.proofs.Members.{kept_few}
use Rattle.model.specs.declared.fingerprint.Fingerprint.{Fingerprint}
use Rattle.model.specs.Passages.{paired}
use Rattle.model.specs.Indexes.{foreign, partners, index_pairs}
use Rattle.model.proofs.Sums.{joined_few}

module _ {V : Type 0} (cmp : V → V → Ordering) (n : ℕ) (index : List (Fingerprint V)) where
  partners_few : (a : Fingerprint V) → length (partners cmp n index a) ≤ length index
  partners_few a =
      cond_both (eqb a.file n) (paired cmp a (foreign cmp n index)) [] (λ (l : List (Fingerprint V × Fingerprint V)). length l ≤ length index)
      (λ _.
      let e = length-map {B = Fingerprint V × Fingerprint V} (filter (λ (b : Fingerprint V). is_eq (cmp b.value a.value)) (foreign cmp n index)) (λ (b : Fingerprint V). (a, b)) in
      let f = kept_few (λ (b : Fingerprint V). is_eq (cmp b.value a.value)) (foreign cmp n index) in
      let h : length (foreign cmp n index) ≤ length index = kept_few _ index in
      omega (arith, e, f, h))
      (λ _. omega arith)

  pub pairs_few : length (index_pairs cmp n index) ≤ length index * length index
  pairs_few = joined_few (partners cmp n index) (length index) partners_few index
