-- The same pairs as they are read off the index. Assumes nothing.
use Rattle.std.specs.Prelude.{◌≡◌, ℕ, true, cond, not, List, [], filter, ◌==◌}
use Rattle.std.specs.declared.cmp.Ordering.{Ordering}
use Rattle.std.specs.List.{flat_map}
use Rattle.order.specs.Listed.{In}
use Rattle.model.specs.declared.fingerprint.Fingerprint.{Fingerprint}
use Rattle.model.specs.Files.{Files, known}
use Rattle.model.specs.Passages.{paired}

module _ {V : Type 0} (cmp : V → V → Ordering) (n : ℕ) where
  -- the fingerprints of other files than n
  abbrev pub foreign : List (Fingerprint V) → List (Fingerprint V)
  foreign index = filter (λ b. not (b.file == n)) index

  -- the pairs of one fingerprint, if it is of file n
  abbrev pub partners : List (Fingerprint V) → Fingerprint V → List (Fingerprint V × Fingerprint V)
  partners index a = cond (a.file == n) (paired cmp a (foreign index)) []

  -- the pairs of the fingerprints of file n with those of the others
  abbrev pub index_pairs : List (Fingerprint V) → List (Fingerprint V × Fingerprint V)
  index_pairs index = flat_map (partners index) index

-- every fingerprint is one of a held file
abbrev pub AllKnown : {V : Type 0} → Files → List (Fingerprint V) → Type 0
AllKnown {V} fs index = (e : Fingerprint V) → In e index → known e.file fs ≡ true
