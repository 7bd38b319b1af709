-- The groups of equal value, and their pairs. Assumes nothing.
use Rattle.std.specs.Prelude.{ℕ, ◌+◌, not, List, [], ◌∷◌, ◌++◌, map, take, drop, ◌==◌, nat_eq}
use Rattle.std.specs.declared.cmp.Ordering.{Ordering}
use Rattle.std.specs.Ordering.{is_eq}
use Rattle.std.specs.List.{flat_map, prefix_len}
use Rattle.model.specs.declared.fingerprint.Fingerprint.{Fingerprint}

-- some pairs of fingerprints, the first one of each of the reported file
abbrev pub Pairs : Type 0 → Type 0
Pairs V = List (Fingerprint V × Fingerprint V)

-- how many have the value of the first one, from it on
abbrev pub first_group : {V : Type 0} → (V → V → Ordering) → List (Fingerprint V) → ℕ
first_group cmp [] = 0
first_group cmp (x ∷ xs) = prefix_len (λ y. is_eq (cmp y.value x.value)) (x ∷ xs)

-- a with each of some others
abbrev pub with_each : {V : Type 0} → Fingerprint V → List (Fingerprint V) → Pairs V
with_each a bs = map (λ b. (a, b)) bs

-- each of some with those before them and those after them
abbrev pub crossed : {V : Type 0} → List (Fingerprint V) → List (Fingerprint V) → List (Fingerprint V) → Pairs V
crossed before own after = flat_map (λ a. with_each a before ++ with_each a after) own

module _ {V : Type 0} (n : ℕ) (group : List (Fingerprint V)) where
  -- how many fingerprints of other files than n come first, and how many of file n then
  abbrev pub others_first : ℕ
  others_first = prefix_len (λ b. not (b.file == n)) group

  abbrev pub own_then : ℕ
  own_then = prefix_len (λ b. nat_eq b.file n) (drop others_first group)

  -- the pairs of a group: its part of file n with what stands before that part and after it
  abbrev pub group_pairs : Pairs V
  group_pairs = crossed (take others_first group) (take own_then (drop others_first group)) (drop (others_first + own_then) group)
