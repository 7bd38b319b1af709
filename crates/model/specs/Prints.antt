-- The fingerprints of the held files, and the index of them. Assumes nothing.
use Rattle.std.specs.Prelude.{ℕ, List, map, length}
use Rattle.std.specs.declared.cmp.Ordering.{Ordering}
use Rattle.std.specs.List.{flat_map}
use Rattle.order.specs.Total.{by_both}
use Rattle.prints.specs.declared.window.Placed.{Placed}
use Rattle.runs.specs.Passages.{Scheme, print_list}
use Rattle.model.specs.declared.fingerprint.Fingerprint.{Fingerprint}
use Rattle.model.specs.Files.{File, Files}
use Rattle.model.specs.Gathering.{gathered}
use Rattle.std.specs.Ordering.{nat_cmp}

-- by value, then file number, then place
abbrev pub by_fields : {V : Type 0} → (V → V → Ordering) → Fingerprint V → Fingerprint V → Ordering
by_fields cmp x y = by_both cmp (by_both nat_cmp nat_cmp) (x.value, (x.file, x.place)) (y.value, (y.file, y.place))

-- a chosen place of the file of number n
abbrev pub filed : {V : Type 0} → ℕ → Placed V → Fingerprint V
filed n p = record { value = p.value; file = n; place = p.place }

module _ {V : Type 0} (S : Scheme V) where
  -- one for each chosen place of a file
  abbrev pub file_prints : File → List (Fingerprint V)
  file_prints f = map (filed f.0) (print_list S f.1)

  abbrev pub all_prints : Files → List (Fingerprint V)
  all_prints fs = flat_map file_prints fs

  -- how many index entries the files fill
  abbrev pub print_count : Files → ℕ
  print_count fs = length (all_prints fs)

  -- all of them, rising
  abbrev pub index_of : Files → List (Fingerprint V)
  index_of fs = gathered (by_fields S.cmp) (all_prints fs)
