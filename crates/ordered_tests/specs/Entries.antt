-- The order of the entries: by value, then file, then place. Assumes nothing.
use Rattle.std.specs.declared.cmp.Ordering.{Ordering}
use Rattle.order.specs.Total.{by_both}
use Rattle.ordered_tests.specs.declared.entry.Entry.{Entry}
use Rattle.std.specs.Ordering.{nat_cmp}

abbrev pub by_fields : {V : Type 0} → (V → V → Ordering) → Entry V → Entry V → Ordering
by_fields cmp x y = by_both cmp (by_both nat_cmp nat_cmp) (x.value, (x.file, x.place)) (y.value, (y.file, y.place))
