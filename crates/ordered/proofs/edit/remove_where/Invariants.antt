use Rattle.std.proofs.Common.{Bool, not}
use Rattle.std.proofs.lemmas.List.Filters.{FiltersInPlace}
use Rattle.std.specs.Fn.{ComputesKey}
use Rattle.ordered.proofs.Edits.{Keeping}
use Rattle.ordered.proofs.edit.remove_where.Given as goal

-- whatever the test answers, and where it answers by one function
abbrev pub invariant-loop-i : goal.invariant-loop-i
invariant-loop-i g l =
    goal.F-IsAlwaysCallable g l.test
    × Keeping g.T.Ord.cmp l.initial.list l.list l.left l.i
    × ((named : g.row.T.Denot → Bool) → ComputesKey g.F.FnMut named l.initial.test → ComputesKey g.F.FnMut named l.test × FiltersInPlace (λ y. not (named y)) l.initial.list l.list l.left l.i)
