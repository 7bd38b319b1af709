use Rattle.std.proofs.Common.{◌-◌, ◌≤◌, Bool, length}
use Rattle.std.specs.Fn.{ComputesKey}
use Rattle.ordered.proofs.Places.{Around}
use Rattle.ordered.proofs.search.cut.Given as goal

-- the record before `low` passes the test, and the one at `high` does not
abbrev pub invariant-loop-low : goal.invariant-loop-low
invariant-loop-low g l =
    goal.F-IsAlwaysCallable g l.test
    × (l.low ≤ l.high)
    × (l.high ≤ length l.list)
    × ((before : g.row.T.Denot → Bool) → ComputesKey g.F.FnMut before l.initial.test → ComputesKey g.F.FnMut before l.test × Around before l.list l.low l.high)

abbrev pub decreases-loop-low : goal.decreases-loop-low
decreases-loop-low g l = l.high - l.low
