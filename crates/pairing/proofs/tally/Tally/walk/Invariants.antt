use Rattle.std.proofs.Common.{◌≡◌, ◌-◌, ◌≤◌, length}
use Rattle.pairing.specs.Scopes.{files}
use Rattle.pairing.proofs.Walked.{Walked}
use Rattle.pairing.proofs.tally.Tally.walk.Given as goal

abbrev pub invariant-loop-at : goal.invariant-loop-at
invariant-loop-at g l =
    (l.at ≤ length l.index)
    × Walked g.V.Ord.cmp l.scope.number l.scope.k (files l.scope) l.index l.at l.fn.self.list.now l.fn.self.counts l.self.list.now l.self.counts
    × (l.self.list.ghost_name ≡ l.fn.self.list.ghost_name)

abbrev pub decreases-loop-at : goal.decreases-loop-at
decreases-loop-at g l = length l.index - l.at
