use Rattle.std.proofs.Common.{◌≡◌, length}
use Rattle.layers.specs.Onwards.{onward}
use Rattle.tokens.specs.Tokens.{Placed}
use Rattle.layers.proofs.onward.Onward.next.Given as goal

abbrev pub invariant-loop-token : goal.invariant-loop-token
invariant-loop-token g l =
    (l.self.reached ≡ l.initial.self.reached)
    × (onward l.self.reached (g.S.Source.tokens l.self.below) ≡ onward l.initial.self.reached (g.S.Source.tokens l.initial.self.below))
    × (g.S.Source.ending l.self.below ≡ g.S.Source.ending l.initial.self.below)
    × (g.S.Source.depth l.self.below ≡ g.S.Source.depth l.initial.self.below)
    × Placed (g.S.Source.tokens l.self.below)

abbrev pub decreases-loop-token : goal.decreases-loop-token
decreases-loop-token g l = length (g.S.Source.tokens l.self.below)
