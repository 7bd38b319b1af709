use Rattle.std.proofs.Common.{◌≡◌, length}
use Rattle.layers.specs.Layers.{without}
use Rattle.layers.proofs.dropping.DropClassSource.next.Given as goal

abbrev pub invariant-loop-token : goal.invariant-loop-token
invariant-loop-token g l =
    (l.self.class ≡ l.initial.self.class)
    × (without l.self.class (g.S.Source.tokens l.self.below) ≡ without l.self.class (g.S.Source.tokens l.initial.self.below))
    × (g.S.Source.ending l.self.below ≡ g.S.Source.ending l.initial.self.below)
    × (g.S.Source.depth l.self.below ≡ g.S.Source.depth l.initial.self.below)

abbrev pub decreases-loop-token : goal.decreases-loop-token
decreases-loop-token g l = length (g.S.Source.tokens l.self.below)
