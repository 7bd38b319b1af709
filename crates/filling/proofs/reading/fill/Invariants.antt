use Rattle.std.proofs.Common.{◌≡◌, length}
use Rattle.filling.proofs.Inflow.{Reading}
use Rattle.filling.proofs.reading.fill.Given as goal

abbrev pub invariant-loop-source : goal.invariant-loop-source
invariant-loop-source g l =
    Reading l.initial.free l.free (g.S.Source.tokens l.initial.source) (g.S.Source.tokens l.source) l.n
    × (g.S.Source.ending l.source ≡ g.S.Source.ending l.initial.source)

abbrev pub decreases-loop-source : goal.decreases-loop-source
decreases-loop-source g l = length (g.S.Source.tokens l.source)
