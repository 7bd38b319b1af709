use Rattle.std.proofs.Common.{◌≡◌, ◌++◌, length, vec_items}
use Rattle.tokens.proofs.collected.Collected.of.Given as goal

abbrev pub invariant-loop-token : goal.invariant-loop-token
invariant-loop-token g l =
    (vec_items l.list ++ g.S.Source.tokens l.source ≡ g.S.Source.tokens l.initial.source)
    × (g.S.Source.ending l.source ≡ g.S.Source.ending l.initial.source)

abbrev pub decreases-loop-token : goal.decreases-loop-token
decreases-loop-token g l = length (g.S.Source.tokens l.source)
