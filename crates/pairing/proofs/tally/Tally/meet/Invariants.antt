use Rattle.std.proofs.Common.{◌≡◌, take}
use Rattle.model.specs.Files.{tokens_of}
use Rattle.pairing.specs.Groups.{with_each}
use Rattle.pairing.specs.Tallies.{Tallied}
use Rattle.pairing.specs.Scopes.{files}
use Rattle.pairing.proofs.tally.Tally.meet.Given as goal

abbrev pub invariant-loop-b : goal.invariant-loop-b
invariant-loop-b g l =
    Tallied l.scope.k (files l.scope) (with_each l.fn.a (take l.b-index l.partners)) l.fn.self.list.now l.fn.self.counts l.self.list.now l.self.counts
    × (l.other ≡ tokens_of l.file (files l.scope))
    × (l.self.list.ghost_name ≡ l.fn.self.list.ghost_name)
