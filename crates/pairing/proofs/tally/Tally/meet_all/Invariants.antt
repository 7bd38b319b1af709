use Rattle.std.proofs.Common.{◌≡◌, take}
use Rattle.pairing.specs.Groups.{crossed}
use Rattle.pairing.specs.Scopes.{files}
use Rattle.pairing.specs.Tallies.{Tallied}
use Rattle.pairing.proofs.tally.Tally.meet_all.Given as goal

abbrev pub invariant-loop-a : goal.invariant-loop-a
invariant-loop-a g l =
    Tallied l.scope.k (files l.scope) (crossed l.before (take l.a-index l.own) l.after) l.fn.self.list.now l.fn.self.counts l.self.list.now l.self.counts
    × (l.self.list.ghost_name ≡ l.fn.self.list.ghost_name)
