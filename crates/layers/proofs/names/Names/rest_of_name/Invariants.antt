use Rattle.std.proofs.Common.{◌≡◌, ◌+◌, drop, None}
use Rattle.std.specs.List.{prefix_len}
use Rattle.layers.specs.Onwards.{onward}
use Rattle.layers.specs.Names.{goes_on, name_end}
use Rattle.layers.specs.Naming.{pending}
use Rattle.layers.proofs.names.Names.rest_of_name.Given as goal

abbrev pub invariant-loop : goal.invariant-loop
invariant-loop g l =
    let left = onward l.self.below.reached (g.S.Source.tokens l.self.below.below) in
    let whole = pending g.S.Source.tokens l.initial.self in
    (l.self.held ≡ None)
    × (l.counter + prefix_len goes_on left ≡ prefix_len goes_on whole)
    × (drop (prefix_len goes_on left) left ≡ drop (prefix_len goes_on whole) whole)
    × (name_end l.to left ≡ name_end l.initial.to whole)
    × (l.self.stopped ≡ l.initial.self.stopped)
    × (g.S.Source.ending l.self.below.below ≡ g.S.Source.ending l.initial.self.below.below)
    × (g.S.Source.depth l.self.below.below ≡ g.S.Source.depth l.initial.self.below.below)
