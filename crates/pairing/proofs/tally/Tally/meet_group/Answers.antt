use Rattle.std.proofs.Common.{subst}
use Rattle.pairing.specs.Groups.{Pairs}
use Rattle.pairing.specs.Scopes.{files}
use Rattle.pairing.specs.Tallies.{Counted}
use Rattle.pairing.proofs.Grouped.{own_files, group_parts}
use Rattle.pairing.proofs.tally.Tally.meet_group.Goals as goal

pub meet_all-requires : goal.meet_all-requires
meet_all-requires g c = own_files c.args.scope.number c.args.group.now c.others_first-low.result c.own_first.result c.others_first-low.ensures.count c.own_first.ensures.count

pub returns-clause-counted : goal.returns-clause-counted
returns-clause-counted g c =
    subst (λ (ps : Pairs g.row.V.Denot). Counted c.args.scope.k (files c.args.scope) ps c.args.self.now.list.now c.args.self.now.counts c.meet_all.new.self.list.now c.meet_all.new.self.counts c.meet_all.result)
    (group_parts c.args.scope.number c.args.group.now c.others_first-low.result c.own_first.result c.others_first-low.ensures.count c.own_first.ensures.count)
    c.meet_all.ensures.counted
