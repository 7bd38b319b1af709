use Rattle.std.proofs.Common.{◌≡◌, ℕ, get_or, ◌∙◌, arith}
use Rattle.std.specs.Ordering.{is_eq}
use Rattle.std.specs.List.{prefix_len}
use Rattle.pairing.proofs.Grouped.{first_group_is, first_some}
use Rattle.pairing.proofs.groups.first_group.Goals as goal

pub returns : goal.returns
returns g c =
    let xs = c.args.prints.now in
    let first = c.index-prints-0.result in
    let counted : ◌≡◌ {A = ℕ} c.value_first.result (prefix_len (λ y. is_eq (g.V.Ord.cmp y.value (get_or xs 0 first).value)) xs) = c.value_first.ensures.count in
    let is = counted ∙ first_group_is g.V.Ord.cmp xs first c.requires in
    record { count = is; some = omega (arith, is, first_some g.met.V.Order.total xs c.requires); within = c.value_first.ensures.within }
