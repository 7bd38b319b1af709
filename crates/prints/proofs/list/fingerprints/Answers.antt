use Rattle.std.proofs.Common.{◌≤◌, map, Ok, sym, ap₂, ◌∙◌, subst}
use Rattle.std.proofs.lemmas.Iterator.{items_from_collect}
use Rattle.std.proofs.lemmas.Iterator.Consumers.{YieldsList-from_first}
use Rattle.std.specs.Ordering.{nat_cmp}
use Rattle.order.specs.Listed.{ListsExactly}
use Rattle.prints.specs.Choice.{Chosen}
use Rattle.prints.specs.Walk.{winnowed, grams, value_at}
use Rattle.prints.proofs.Winnowed.{winnowed_exact}
use Rattle.prints.proofs.list.fingerprints.Goals as goal

pub returns-clause-listed : goal.returns-clause-listed
returns-clause-listed g c =
    let hash = g.H.GramHash.value in
    let cmp = g.H.Value.Ord.cmp in
    let cs = c.args.codes.now in
    let k = c.in_ok-by.ensures.0 in
    let w = c.in_ok-by.ensures.1 in
    let walk = ◌∙◌ {b = winnowed hash cmp c.in_ok-by.by.k c.in_ok-by.by.w cs} c.new-walk.ensures.all (ap₂ (λ k w. winnowed hash cmp k w cs) k w) in
    let all = items_from_collect {E = Unit {0}} (Ok c.in_ok-collect.field-0) c.in_ok-collect.ensures.ran (YieldsList-from_first (λ x. x) (λ s. s) (winnowed hash cmp c.args.k c.args.w cs) walk) in
    let exact = winnowed_exact hash g.met.H.Value.Order.total c.args.k c.args.w (subst (λ w. 1 ≤ w) w c.in_ok-by.by.window) cs in
    record { all = all; exact = subst (λ l. ListsExactly nat_cmp (map (λ m. m.place) l) (Chosen cmp c.args.w (value_at hash c.args.k cs) (grams c.args.k cs))) (sym all) exact }
