use Rattle.std.proofs.Common.{sym, ap, ◌∙◌}
use Rattle.std.specs.Option.{is_some}
use Rattle.std.specs.Ordering.{is_eq}
use Rattle.std.proofs.lemmas.Bool.{true≢false, lt-ltb}
use Rattle.ordered.proofs.Edits.{seat}
use Rattle.ordered.proofs.search.find.Goals as goal

-- another record stands at the place
pub returns-in_default-clause-place : goal.returns-in_default-clause-place
returns-in_default-clause-place g c =
    let o = g.met.T.Order.total in
    seat o c.args.list.now c.lower_bound-place.result c.args.x c.lower_bound-place.ensures
    (λ lt d e.
    let same = ap (λ y. g.T.Ord.cmp y c.args.x) (c.in-Some.ensures.lookup.3.1 d ∙ e) ∙ o.itself c.args.x in
    true≢false (sym (ap is_eq (c.cmp.ensures ∙ same)) ∙ sym c.is_eq.ensures ∙ c.if-is_eq.false))

-- the place is the list's end
pub returns-in_default-2-clause-place : goal.returns-in_default-2-clause-place
returns-in_default-2-clause-place g c =
    seat g.met.T.Order.total c.args.list.now c.lower_bound-place.result c.args.x c.lower_bound-place.ensures
    (λ lt d e. true≢false (sym (lt-ltb _ _ lt) ∙ sym c.get.ensures.lookup.0 ∙ ap is_some c.in_default.is))
