use Rattle.std.proofs.Common.{◌∙◌, sym, subst, arith}
use Rattle.std.proofs.lemmas.List.{take_all}
use Rattle.std.proofs.lemmas.Result.{err_from_is_err_and}
use Rattle.order.specs.Listed.{In}
use Rattle.order.proofs.Bridges.{in_at}
use Rattle.model.specs.declared.fingerprint.Fingerprint.{Fingerprint}
use Rattle.pairing.specs.Scopes.{files}
use Rattle.pairing.proofs.Crossing.{full_before, full_after, own_more}
use Rattle.pairing.proofs.tally.Tally.meet_all.Goals as goal

pub meet-requires : goal.meet-requires
meet-requires g c =
    let a = c.a-item.result in
    let own = c.args.own.now in
    c.requires a (subst (λ (x : Fingerprint g.row.V.Denot). In x own) (sym c.a-item.is) (in_at own c.loop-a.a-index a (omega arith)))

pub returns-in_err-meet-clause-counted : goal.returns-in_err-meet-clause-counted
returns-in_err-meet-clause-counted g c =
    let p = err_from_is_err_and c.from_residual.result c.from_residual.ensures.1 in
    rw p.1
    (full_before c.args.scope.k (files c.args.scope) c.args.before.now c.args.own.now c.args.after.now c.a-item.result c.loop-a.a-index (omega arith) c.a-item.is c.loop-a.invariant.0 c.in_err-meet.ensures.counted)

pub meet-requires-in-loop-a : goal.meet-requires-in-loop-a
meet-requires-in-loop-a g c =
    let a = c.a-item.result in
    let own = c.args.own.now in
    c.requires a (subst (λ (x : Fingerprint g.row.V.Denot). In x own) (sym c.a-item.is) (in_at own c.loop-a.a-index a (omega arith)))

pub returns-in_err-meet-2-clause-counted : goal.returns-in_err-meet-2-clause-counted
returns-in_err-meet-2-clause-counted g c =
    let p = err_from_is_err_and c.from_residual-in_err-meet-2.result c.from_residual-in_err-meet-2.ensures.1 in
    rw p.1
    (full_after c.args.scope.k (files c.args.scope) c.args.before.now c.args.own.now c.args.after.now c.a-item.result c.loop-a.a-index (omega arith) c.a-item.is c.loop-a.invariant.0 c.in_ok-meet.ensures.counted c.in_err-meet-2.ensures.counted)

pub loop-a-preserved : goal.loop-a-preserved
loop-a-preserved g c = (
  own_more c.args.scope.k (files c.args.scope) c.args.before.now c.args.own.now c.args.after.now c.a-item.result c.loop-a.a-index (omega arith) c.a-item.is c.loop-a.invariant.0 c.in_ok-meet.ensures.counted c.in_ok-meet-2.ensures.counted,
  c.in_ok-meet-2.ensures.same_reference ∙ c.in_ok-meet.ensures.same_reference ∙ c.loop-a.invariant.1,
)

pub returns : goal.returns
returns g c =
    let all = take_all c.loop-a.a-index c.args.own.now (omega arith) in
    let h = rw all at c.loop-a.invariant.0 in
    record { same_reference = c.loop-a.invariant.1; long = h.long; counted = h }
