use Rattle.std.proofs.Common.{◌∙◌, refl, arith}
use Rattle.std.proofs.lemmas.Result.{err_from_is_err_and}
use Rattle.pairing.specs.Scopes.{files}
use Rattle.pairing.proofs.Walked.{walked_none, walked_all, walked_more, walked_full}
use Rattle.pairing.proofs.tally.Tally.walk.Goals as goal

pub returns-in_err-meet_group-clause-counted : goal.returns-in_err-meet_group-clause-counted
returns-in_err-meet_group-clause-counted g c r =
    let s = c.args.scope in
    let p = err_from_is_err_and c.from_residual.result c.from_residual.ensures.1 in
    rw p.1
    (walked_full g.met.V.Order.total s.number s.k (files s) c.args.index.now c.loop-at.at c.loop-at.invariant.1 c.first_group.result c.first_group.ensures.count c.in_err-meet_group.ensures.counted r)

pub loop-at-preserved : goal.loop-at-preserved
loop-at-preserved g c =
    let s = c.args.scope in (
      omega arith,
      walked_more g.met.V.Order.total s.number s.k (files s) c.args.index.now c.loop-at.at c.loop-at.invariant.1 c.first_group.result c.first_group.ensures.count c.in_ok-meet_group.ensures.counted,
      c.in_ok-meet_group.ensures.same_reference ∙ c.loop-at.invariant.2,
    )

pub returns : goal.returns
returns g c =
    let s = c.args.scope in
    record {
      same_reference = c.loop-at.invariant.2;
      long = c.loop-at.invariant.1.tallied.long;
      counted = λ r. walked_all g.met.V.Order.total s.number s.k (files s) c.args.index.now c.loop-at.at c.loop-at.invariant.1 (omega arith) r;
    }

pub loop-at-init : goal.loop-at-init
loop-at-init g c =
    let s = c.args.scope in
    let self = c.args.self.now in
    (omega arith, walked_none g.V.Ord.cmp s.number s.k (files s) c.args.index.now self.list.now c.args.self.now.counts (record { room = self.room; rises = self.rises }), refl)
