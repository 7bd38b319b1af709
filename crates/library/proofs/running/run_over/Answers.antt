use Rattle.std.proofs.Common.{rules}
use Rattle.library.specs.Stores.{bounds_of}
use Rattle.library.specs.States.{state, shape_of}
use Rattle.library.proofs.Ends.{ran_over}
use Rattle.library.proofs.running.run_over.Goals as goal

-- that the caller has then what the store held last is found by `search`
pub returns : goal.returns
returns g c =
    let p = c.args.plan in
    ran_over _ g.met.H.Value.Order.total (state c.new-store.result) (state c.make_all.new.self) _ _ p.k p.t c.args.tokens.now c.args.index.now p.low p.least c.requires.few.0 c.requires.few.1 c.new-store.ensures.opened (bounds_of (shape_of c.make_all.new.self)) c.make_all.ensures.steps _ _ (search rules) (search rules)
