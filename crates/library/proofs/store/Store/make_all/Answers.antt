use Rattle.std.proofs.Common.{◌≡◌, [], ◌∷◌, sym, ◌∙◌, arith}
use Rattle.std.specs.Vec.Iter.{into_iter_items}
use Rattle.std.proofs.lemmas.List.{nil_from_length}
use Rattle.model.specs.Calls.{asked}
use Rattle.library.specs.States.{state}
use Rattle.library.proofs.Runs.{turn_of, end_of}
use Rattle.library.proofs.store.Store.make_all.Goals as goal

pub loop-call-preserved : goal.loop-call-preserved
loop-call-preserved g c =
    let more : into_iter_items c.loop-call.call-iterator ≡ c.in-Some.call ∷ into_iter_items c.next.new.self = c.in-Some.ensures.steps.0 in
    let less = c.in-Some.ensures.steps.1 in
    let n = c.push_reserved.ensures.len in
    let m = c.push_reserved.ensures.capacity in
    let room = c.loop-call.invariant.1 in (
      turn_of g.H.GramHash.value g.H.Value.Ord.cmp (asked g.S.Source.tokens g.S.Source.ending) (state c.args.self.now) _ (state c.loop-call.self) (state c.make-answer.new.self) _ _ c.in-Some.call _ _ c.make-answer.result more c.push_reserved.ensures.items c.loop-call.invariant.0 c.make-answer.ensures,
      omega arith,
    )

pub returns : goal.returns
returns g c =
    let it = c.loop-call.call-iterator in
    let none : into_iter_items it ≡ [] = nil_from_length _ (sym it.rest.ok.0 ∙ c.in-None.ensures.steps.0) in
    let came = c.into_iter-call-iterator.ensures.into_iter_gives.0 in
    record { tokens = c.loop-call.invariant.0.kept.tokens; index = c.loop-call.invariant.0.kept.index; steps = rw (← came) (end_of g.H.GramHash.value g.H.Value.Ord.cmp (asked g.S.Source.tokens g.S.Source.ending) (state c.args.self.now) _ (state c.loop-call.self) _ _ none c.loop-call.invariant.0) }
