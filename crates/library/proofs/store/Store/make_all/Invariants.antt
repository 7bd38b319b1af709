use Rattle.std.proofs.Common.{◌+◌, ◌≤◌, map, vec_items, vec_len, vec_capacity}
use Rattle.std.specs.Vec.Iter.{into_iter_items, into_iter_len}
use Rattle.model.specs.Calls.{asked, shown}
use Rattle.library.specs.States.{state}
use Rattle.library.proofs.Runs.{Underway}
use Rattle.library.proofs.store.Store.make_all.Given as goal

abbrev pub invariant-loop-call : goal.invariant-loop-call
invariant-loop-call g l =
    Underway g.H.GramHash.value g.H.Value.Ord.cmp (state l.initial.self) (state l.self) (map (asked g.S.Source.tokens g.S.Source.ending) (into_iter_items l.initial.call-iterator)) (map shown (vec_items l.answers))
    (map (asked g.S.Source.tokens g.S.Source.ending) (into_iter_items l.call-iterator))
    × (vec_len l.answers + into_iter_len l.call-iterator ≤ vec_capacity l.answers)
