use Rattle.std.proofs.Common.{◌-◌}
use Rattle.prints.specs.Walk.{grams, codes_of}
use Rattle.prints.proofs.Onward.{Leaves}
use Rattle.prints.proofs.walk.Winnow.next.Given as goal

abbrev pub invariant-loop-here : goal.invariant-loop-here
invariant-loop-here g l =
    Leaves g.H.GramHash.value g.H.Value.Ord.cmp g.C.Codes.codes l.self-inside.grams l.self-inside.queue l.self-inside.from l.fn.self

abbrev pub decreases-loop-here : goal.decreases-loop-here
decreases-loop-here g l = grams l.self-inside.grams.k (codes_of g.H.GramHash.value g.C.Codes.codes l.self-inside.grams) - l.self-inside.grams.place
