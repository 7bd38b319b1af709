use Rattle.std.proofs.Common.{◌≡◌, ◌<◌, length, ap, arith}
use Rattle.std.proofs.lemmas.List.{length-map}
use Rattle.prints.proofs.Winnowed.{winnowed_within}
use Rattle.runs.specs.Passages.{codes}
use Rattle.filling.proofs.Writes.{next_in, one_more, underway_count, finished, finished_count}
use Rattle.filling.proofs.writing.write_prints.Goals as goal

pub overflow_cast-free : goal.overflow_cast-free
overflow_cast-free g c =
    let by = c.args.by in
    let ts = c.args.tokens.now in
    let size = c.requires.size in
    let member = next_in c.loop-found.invariant c.in-Some.ensures.steps in
    let inside = winnowed_within g.H.GramHash.value g.met.H.Value.Order.total by.k by.w by.window (codes ts) by.gram.0 c.in-Some.found member in
    let count : length (codes ts) ≡ length ts = length-map ts (λ a. a.code) in
    omega arith

pub loop-found-preserved : goal.loop-found-preserved
loop-found-preserved g c =
    let h = c.loop-found.invariant in
    let next = c.in-Some.ensures.steps in
    let total = underway_count h in
    let room : c.loop-found.n < length c.args.free.now = let e = ap length next in let f = c.requires.fits in omega arith in
    one_more h next room

pub returns : goal.returns
returns g c =
    let h = c.loop-found.invariant in
    let none = c.in-None.ensures.steps.0 in
    record { count = finished_count h none; after = finished h none }
