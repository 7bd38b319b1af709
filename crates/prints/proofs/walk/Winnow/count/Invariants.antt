use Rattle.std.proofs.Common.{◌≡◌, ◌+◌, length}
use Rattle.prints.proofs.walk.Winnow.count.Given as goal

abbrev pub invariant-loop-n : goal.invariant-loop-n
invariant-loop-n g l = l.n + length l.self ≡ length l.initial.self

abbrev pub decreases-loop-n : goal.decreases-loop-n
decreases-loop-n g l = length l.self
