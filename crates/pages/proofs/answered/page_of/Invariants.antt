use Rattle.std.proofs.Common.{◌≡◌, map}
use Rattle.std.specs.Vec.Iter.{into_iter_items}
use Rattle.model.specs.Calls.{shown}
use Rattle.pages.specs.Pages.{lines}
use Rattle.pages.proofs.answered.page_of.Given as goal

abbrev pub invariant-loop-answer : goal.invariant-loop-answer
invariant-loop-answer l = lines (map shown (into_iter_items l.initial.answer-iterator)) ≡ lines (map shown (into_iter_items l.answer-iterator))
