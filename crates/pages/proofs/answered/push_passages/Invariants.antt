use Rattle.std.proofs.Common.{◌≡◌, ◌++◌, take, vec_items}
use Rattle.std.specs.List.{flat_map}
use Rattle.pages.specs.Pages.{passage_line}
use Rattle.pages.proofs.answered.push_passages.Given as goal

abbrev pub invariant-loop-x : goal.invariant-loop-x
invariant-loop-x l = vec_items l.out ≡ vec_items l.initial.out ++ flat_map passage_line (take l.x-index l.list)
