use Rattle.std.proofs.Common.{◌≡◌, ◌++◌, map, length, Some, vec_items}
use Rattle.clike.specs.Lexemes.{read, lexemes}
use Rattle.clike.specs.Cutting.{seen}
use Rattle.clike.proofs.cutting.cut_all.Given as goal

abbrev pub invariant-loop-list : goal.invariant-loop-list
invariant-loop-list l = map seen (vec_items l.list) ++ map Some (lexemes (read l.left)) ≡ map Some (lexemes (read l.bytes))

abbrev pub decreases-loop-list : goal.decreases-loop-list
decreases-loop-list l = length l.left
