use Rattle.std.proofs.Common.{◌≡◌, ◌+◌, length, drop}
use Rattle.clike.specs.Lexemes.{read, closes, before_close}
use Rattle.clike.proofs.scan.comment_end.Given as goal

abbrev pub invariant-loop-i : goal.invariant-loop-i
invariant-loop-i l =
    (closes (read (drop l.i l.body)) ≡ closes (read l.body))
    × (l.i + before_close (read (drop l.i l.body)) ≡ before_close (read l.body))
    × (l.i + length (read (drop l.i l.body)) ≡ length (read l.body))
