use Rattle.std.proofs.Common.{◌≡◌, ◌+◌, false, drop}
use Rattle.clike.specs.Lexemes.{read, quoted_on}
use Rattle.clike.proofs.scan.quoted_length.Given as goal

abbrev pub invariant-loop-i : goal.invariant-loop-i
invariant-loop-i l = l.i + quoted_on l.quote l.taken (read (drop l.i l.body)) ≡ quoted_on l.quote false (read l.body)
