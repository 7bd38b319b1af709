-- The page that lists tokens, a line each.
use Rattle.std.specs.Prelude.{ℕ, List, [], ◌∷◌, ◌++◌, Some, None, codes, Option}
use Rattle.std.specs.List.{flat_map}
use Rattle.columns.specs.Columns.{row}
use Rattle.tokens.specs.declared.token.Token.{Token}
use Rattle.tokens.specs.declared.token.Fault.{Fault}
use Rattle.tokens.specs.Tokens.{class_number, cause_number}
use Rattle.piles.specs.Piles.{Stream}

-- code, class, from and to, each in eight columns
abbrev pub token_line : Token → List ℕ
token_line t = row 8 (t.code ∷ class_number t.class ∷ t.from ∷ t.to ∷ [])

-- how the list ended: the word, or the word with cause, place and depth
abbrev pub ending_line : Option Fault → List ℕ
ending_line None = codes "clean" ++ 10 ∷ []
ending_line (Some f) = codes "fault" ++ row 8 (cause_number f.cause ∷ f.place ∷ f.depth ∷ [])

abbrev pub listing : List Token → Option Fault → List ℕ
listing ts e = flat_map token_line ts ++ ending_line e

abbrev pub listed : Stream → List ℕ
listed s = listing s.tokens s.ending
