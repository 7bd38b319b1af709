-- What a C-like source stands for, by its state.
use Rattle.std.specs.Prelude.{◌≡◌, ℕ, ◌+◌, ◌<◌, ◌≤◌, List, ◌++◌, length, take, drop, Some, None, Option, MatchOption}
use Rattle.std.specs.Option.{option_or}
use Rattle.std.specs.Int.NonZero.{non_zero_usize_get}
use Rattle.tokens.specs.declared.token.Class.{Class}
use Rattle.tokens.specs.declared.token.Token.{Token}
use Rattle.tokens.specs.declared.token.Fault.{Fault}
use Rattle.clike.specs.declared.state.Sort.{Sort}
use Rattle.clike.specs.declared.state.Sort.TheVariants as sort
use Rattle.clike.specs.declared.state.Begun.{Begun}
use Rattle.clike.specs.declared.state.Clike.{Clike}
use Rattle.clike.specs.Lexemes.{Kind, blank, comment, quoted, name, number, mark, lexemes}
use Rattle.tokens.specs.Tokens.{limit}
use Rattle.tokens.specs.Texts.{text_ending}
use Rattle.clike.specs.Texts.{text_at}
use Rattle.clike.specs.Clikes.{first_class, further_class, byte_tokens, tokens_of, open_fault}

abbrev pub sort_kind : Sort → Kind
sort_kind sort.Blank = blank
sort_kind sort.Comment = comment
sort_kind sort.Quoted = quoted
sort_kind sort.Name = name
sort_kind sort.Number = number
sort_kind sort.Mark = mark

abbrev pub sort_first : Sort → Class
sort_first s = first_class (sort_kind s)

abbrev pub sort_further : Sort → Class
sort_further s = further_class (sort_kind s)

-- what is left of a lexeme: so many bytes, and nothing where that is none
abbrev pub IsLeft : Sort → ℕ → Option Begun → Type 0
IsLeft s n left = MatchOption left (n ≡ 0) (λ b. (b.sort ≡ s) × (non_zero_usize_get b.left ≡ n))

-- how many bytes of the lexeme that was begun are to come
abbrev pub bytes_left : Option Begun → ℕ
bytes_left None = 0
bytes_left (Some b) = non_zero_usize_get b.left

-- the tokens to come: those of the rest of the lexeme that was begun, then those of the lexemes after it
abbrev pub tokens_at : List ℕ → ℕ → Option Begun → List Token
tokens_at text at None = tokens_of at (lexemes (drop at text))
tokens_at text at (Some b) =
    let left = non_zero_usize_get b.left in
    byte_tokens at (sort_further b.sort) (take left (drop at text)) ++ tokens_of (at + left) (lexemes (drop (at + left) text))

abbrev pub clike_left : Clike → List Token
clike_left s = tokens_at (text_at s.file.now s.at) s.at s.begun

-- the fault of an open comment: the one that was begun, or else one that is still to come
abbrev pub open_at : List ℕ → ℕ → ℕ → Option Fault → Option Fault
open_at text at left known = option_or known (open_fault (at + left) (lexemes (drop (at + left) text)))

-- the ending: the fault of the file itself, or else that of an open comment
abbrev pub ending_left : Clike → Option Fault
ending_left s = option_or (text_ending s.file.now s.at) (open_at (text_at s.file.now s.at) s.at (bytes_left s.begun) s.unclosed)

-- a file within the limit has a byte at a place
pub record NextByte (file : List ℕ) (at : ℕ) : Type 0 where
  pub within : at < length file
  pub short : length file ≤ limit
