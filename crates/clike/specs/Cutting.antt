-- What `cut` answers.
use Rattle.std.specs.Prelude.{◌≡◌, ℕ, ◌<◌, List, [], ◌++◌, length, Some, None, Option}
use Rattle.clike.specs.declared.lexeme.Lexeme.{Lexeme}
use Rattle.clike.specs.declared.lexeme.Lexeme.TheVariants as lexeme
use Rattle.clike.specs.Lexemes.{Kind, blank, comment, open_comment, quoted, name, keyword, number, mark, Piece, read, first_lexeme}

-- a lexeme's bytes
abbrev pub lexeme_bytes : Lexeme → List ℕ
lexeme_bytes lexeme.Nothing = []
lexeme_bytes (lexeme.Blank run) = run.now
lexeme_bytes (lexeme.Comment run) = run.now
lexeme_bytes (lexeme.OpenComment run) = run.now
lexeme_bytes (lexeme.Quoted run) = run.now
lexeme_bytes (lexeme.Name run) = run.now
lexeme_bytes (lexeme.Keyword run n) = run.now
lexeme_bytes (lexeme.Number run) = run.now
lexeme_bytes (lexeme.Mark run) = run.now

abbrev pub lexeme_of : Kind → List ℕ → Option Piece
lexeme_of k bytes = Some (record { kind = k; bytes = bytes })

-- its kind and its bytes
abbrev pub seen : Lexeme → Option Piece
seen lexeme.Nothing = None
seen (lexeme.Blank run) = lexeme_of blank run.now
seen (lexeme.Comment run) = lexeme_of comment run.now
seen (lexeme.OpenComment run) = lexeme_of open_comment run.now
seen (lexeme.Quoted run) = lexeme_of quoted run.now
seen (lexeme.Name run) = lexeme_of name run.now
seen (lexeme.Keyword run n) = lexeme_of (keyword n) run.now
seen (lexeme.Number run) = lexeme_of number run.now
seen (lexeme.Mark run) = lexeme_of mark run.now

-- the first lexeme and the rest of the bytes: the lexeme is that of what is read, the two put together are the bytes, and where
-- there is something to read the lexeme is not empty
pub record Cuts (bytes : List ℕ) (l : Lexeme) (rest : List ℕ) : Type 0 where
  pub first : seen l ≡ first_lexeme (read bytes)
  pub whole : lexeme_bytes l ++ rest ≡ bytes
  pub some : 0 < length (read bytes) → 0 < length (lexeme_bytes l)
