-- The tokens of a C-like text: a keyword is one token, each other lexeme gives one token a byte.
use Rattle.std.specs.Prelude.{ℕ, ◌+◌, List, [], ◌∷◌, ◌++◌, length, Some, None, Option}
use Rattle.std.specs.Option.{option_or}
use Rattle.tokens.specs.declared.token.Class.{Class}
use Rattle.tokens.specs.declared.token.Class.TheVariants as class
use Rattle.tokens.specs.declared.token.Cause.TheVariants.{OpenComment}
use Rattle.tokens.specs.declared.token.Token.{Token}
use Rattle.tokens.specs.declared.token.Fault.{Fault}
use Rattle.tokens.specs.Texts.{file_fault, text_ending}
use Rattle.clike.specs.Texts.{text_read}
use Rattle.clike.specs.Lexemes.{Kind, blank, comment, open_comment, quoted, name, keyword, number, mark, Piece, lexemes}

-- the class of a lexeme's first byte, and of the others
abbrev pub first_class : Kind → Class
first_class blank = class.Blank
first_class comment = class.Comment
first_class open_comment = class.Comment
first_class quoted = class.Quoted
first_class name = class.NameFirst
first_class (keyword n) = class.Keyword
first_class number = class.NumberFirst
first_class mark = class.Mark

abbrev pub further_class : Kind → Class
further_class blank = class.Blank
further_class comment = class.Comment
further_class open_comment = class.Comment
further_class quoted = class.Quoted
further_class name = class.NameFurther
further_class (keyword n) = class.Keyword
further_class number = class.NumberFurther
further_class mark = class.Mark

-- the byte b at a place
abbrev pub byte_token : ℕ → Class → ℕ → Token
byte_token at c b = record { code = b; class = c; from = at; to = at + 1 }

-- bytes of one class from a place on
abbrev pub byte_tokens : ℕ → Class → List ℕ → List Token
byte_tokens at c [] = []
byte_tokens at c (b ∷ bs) = byte_token at c b ∷ byte_tokens (at + 1) c bs

abbrev pub spelled : ℕ → Class → Class → List ℕ → List Token
spelled at first further [] = []
spelled at first further (b ∷ bs) = byte_token at first b ∷ byte_tokens (at + 1) further bs

abbrev pub keyword_token : ℕ → ℕ → ℕ → Token
keyword_token at n size = record { code = 256 + n; class = class.Keyword; from = at; to = at + size }

-- the tokens of a lexeme that begins at a place
abbrev pub kind_tokens : ℕ → Kind → List ℕ → List Token
kind_tokens at (keyword n) bytes = keyword_token at n (length bytes) ∷ []
kind_tokens at blank bytes = spelled at (first_class blank) (further_class blank) bytes
kind_tokens at comment bytes = spelled at (first_class comment) (further_class comment) bytes
kind_tokens at open_comment bytes = spelled at (first_class open_comment) (further_class open_comment) bytes
kind_tokens at quoted bytes = spelled at (first_class quoted) (further_class quoted) bytes
kind_tokens at name bytes = spelled at (first_class name) (further_class name) bytes
kind_tokens at number bytes = spelled at (first_class number) (further_class number) bytes
kind_tokens at mark bytes = spelled at (first_class mark) (further_class mark) bytes

-- the tokens of lexemes that stand one after the other, the first at a place
abbrev pub tokens_of : ℕ → List Piece → List Token
tokens_of at [] = []
tokens_of at (p ∷ ps) = kind_tokens at p.kind p.bytes ++ tokens_of (at + length p.bytes) ps

abbrev pub clike_tokens : List ℕ → List Token
clike_tokens text = tokens_of 0 (lexemes text)

-- ---- how the list ends

-- a comment that is not closed is a fault at its slash
abbrev pub fault_of : ℕ → Kind → Option Fault → Option Fault
fault_of at open_comment e = Some (file_fault OpenComment at)
fault_of at blank e = e
fault_of at comment e = e
fault_of at quoted e = e
fault_of at name e = e
fault_of at (keyword n) e = e
fault_of at number e = e
fault_of at mark e = e

abbrev pub open_fault : ℕ → List Piece → Option Fault
open_fault at [] = None
open_fault at (p ∷ ps) = fault_of at p.kind (open_fault (at + length p.bytes) ps)

-- by a fault of the file itself, or else by an open comment
abbrev pub clike_ending : List ℕ → Option Fault
clike_ending file = option_or (text_ending file 0) (open_fault 0 (lexemes (text_read file)))
