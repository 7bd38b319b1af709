-- The lexemes of a C-like text: which kind the first one is, and how many bytes it has.
use Rattle.std.specs.Prelude.{ℕ, zero, suc, ◌+◌, Bool, true, false, cond, not, ◌&&◌, ◌||◌, List, [], ◌∷◌, length, take, drop, Some, None, Option, ◌==◌}
use Rattle.std.specs.List.{prefix_len}
use Rattle.tokens.specs.Bytes.{is_blank, is_letter, is_digit}
use Rattle.clike.specs.Keywords.{keyword_number}

-- the bytes before the first zero byte
abbrev pub read : List ℕ → List ℕ
read [] = []
read (b ∷ bs) = cond (b == 0) [] (b ∷ read bs)

pub data Kind : Type 0 where
  blank : Kind
  comment : Kind
  open_comment : Kind
  quoted : Kind
  name : Kind
  keyword : ℕ → Kind
  number : Kind
  mark : Kind

-- a kind of lexeme and how many bytes it has
pub record Shape : Type 0 where
  pub kind : Kind
  pub size : ℕ

abbrev pub shape : Kind → ℕ → Shape
shape k n = record { kind = k; size = n }

abbrev pub begins_with : ℕ → List ℕ → Bool
begins_with c [] = false
begins_with c (b ∷ bs) = b == c

-- ---- comments

-- `*/` stands at b and the bytes after it
abbrev pub closing : ℕ → List ℕ → Bool
closing b after = b == 42 && begins_with 47 after

-- whether a `*/` stands somewhere in the text, and how many bytes stand before the first
abbrev pub closes : List ℕ → Bool
closes [] = false
closes (b ∷ bs) = closing b bs || closes bs

abbrev pub before_close : List ℕ → ℕ
before_close [] = 0
before_close (b ∷ bs) = cond (closing b bs) 0 (1 + before_close bs)

-- a comment with these bytes after its `/*`
unfoldable pub block_comment : List ℕ → Shape
block_comment body = cond (closes body) (shape comment (4 + before_close body)) (shape open_comment (2 + length body))

-- a byte of a comment that ends with its line
abbrev pub in_line : ℕ → Bool
in_line b = not (b == 10)

-- ---- quoted lexemes

abbrev pub is_quote : ℕ → Bool
is_quote b = b == 34 || b == 39

-- how many of these bytes belong to a lexeme that the quote q opened: through the next q, or up to a line feed; `taken` says
-- whether a backslash takes the first of them along
abbrev pub quoted_on : ℕ → Bool → List ℕ → ℕ
quoted_on q taken [] = 0
quoted_on q true (b ∷ bs) = 1 + quoted_on q false bs
quoted_on q false (b ∷ bs) = cond (b == q) 1 (cond (b == 10) 0 (1 + quoted_on q (b == 92) bs))

-- ---- names and numbers

abbrev pub begins_word : ℕ → Bool
begins_word b = is_letter b || b == 95

abbrev pub in_word : ℕ → Bool
in_word b = begins_word b || is_digit b

abbrev pub in_number : ℕ → Bool
in_number b = in_word b || b == 46

abbrev pub word_kind : Option ℕ → Kind
word_kind None = name
word_kind (Some n) = keyword n

abbrev pub word : List ℕ → Shape
word text = shape (word_kind (keyword_number (take (prefix_len in_word text) text))) (prefix_len in_word text)

-- ---- the first lexeme of the text b ∷ after, by the first rule that fits
unfoldable pub first_shape : ℕ → List ℕ → Shape
first_shape b after =
    cond (is_blank b) (shape blank 1)
    (cond (b == 47 && begins_with 42 after) (block_comment (drop 1 after))
    (cond (b == 47 && begins_with 47 after) (shape comment (prefix_len in_line (b ∷ after)))
    (cond (is_quote b) (shape quoted (1 + quoted_on b false after))
    (cond (begins_word b) (word (b ∷ after))
    (cond (is_digit b) (shape number (prefix_len in_number (b ∷ after)))
    (shape mark 1))))))

-- a lexeme: its kind and its bytes
pub record Piece : Type 0 where
  pub kind : Kind
  pub bytes : List ℕ

abbrev pub piece_of : Shape → List ℕ → Piece
piece_of s text = record { kind = s.kind; bytes = take s.size text }

-- the first lexeme of a text; none where there is nothing to read
abbrev pub first_lexeme : List ℕ → Option Piece
first_lexeme [] = None
first_lexeme (b ∷ after) = Some (piece_of (first_shape b after) (b ∷ after))

-- all lexemes of a text, cut from the left; each has a byte at least, so as many steps as there are bytes are enough
unfoldable pub lexemes_in : ℕ → List ℕ → List Piece
lexemes_in n [] = []
lexemes_in zero (b ∷ after) = []
lexemes_in (suc n) (b ∷ after) = piece_of (first_shape b after) (b ∷ after) ∷ lexemes_in n (drop (first_shape b after).size (b ∷ after))

abbrev pub lexemes : List ℕ → List Piece
lexemes text = lexemes_in (length text) text
