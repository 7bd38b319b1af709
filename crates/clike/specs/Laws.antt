-- What holds of the lexemes of every text, in words of places.
use Rattle.std.specs.Prelude.{◌≡◌, ℕ, zero, suc, ◌+◌, ◌<◌, ◌≤◌, Bool, true, false, not, ◌&&◌, List, ◌∷◌, length, take, ◌==◌, ◌≢◌, slice_index}
use Rattle.std.specs.List.{flat_map, prefix_len, AllByRecursion}
use Rattle.tokens.specs.Texts.{nonzero}
use Rattle.clike.specs.Lexemes.{comment, open_comment, quoted, read, is_quote, first_lexeme, lexemes}
use Rattle.clike.specs.Cutting.{lexeme_of}

-- what is read are the bytes before the first zero byte
abbrev pub ReadingStopsAtZero : Type 0
ReadingStopsAtZero = (bytes : List ℕ) → read bytes ≡ take (prefix_len nonzero bytes) bytes

-- cut to its end, a text gives lexemes whose bytes put together are the text, and none of them is empty
pub record CutToTheEnd (text : List ℕ) : Type 0 where
  pub whole : flat_map (λ p. p.bytes) (lexemes text) ≡ text
  pub some : AllByRecursion (λ p. 0 < length p.bytes) (lexemes text)

abbrev pub CuttingLosesNothing : Type 0
CuttingLosesNothing = (text : List ℕ) → CutToTheEnd text

-- ---- comments

-- `*/` stands at place n, two bytes or more after the start of the text
pub record ClosedAt (text : List ℕ) (n : ℕ) : Type 0 where
  pub later : 2 ≤ n
  pub star : slice_index text n ≡ 42
  pub slash : slice_index text (n + 1) ≡ 47

-- a text that begins with `/*` begins with a comment through the first `*/`, or all of it is an open comment
pub record CommentEnds (text : List ℕ) : Type 0 where
  pub closed : (n : ℕ) → ClosedAt text n → ((m : ℕ) → m < n → ClosedAt text m → ⊥) → first_lexeme text ≡ lexeme_of comment (take (n + 2) text)
  pub unclosed : ((n : ℕ) → ClosedAt text n → ⊥) → first_lexeme text ≡ lexeme_of open_comment text

abbrev pub CommentsEnd : Type 0
CommentsEnd = (body : List ℕ) → CommentEnds (47 ∷ (42 ∷ body))

-- ---- quotes

-- a backslash takes the byte at place i along: one stands right before it that is not itself taken
abbrev pub taken : List ℕ → ℕ → Bool
taken text zero = false
taken text (suc i) = slice_index text i == 92 && not (taken text i)

-- neither the quote q nor a line feed stands at place i, unless a backslash takes it along
abbrev pub GoesOn : ℕ → List ℕ → ℕ → Type 0
GoesOn q text i = taken text i ≡ false → (slice_index text i ≢ q) × (slice_index text i ≢ 10)

-- what the first byte q of the text opens, by the first place n behind it at which it does not go on
pub record QuoteEnds (q : ℕ) (text : List ℕ) : Type 0 where
  pub closed : (n : ℕ) → 1 ≤ n → n < length text → ((m : ℕ) → 1 ≤ m → m < n → GoesOn q text m) → taken text n ≡ false → slice_index text n ≡ q → first_lexeme text ≡ lexeme_of quoted (take (n + 1) text)
  pub line : (n : ℕ) → 1 ≤ n → n < length text → ((m : ℕ) → 1 ≤ m → m < n → GoesOn q text m) → taken text n ≡ false → slice_index text n ≡ 10 → first_lexeme text ≡ lexeme_of quoted (take n text)
  pub end : ((m : ℕ) → 1 ≤ m → m < length text → GoesOn q text m) → first_lexeme text ≡ lexeme_of quoted text

abbrev pub QuotesEnd : Type 0
QuotesEnd = (q : ℕ) (body : List ℕ) → is_quote q ≡ true → QuoteEnds q (q ∷ body)
