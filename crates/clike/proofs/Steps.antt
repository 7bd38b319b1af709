-- One step of a C-like source.
use Rattle.std.proofs.Common.{◌≡◌, ℕ, suc, ◌+◌, ◌-◌, ◌<◌, ◌≤◌, List, [], ◌∷◌, ◌++◌, length, get_or, take, drop, Some, None, Option, sym, refl, ap, ◌∙◌, add-zero, arith}
use Rattle.std.proofs.lemmas.List.{drop_more, drop-drop, drop_all, take_all, length-take-le, length-drop}
use Rattle.std.specs.Int.NonZero.{non_zero_usize_get}
use Rattle.std.specs.Option.{option_or}
use Rattle.tokens.specs.declared.token.Token.{Token}
use Rattle.tokens.specs.declared.token.Fault.{Fault}
use Rattle.tokens.specs.declared.token.Cause.TheVariants.{OpenComment}
use Rattle.tokens.specs.Texts.{readable, file_fault, text_ending}
use Rattle.tokens.proofs.Texts.{ends_on}
use Rattle.clike.specs.Texts.{text_at}
use Rattle.clike.specs.declared.state.Sort.{Sort}
use Rattle.clike.specs.Lexemes.{Kind, open_comment, keyword, Piece, piece_of, first_shape, first_lexeme, lexemes}
use Rattle.clike.specs.Cutting.{lexeme_of}
use Rattle.clike.specs.Clikes.{byte_token, byte_tokens, spelled, keyword_token, kind_tokens, tokens_of, fault_of, open_fault}
use Rattle.clike.specs.declared.state.Begun.{Begun}
use Rattle.clike.specs.declared.state.Clike.{Clike}
use Rattle.clike.specs.States.{sort_first, sort_further, IsLeft, bytes_left, tokens_at, open_at, clike_left, ending_left}
use Rattle.clike.proofs.Shapes.{shape_fits}
use Rattle.clike.proofs.Pieces.{lexemes_none, lexemes_more}
use Rattle.clike.proofs.Readings.{text_stays}

-- ---- the lexeme at a place

pub record LexemeAt (text : List ℕ) (at : ℕ) (k : Kind) (run : List ℕ) : Type 0 where
  pub some : 0 < length run
  pub fits : at + length run ≤ length text
  pub front : run ≡ take (length run) (drop at text)
  pub pieces : lexemes (drop at text) ≡ record { kind = k; bytes = run } ∷ lexemes (drop (at + length run) text)

same_kind : (p q : Piece) → ◌≡◌ {A = Option Piece} (Some p) (Some q) → p ≡ q
same_kind p q e = cc

pub lexeme_at : (text : List ℕ) (at : ℕ) (k : Kind) (run : List ℕ) → at < length text → lexeme_of k run ≡ first_lexeme (drop at text) → LexemeAt text at k run
lexeme_at text at k run h e =
    let b = get_or text at 0 in
    let after = drop (at + 1) text in
    let s = first_shape b after in
    let split : drop at text ≡ b ∷ after = drop_more text at 0 h in
    let whole : first_lexeme (drop at text) ≡ Some (piece_of s (b ∷ after)) = ap first_lexeme split in
    let same : record { kind = k; bytes = run } ≡ piece_of s (b ∷ after) = same_kind (record { kind = k; bytes = run }) (piece_of s (b ∷ after)) (e ∙ whole) in
    let bytes : run ≡ take s.size (b ∷ after) = ap (λ q. q.bytes) same in
    let fits = shape_fits b after in
    let size : length run ≡ s.size = ap length bytes ∙ length-take-le s.size (b ∷ after) fits.1 in
    let long = ap length split in
    let short = length-drop at text in
    let rest : drop s.size (b ∷ after) ≡ drop (at + length run) text = ap (drop s.size) (sym split) ∙ drop-drop s.size at text ∙ ap (λ n. drop (at + n) text) (sym size) in
    record {
      some = omega (arith, fits.0);
      fits = omega (arith, fits.1);
      front = bytes ∙ ap (λ n. take n (b ∷ after)) (sym size) ∙ ap (take (length run)) (sym split);
      pieces = ap lexemes split ∙ lexemes_more b after ∙ ap (λ q. q ∷ lexemes (drop s.size (b ∷ after))) (sym same) ∙ ap (λ xs. record { kind = k; bytes = run } ∷ lexemes xs) rest;
    }

-- ---- steps

take_first : (text : List ℕ) (at n : ℕ) → at < length text → 0 < n → take n (drop at text) ≡ get_or text at 0 ∷ take (n - 1) (drop (at + 1) text)
take_first text at n h some =
    let e : n ≡ suc (n - 1) = omega arith in
    ap (λ m. take m (drop at text)) e ∙ ap (take (suc (n - 1))) (drop_more text at 0 h)

-- the tokens to come, where so many bytes are left of a lexeme of some sort
abbrev spelling : List ℕ → ℕ → ℕ → Sort → List Token
spelling text at left s = byte_tokens at (sort_further s) (take left (drop at text)) ++ tokens_of (at + left) (lexemes (drop (at + left) text))

left_tokens : (text : List ℕ) (at n : ℕ) (s : Sort) (begun : Option Begun) → IsLeft s n begun → tokens_at text at begun ≡ spelling text at n s
left_tokens text at n s None e = ap (λ m. tokens_of m (lexemes (drop m text))) (sym (add-zero at)) ∙ ap (λ m. spelling text at m s) (sym e)
left_tokens text at n s (Some b) e = ap (λ m. spelling text at m b.sort) e.1 ∙ ap (spelling text at n) e.0

left_bytes : (n : ℕ) (s : Sort) (begun : Option Begun) → IsLeft s n begun → bytes_left begun ≡ n
left_bytes n s None e = sym e
left_bytes n s (Some b) e = e.1

-- nothing is to come at the end of the text
pub done : (text : List ℕ) (at : ℕ) (begun : Option Begun) → length text ≤ at → tokens_at text at begun ≡ []
done text at None h = ap (λ xs. tokens_of at (lexemes xs)) (drop_all at text h) ∙ ap (tokens_of at) lexemes_none
done text at (Some b) h =
    let left = non_zero_usize_get b.left in
    ap (λ xs. byte_tokens at (sort_further b.sort) xs ++ tokens_of (at + left) (lexemes (drop (at + left) text))) (ap (take left) (drop_all at text h) ∙ take_all left [] (omega arith))
    ∙ ap (λ xs. tokens_of (at + left) (lexemes xs)) (drop_all (at + left) text (omega arith)) ∙ ap (tokens_of (at + left)) lexemes_none

or_none : (known : Option Fault) → option_or known None ≡ known
or_none None = refl
or_none (Some f) = refl

pub ended : (text : List ℕ) (at left : ℕ) (known : Option Fault) → length text ≤ at → open_at text at left known ≡ known
ended text at left known h =
    ap (λ xs. option_or known (open_fault (at + left) (lexemes xs))) (drop_all (at + left) text (omega arith)) ∙ ap (λ ps. option_or known (open_fault (at + left) ps)) lexemes_none ∙ or_none known

-- the next byte of the lexeme that was begun
module _ (text : List ℕ) (at : ℕ) (b : Begun) (next : Option Begun) (h : at < length text) (some : 0 < non_zero_usize_get b.left) (left : IsLeft b.sort (non_zero_usize_get b.left - 1) next) where
  pub further_tokens : tokens_at text at (Some b) ≡ byte_token at (sort_further b.sort) (get_or text at 0) ∷ tokens_at text (at + 1) next
  further_tokens =
      let n = non_zero_usize_get b.left in
      let c = sort_further b.sort in
      let e : at + n ≡ at + 1 + (n - 1) = omega arith in
      ap (λ xs. byte_tokens at c xs ++ tokens_of (at + n) (lexemes (drop (at + n) text))) (take_first text at n h some)
      ∙ ap (λ m. byte_token at c (get_or text at 0) ∷ (byte_tokens (at + 1) c (take (n - 1) (drop (at + 1) text)) ++ tokens_of m (lexemes (drop m text)))) e
      ∙ ap (λ ts. byte_token at c (get_or text at 0) ∷ ts) (sym (left_tokens text (at + 1) (n - 1) b.sort next left))

  pub further_ending : (known : Option Fault) → open_at text (at + 1) (bytes_left next) known ≡ open_at text at (non_zero_usize_get b.left) known
  further_ending known =
      let e : at + 1 + bytes_left next ≡ at + non_zero_usize_get b.left = omega (arith, left_bytes (non_zero_usize_get b.left - 1) b.sort next left) in
      ap (λ n. option_or known (open_fault n (lexemes (drop n text)))) e

-- the first byte of a lexeme
module _ (text : List ℕ) (at : ℕ) (k : Kind) (run : List ℕ) (h : at < length text) (g : LexemeAt text at k run) where
  first_tokens : tokens_at text at None ≡ kind_tokens at k run ++ tokens_of (at + length run) (lexemes (drop (at + length run) text))
  first_tokens = ap (tokens_of at) g.pieces

  first_ending : (known : Option Fault) → open_at text at 0 known ≡ option_or known (fault_of at k (open_fault (at + length run) (lexemes (drop (at + length run) text))))
  first_ending known = ap (λ n. option_or known (open_fault n (lexemes (drop n text)))) (add-zero at) ∙ ap (λ ps. option_or known (open_fault at ps)) g.pieces

  pub spelled_tokens : (s : Sort) → kind_tokens at k run ≡ spelled at (sort_first s) (sort_further s) run
      → tokens_at text at None ≡ byte_token at (sort_first s) (get_or text at 0) ∷ spelling text (at + 1) (length run - 1) s
  spelled_tokens s e =
      let some = g.some in
      let rest = tokens_of (at + length run) (lexemes (drop (at + length run) text)) in
      let move : at + length run ≡ at + 1 + (length run - 1) = omega arith in
      first_tokens ∙ ap (λ ts. ts ++ rest) (e ∙ ap (spelled at (sort_first s) (sort_further s)) (g.front ∙ take_first text at (length run) h some))
      ∙ ap (λ n. byte_token at (sort_first s) (get_or text at 0) ∷ (byte_tokens (at + 1) (sort_further s) (take (length run - 1) (drop (at + 1) text)) ++ tokens_of n (lexemes (drop n text)))) move

  pub spelled_ending : (known : Option Fault) → ((e : Option Fault) → fault_of at k e ≡ e) → open_at text (at + 1) (length run - 1) known ≡ open_at text at 0 known
  spelled_ending known closed =
      let some = g.some in
      let move : at + 1 + (length run - 1) ≡ at + length run = omega arith in
      ap (λ n. option_or known (open_fault n (lexemes (drop n text)))) move ∙ sym (first_ending known ∙ ap (option_or known) (closed (open_fault (at + length run) (lexemes (drop (at + length run) text)))))

  pub opened_ending : (known : Option Fault) → k ≡ open_comment → open_at text (at + 1) (length run - 1) (option_or known (Some (file_fault OpenComment at))) ≡ open_at text at 0 known
  opened_ending known e =
      let kept : (known : Option Fault) (g : Option Fault) → option_or (option_or known (Some (file_fault OpenComment at))) g ≡ option_or known (Some (file_fault OpenComment at)) = λ known g.
      elim known as (λ o. option_or (option_or o (Some (file_fault OpenComment at))) g ≡ option_or o (Some (file_fault OpenComment at))) [ None ↦ refl | Some f ↦ refl ] in
      kept known _ ∙ sym (first_ending known ∙ ap (λ x. option_or known (fault_of at x (open_fault (at + length run) (lexemes (drop (at + length run) text))))) e)

  pub keyword_tokens : (n : ℕ) → k ≡ keyword n → tokens_at text at None ≡ keyword_token at n (length run) ∷ tokens_at text (at + length run) None
  keyword_tokens n e =
      first_tokens ∙ ap (λ x. kind_tokens at x run ++ tokens_of (at + length run) (lexemes (drop (at + length run) text))) e

  pub keyword_ending : (n : ℕ) (known : Option Fault) → k ≡ keyword n → open_at text (at + length run) 0 known ≡ open_at text at 0 known
  keyword_ending n known e =
      ap (λ m. option_or known (open_fault m (lexemes (drop m text)))) (add-zero (at + length run))
      ∙ sym (first_ending known ∙ ap (λ x. option_or known (fault_of at x (open_fault (at + length run) (lexemes (drop (at + length run) text))))) e)

-- ---- whole states

pub same_left : (a : Clike) (text : List ℕ) (at : ℕ) (begun : Option Begun) → text_at a.file.now a.at ≡ text → a.at ≡ at → a.begun ≡ begun → clike_left a ≡ tokens_at text at begun
same_left a text at begun e f g = cc

pub same_ending : (a : Clike) (text : List ℕ) (own : Option Fault) (at : ℕ) (begun : Option Begun) (known : Option Fault) → text_ending a.file.now a.at ≡ own → text_at a.file.now a.at ≡ text → a.at ≡ at → a.begun ≡ begun → a.unclosed ≡ known
    → ending_left a ≡ option_or own (open_at text at (bytes_left begun) known)
same_ending a text own at begun known o e f g h = cc

-- one state follows another: some bytes were read, and the lists and endings speak of the same text
pub record Follows (a b : Clike) (d : ℕ) : Type 0 where
  pub text : text_at b.file.now b.at ≡ text_at a.file.now a.at
  pub own : text_ending b.file.now b.at ≡ text_ending a.file.now a.at
  pub at : b.at ≡ a.at + d

pub follows : (a b : Clike) (d : ℕ) → b.file ≡ a.file → b.at ≡ a.at + d → d ≤ readable a.file.now a.at → Follows a b d
follows a b d file at h =
    let file' : b.file.now ≡ a.file.now = ap (λ f. f.now) file in
    record {
      text = ap (λ f. text_at f b.at) file' ∙ ap (text_at a.file.now) at ∙ text_stays a.file.now a.at d h;
      own = ap (λ f. text_ending f b.at) file' ∙ ap (text_ending a.file.now) at ∙ ends_on a.file.now a.at d h;
      at = at;
    }

-- a lexeme that gives one token a byte is begun
module _ (a b : Clike) (r : Token) (k : Kind) (s : Sort) (run : List ℕ) (h : a.at < length (text_at a.file.now a.at)) (none : a.begun ≡ None)
    (cut : lexeme_of k run ≡ first_lexeme (drop a.at (text_at a.file.now a.at)))
    (on : Follows a b 1) (left : IsLeft s (length run - 1) b.begun) where
  pub spell_token : kind_tokens a.at k run ≡ spelled a.at (sort_first s) (sort_further s) run → r ≡ byte_token a.at (sort_first s) (get_or (text_at a.file.now a.at) a.at 0) → clike_left a ≡ r ∷ clike_left b
  spell_token e token =
      let xs = text_at a.file.now a.at in
      same_left a xs a.at None refl refl none
      ∙ spelled_tokens xs a.at k run h (lexeme_at xs a.at k run h cut) s e
      ∙ ap (λ ts. byte_token a.at (sort_first s) (get_or xs a.at 0) ∷ ts) (sym (same_left b xs (a.at + 1) b.begun on.text on.at refl ∙ left_tokens xs (a.at + 1) (length run - 1) s b.begun left))
      ∙ ap (λ t. t ∷ clike_left b) (sym token)

  -- with what is known of an open comment in the end
  spelled_to : (known : Option Fault) → b.unclosed ≡ known → ending_left b ≡ option_or (text_ending a.file.now a.at) (open_at (text_at a.file.now a.at) (a.at + 1) (length run - 1) known)
  spelled_to known e =
      let xs = text_at a.file.now a.at in
      let own = text_ending a.file.now a.at in
      same_ending b xs own (a.at + 1) b.begun known on.own on.text on.at refl e ∙ ap (λ n. option_or own (open_at xs (a.at + 1) n known)) (left_bytes (length run - 1) s b.begun left)

  pub spell_ends : ((e : Option Fault) → fault_of a.at k e ≡ e) → b.unclosed ≡ a.unclosed → ending_left b ≡ ending_left a
  spell_ends closed known =
      let xs = text_at a.file.now a.at in
      let own = text_ending a.file.now a.at in
      spelled_to a.unclosed known ∙ ap (option_or own) (spelled_ending xs a.at k run h (lexeme_at xs a.at k run h cut) a.unclosed closed)
      ∙ sym (same_ending a xs own a.at None a.unclosed refl refl refl none refl)

  pub open_ends : k ≡ open_comment → b.unclosed ≡ option_or a.unclosed (Some (file_fault OpenComment a.at)) → ending_left b ≡ ending_left a
  open_ends e known =
      let xs = text_at a.file.now a.at in
      let own = text_ending a.file.now a.at in
      spelled_to _ known ∙ ap (option_or own) (opened_ending xs a.at k run h (lexeme_at xs a.at k run h cut) a.unclosed e)
      ∙ sym (same_ending a xs own a.at None a.unclosed refl refl refl none refl)

-- a keyword is one token
pub keyword_step : (a b : Clike) (n : ℕ) (run : List ℕ) → a.at < length (text_at a.file.now a.at) → a.begun ≡ None → lexeme_of (keyword n) run ≡ first_lexeme (drop a.at (text_at a.file.now a.at))
    → Follows a b (length run) → b.begun ≡ a.begun → b.unclosed ≡ a.unclosed → (clike_left a ≡ keyword_token a.at n (length run) ∷ clike_left b) × (ending_left b ≡ ending_left a)
keyword_step a b n run h none cut on left known =
    let xs = text_at a.file.now a.at in
    let own = text_ending a.file.now a.at in
    let g = lexeme_at xs a.at (keyword n) run h cut in (
      same_left a xs a.at None refl refl none ∙ keyword_tokens xs a.at (keyword n) run h g n refl
          ∙ ap (λ ts. keyword_token a.at n (length run) ∷ ts) (sym (same_left b xs (a.at + length run) None on.text on.at (left ∙ none))),
      same_ending b xs own (a.at + length run) None a.unclosed on.own on.text on.at (left ∙ none) known
          ∙ ap (option_or own) (keyword_ending xs a.at (keyword n) run h g n a.unclosed refl)
          ∙ sym (same_ending a xs own a.at None a.unclosed refl refl refl none refl),
    )

-- there is a lexeme where there are bytes
pub some_lexeme : (text : List ℕ) (at : ℕ) → at < length text → None ≡ first_lexeme (drop at text) → ⊥
some_lexeme text at h e =
    let whole : first_lexeme (drop at text) ≡ Some (piece_of (first_shape (get_or text at 0) (drop (at + 1) text)) (get_or text at 0 ∷ drop (at + 1) text)) = ap first_lexeme (drop_more text at 0 h) in
    cc
