-- What is read of a file from a place on, as a part of the file.
use Rattle.std.proofs.Common.{◌≡◌, ℕ, ◌+◌, ◌<◌, ◌≤◌, true, List, length, get_or, take, drop, sym, ap, ◌∙◌, ⊎_elim, zero-add, arith}
use Rattle.std.specs.List.{prefix_len}
use Rattle.std.proofs.lemmas.List.{length-take, length-take-le, drop-take, get_or-take, get_or-drop}
use Rattle.std.proofs.lemmas.Bool.{cond-false, le-ltb, cases_eq}
use Rattle.tokens.specs.Tokens.{limit}
use Rattle.tokens.specs.Texts.{nonzero, too_long, readable}
use Rattle.tokens.proofs.Texts.{reads_more, reads_on, reads_within, reads_some}
use Rattle.clike.specs.Texts.{text_read, text_at}
use Rattle.clike.specs.Lexemes.{read}
use Rattle.clike.proofs.Plain.{plain, plain_from}
use Rattle.clike.proofs.Lawful.{reading_stops_at_zero}

pub text_start : (file : List ℕ) → text_at file 0 ≡ text_read file
text_start file = ap (λ n. take n file) (zero-add (readable file 0))

-- where nothing is read, the text ends
pub text_ends : (file : List ℕ) (at : ℕ) → readable file at ≡ 0 → length (text_at file at) ≤ at
text_ends file at none = omega (arith, none, length-take (at + readable file at) file)

-- as bytes are read, the text stays
pub text_stays : (file : List ℕ) (at d : ℕ) → d ≤ readable file at → text_at file (at + d) ≡ text_at file at
text_stays file at d h =
    let same : at + d + readable file (at + d) ≡ at + readable file at = omega (arith, reads_on file at d h) in
    ap (λ n. take n file) same

pub text_length : (file : List ℕ) (at : ℕ) → 0 < readable file at → length (text_at file at) ≡ at + readable file at
text_length file at some = length-take-le (at + readable file at) file (reads_within file at some).0

pub text_tail : (file : List ℕ) (at : ℕ) → drop at (text_at file at) ≡ take (readable file at) (drop at file)
text_tail file at = drop-take at (readable file at) file

-- what a cut reads is the rest of the text
pub text_read_on : (file : List ℕ) (at : ℕ) → length file ≤ limit → read (drop at file) ≡ drop at (text_at file at)
text_read_on file at short =
    let all : readable file at ≡ prefix_len nonzero (drop at file) = cond-false (too_long file) _ _ (le-ltb limit (length file) short) in
    reading_stops_at_zero (drop at file) ∙ ap (λ n. take n (drop at file)) (sym all) ∙ sym (text_tail file at)

-- the next byte
module _ (file : List ℕ) (at : ℕ) (short : length file ≤ limit) (h : at < length file) (full : get_or file at 0 ≡ 0 → ⊥) where
  pub some_read : 0 < readable file at
  some_read = omega (arith, reads_more file at short h full)

  pub text_inside : at < length (text_at file at)
  text_inside = omega (arith, some_read, text_length file at some_read)

  pub text_byte : get_or (text_at file at) at 0 ≡ get_or file at 0
  text_byte = let less : at < at + readable file at = omega (arith, some_read) in get_or-take (at + readable file at) file at 0 less

-- what is still to come is plain
pub text_plain : (file : List ℕ) (at : ℕ) → ((k : ℕ) → get_or file k 0 ≤ 255) → plain (drop at (text_at file at)) ≡ true
text_plain file at bytes =
    let tail = take (readable file at) (drop at file) in
    let size = length-take (readable file at) (drop at file) in
    let each : (k : ℕ) → k < length tail → (0 < get_or tail k 0) × (get_or tail k 0 < 256) = λ k h.
    let less : k < readable file at = omega (arith, size) in
    let same : get_or tail k 0 ≡ get_or file (at + k) 0 = get_or-take (readable file at) (drop at file) k 0 less ∙ get_or-drop at file k 0 in
    (omega (arith, same, reads_some file at k less), omega (arith, same, bytes (at + k))) in
    ap plain (text_tail file at) ∙ plain_from tail each

-- what is read of a file lies within the limit
pub text_short : (file : List ℕ) → length (text_read file) ≤ limit
text_short file =
    ⊎_elim
    (λ none. omega (arith, none, length-take (readable file 0) file))
    (λ ne. let within = reads_within file 0 (omega (arith, ne)) in omega (arith, within.0, within.1, length-take (readable file 0) file))
    (cases_eq (readable file 0) 0)
