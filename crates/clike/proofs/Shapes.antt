-- The first lexeme: its rules one by one, and its size.
use Rattle.std.proofs.Common.{◌≡◌, ℕ, ◌+◌, ◌<◌, ◌≤◌, Bool, true, false, cond, ◌&&◌, ◌||◌, eqb, ltb, List, [], ◌∷◌, ◌++◌, length, get_or, take, drop, position, IfSome, Some, None, Ok, Err, Option, sym, refl, ap, ◌∙◌, subst, ⊎_elim, arith}
use Rattle.std.specs.List.{prefix_len, position_or_len}
use Rattle.std.proofs.lemmas.List.{take-append-drop, length-take}
use Rattle.std.proofs.lemmas.List.Sums.{prefix_len-le-length}
use Rattle.std.proofs.lemmas.Bool.{cond_both, cond-true, cond-false, or_left, or_right, and_parts, and_right, eqb-true, ltb-true, ne_eqb, both_ways, cases_lt}
use Rattle.std.proofs.lemmas.Bool.Decides.{nat_tests}
use Rattle.tokens.specs.Bytes.{is_blank, is_digit}
use Rattle.clike.specs.declared.lexeme.Lexeme.{Lexeme}
use Rattle.std.specs.Str.{bytes_eq}
use Rattle.clike.specs.Keywords.{keywords, keyword_number}
use Rattle.clike.specs.Lexemes.{Kind, blank, comment, open_comment, quoted, name, keyword, number, mark, Shape, shape, read, begins_with, closing, closes, before_close, block_comment, in_line, is_quote, quoted_on, begins_word, in_word, in_number, word_kind, word, Piece, first_shape, first_lexeme}
use Rattle.clike.specs.Cutting.{lexeme_bytes, lexeme_of, seen, Cuts}
use Rattle.clike.specs.declared.lexeme.Lexeme.TheVariants.{Nothing, Blank, Comment, OpenComment, Quoted, Name, Keyword, Number, Mark}
use Rattle.clike.specs.Scans.{comment_end}
use Rattle.clike.proofs.Fronts.{read_more, read_take, read_length, next_is, next_none}

-- ---- the rules

pub blank_rule : (b : ℕ) (after : List ℕ) → is_blank b ≡ true → first_shape b after ≡ shape blank 1
unfolding first_shape
blank_rule b after e = cond-true (is_blank b) _ _ e

pub block_rule : (body : List ℕ) → first_shape 47 (42 ∷ body) ≡ block_comment body
unfolding first_shape
block_rule body = refl

pub line_rule : (body : List ℕ) → first_shape 47 (47 ∷ body) ≡ shape comment (prefix_len in_line (47 ∷ (47 ∷ body)))
unfolding first_shape
line_rule body = refl

pub slash_rule : (after : List ℕ) → begins_with 42 after ≡ false → begins_with 47 after ≡ false → first_shape 47 after ≡ shape mark 1
unfolding first_shape
slash_rule after star slash = cond-false (begins_with 42 after) _ _ star ∙ cond-false (begins_with 47 after) _ _ slash

pub quote_rule : (b : ℕ) (after : List ℕ) → is_quote b ≡ true → first_shape b after ≡ shape quoted (1 + quoted_on b false after)
unfolding first_shape
quote_rule b after e =
    let not-blank : is_blank b ≡ false = grind (arith, nat_tests) in
    let not-slash : eqb b 47 ≡ false = grind (arith, nat_tests) in
    cond-false (is_blank b) _ _ not-blank ∙ cond-false (eqb b 47 && begins_with 42 after) _ _ (ap (λ t. t && begins_with 42 after) not-slash)
    ∙ cond-false (eqb b 47 && begins_with 47 after) _ _ (ap (λ t. t && begins_with 47 after) not-slash) ∙ cond-true (is_quote b) _ _ e

pub word_rule : (b : ℕ) (after : List ℕ) → begins_word b ≡ true → first_shape b after ≡ word (b ∷ after)
unfolding first_shape
word_rule b after e =
    let not-blank : is_blank b ≡ false = grind (arith, nat_tests) in
    let not-slash : eqb b 47 ≡ false = grind (arith, nat_tests) in
    let not-quote : is_quote b ≡ false = grind (arith, nat_tests) in
    cond-false (is_blank b) _ _ not-blank ∙ cond-false (eqb b 47 && begins_with 42 after) _ _ (ap (λ t. t && begins_with 42 after) not-slash)
    ∙ cond-false (eqb b 47 && begins_with 47 after) _ _ (ap (λ t. t && begins_with 47 after) not-slash) ∙ cond-false (is_quote b) _ _ not-quote ∙ cond-true (begins_word b) _ _ e

pub number_rule : (b : ℕ) (after : List ℕ) → is_digit b ≡ true → first_shape b after ≡ shape number (prefix_len in_number (b ∷ after))
unfolding first_shape
number_rule b after e =
    let not-blank : is_blank b ≡ false = grind (arith, nat_tests) in
    let not-slash : eqb b 47 ≡ false = grind (arith, nat_tests) in
    let not-quote : is_quote b ≡ false = grind (arith, nat_tests) in
    let not-word : begins_word b ≡ false = grind (arith, nat_tests) in
    cond-false (is_blank b) _ _ not-blank ∙ cond-false (eqb b 47 && begins_with 42 after) _ _ (ap (λ t. t && begins_with 42 after) not-slash)
    ∙ cond-false (eqb b 47 && begins_with 47 after) _ _ (ap (λ t. t && begins_with 47 after) not-slash) ∙ cond-false (is_quote b) _ _ not-quote
    ∙ cond-false (begins_word b) _ _ not-word ∙ cond-true (is_digit b) _ _ e

pub mark_rule : (b : ℕ) (after : List ℕ) → is_blank b ≡ false → eqb b 47 ≡ false → is_quote b ≡ false → begins_word b ≡ false → is_digit b ≡ false → first_shape b after ≡ shape mark 1
unfolding first_shape
mark_rule b after not-blank not-slash not-quote not-word not_digit =
    cond-false (is_blank b) _ _ not-blank ∙ cond-false (eqb b 47 && begins_with 42 after) _ _ (ap (λ t. t && begins_with 42 after) not-slash)
    ∙ cond-false (eqb b 47 && begins_with 47 after) _ _ (ap (λ t. t && begins_with 47 after) not-slash) ∙ cond-false (is_quote b) _ _ not-quote
    ∙ cond-false (begins_word b) _ _ not-word ∙ cond-false (is_digit b) _ _ not_digit

-- ---- sizes

before_close_le : (body : List ℕ) → closes body ≡ true → 2 + before_close body ≤ length body
before_close_le [] e = absurd (both_ways false refl e)
before_close_le (b ∷ []) e = absurd (both_ways (closing b [] || false) (ap (λ t. t || false) (and_right (eqb b 42) false refl)) e)
before_close_le (b ∷ (d ∷ ds)) e =
    let Goal : Bool → Type 0 = λ t. (t || closes (d ∷ ds)) ≡ true → 2 + cond t 0 (1 + before_close (d ∷ ds)) ≤ length (b ∷ (d ∷ ds)) in
    let later : Goal false = λ h. let more = before_close_le (d ∷ ds) h in omega arith in
    elim (closing b (d ∷ ds)) as Goal [ true ↦ (λ h. omega arith) | false ↦ later ] e

quoted_on_le : (q : ℕ) (taken : Bool) (xs : List ℕ) → quoted_on q taken xs ≤ length xs
quoted_on_le q true [] = omega arith
quoted_on_le q false [] = omega arith
quoted_on_le q true (b ∷ bs) = let more = quoted_on_le q false bs in omega arith
quoted_on_le q false (b ∷ bs) =
    let more = quoted_on_le q (eqb b 92) bs in
    let P : ℕ → Type 0 = λ n. n ≤ length (b ∷ bs) in
    cond_both (eqb b q) 1 (cond (eqb b 10) 0 (1 + quoted_on q (eqb b 92) bs)) P (λ _. omega arith)
    (λ _. cond_both (eqb b 10) 0 (1 + quoted_on q (eqb b 92) bs) P (λ _. omega arith) (λ _. omega arith))

abbrev pub Numbered : Kind → Type 0
Numbered (keyword n) = n < 32
Numbered blank = Unit {0}
Numbered comment = Unit {0}
Numbered open_comment = Unit {0}
Numbered quoted = Unit {0}
Numbered name = Unit {0}
Numbered number = Unit {0}
Numbered mark = Unit {0}

-- a lexeme has a byte at least, and no more than there are; a keyword's number is below 32
abbrev pub Fitting : ℕ → Shape → Type 0
Fitting n s = (1 ≤ s.size) × (s.size ≤ n) × Numbered s.kind

place_below : {X : Type 0} (p : X → Bool) (xs : List X) → IfSome (position p xs) (λ n. n < length xs)
place_below p xs =
    cond_both (ltb (position_or_len p xs) (length xs)) (Some (position_or_len p xs)) None (λ o. IfSome o (λ n. n < length xs)) (λ e. ltb-true (position_or_len p xs) (length xs) e) (λ _. tt)

word_numbered : (run : List ℕ) → Numbered (word_kind (keyword_number run))
unfolding keyword_number keywords
word_numbered run =
    let Goal : Option ℕ → Type 0 = λ o. IfSome o (λ n. n < 32) → Numbered (word_kind o) in
    let each : (o : Option ℕ) → Goal o = λ o. elim o as Goal [ None ↦ (λ _. tt) | Some n ↦ (λ h. h) ] in
    each (position (bytes_eq run) keywords) (place_below (bytes_eq run) keywords)

run_fits : (p : ℕ → Bool) (k : Kind) (b : ℕ) (after : List ℕ) → Numbered k → p b ≡ true → Fitting (length (b ∷ after)) (shape k (prefix_len p (b ∷ after)))
run_fits p k b after few e = let one : prefix_len p (b ∷ after) ≡ 1 + prefix_len p after = cond-true (p b) _ _ e in (omega arith, prefix_len-le-length p (b ∷ after), few)

block_fits : (after : List ℕ) → begins_with 42 after ≡ true → Fitting (1 + length after) (block_comment (drop 1 after))
unfolding block_comment
block_fits [] e = absurd (both_ways false refl e)
block_fits (c ∷ body) e =
    cond_both (closes body) (shape comment (4 + before_close body)) (shape open_comment (2 + length body)) (Fitting (1 + length (c ∷ body)))
    (λ h. let few = before_close_le body h in (omega arith, omega arith, tt)) (λ _. (omega arith, omega arith, tt))

pub shape_fits : (b : ℕ) (after : List ℕ) → Fitting (length (b ∷ after)) (first_shape b after)
unfolding first_shape
shape_fits b after =
    let P : Shape → Type 0 = Fitting (length (b ∷ after)) in
    cond_both (is_blank b) _ _ P (λ _. (omega arith, omega arith, tt))
    (λ _. cond_both (eqb b 47 && begins_with 42 after) _ _ P
    (λ e. let fits = block_fits after (and_parts (eqb b 47) (begins_with 42 after) e).1 in (fits.0, omega (arith, fits.1), fits.2))
    (λ _. cond_both (eqb b 47 && begins_with 47 after) _ _ P
    (λ e. let slash = eqb-true b 47 (and_parts (eqb b 47) (begins_with 47 after) e).0 in run_fits in_line comment b after tt (ap in_line slash))
    (λ _. cond_both (is_quote b) _ _ P (λ _. let few = quoted_on_le b false after in (omega arith, omega arith, tt))
    (λ _. cond_both (begins_word b) _ _ P (λ e. run_fits in_word (word (b ∷ after)).kind b after (word_numbered (take (prefix_len in_word (b ∷ after)) (b ∷ after))) (or_left (begins_word b) (is_digit b) e))
    (λ _. cond_both (is_digit b) _ _ P (λ e. run_fits in_number number b after tt (or_left (in_word b) (eqb b 46) (or_right (begins_word b) (is_digit b) e))) (λ _. (omega arith, omega arith, tt)))))))

-- ---- what `cut` answers where there is something to read

abbrev pub piece_bytes : Option Piece → List ℕ
piece_bytes None = []
piece_bytes (Some p) = p.bytes

pub seen_bytes : (l : Lexeme) → lexeme_bytes l ≡ piece_bytes (seen l)
seen_bytes Nothing = refl
seen_bytes (Blank run) = refl
seen_bytes (Comment run) = refl
seen_bytes (OpenComment run) = refl
seen_bytes (Quoted run) = refl
seen_bytes (Name run) = refl
seen_bytes (Keyword run n) = refl
seen_bytes (Number run) = refl
seen_bytes (Mark run) = refl

pub cuts : (bytes : List ℕ) (l : Lexeme) (rest : List ℕ) (k : Kind) (n : ℕ) → 0 < length bytes → (get_or bytes 0 0 ≡ 0 → ⊥)
    → first_shape (get_or bytes 0 0) (read (drop 1 bytes)) ≡ shape k n → seen l ≡ lexeme_of k (take n bytes) → rest ≡ drop n bytes
    → Cuts bytes l rest
cuts bytes l rest k n h ne e kind-is rest-is =
    let b = get_or bytes 0 0 in
    let after = read (drop 1 bytes) in
    let text : read bytes ≡ b ∷ after = read_more (λ xs. xs) bytes 0 h ne in
    let fits = subst (Fitting (length (b ∷ after))) e (shape_fits b after) in
    let room : n ≤ length (read bytes) = omega (arith, fits.1, ap length text) in
    let few = read_length bytes in
    let front : take n (b ∷ after) ≡ take n bytes = ap (take n) (sym text) ∙ read_take n bytes room in
    let bytes-are : lexeme_bytes l ≡ take n bytes = seen_bytes l ∙ ap piece_bytes kind-is in
    let same : first_lexeme (read bytes) ≡ lexeme_of k (take n bytes) =
    ap first_lexeme text ∙ ap (λ s. lexeme_of s.kind (take s.size (b ∷ after))) e ∙ ap (lexeme_of k) front in
    record {
      first = kind-is ∙ sym same;
      whole = ap (λ xs. xs ++ rest) bytes-are ∙ ap (λ xs. take n bytes ++ xs) rest-is ∙ take-append-drop n bytes;
      some = λ _. omega (arith, ap length bytes-are, length-take n bytes, fits.0, room, few);
    }

-- the bytes after the first, where what stands there is known
second_read : (bytes : List ℕ) (d : ℕ) → 0 < d → 2 ≤ length bytes → get_or bytes 1 0 ≡ d → read (drop 1 bytes) ≡ d ∷ read (drop 2 bytes)
second_read bytes d some h e = read_more (λ xs. xs) bytes 1 (omega arith) (λ z. omega arith) ∙ ap (λ x. x ∷ read (drop 2 bytes)) e

block_read : (bytes : List ℕ) → 2 ≤ length bytes → get_or bytes 0 0 ≡ 47 → get_or bytes 1 0 ≡ 42 → first_shape (get_or bytes 0 0) (read (drop 1 bytes)) ≡ block_comment (read (drop 2 bytes))
block_read bytes h slash star =
    ap (λ b. first_shape b (read (drop 1 bytes))) slash ∙ ap (first_shape 47) (second_read bytes 42 (omega arith) h star) ∙ block_rule (read (drop 2 bytes))

pub closed_read : (bytes : List ℕ) (n : ℕ) → 2 ≤ length bytes → get_or bytes 0 0 ≡ 47 → get_or bytes 1 0 ≡ 42 → Ok n ≡ comment_end (read (drop 2 bytes)) → first_shape (get_or bytes 0 0) (read (drop 1 bytes)) ≡ shape comment (2 + n)
unfolding block_comment
closed_read bytes n h slash star e =
    let body = read (drop 2 bytes) in
    let Goal : Bool → Type 0 = λ t. Ok n ≡ cond t (Ok (before_close body + 2)) (Err (length body)) → cond t (shape comment (4 + before_close body)) (shape open_comment (2 + length body)) ≡ shape comment (2 + n) in
    let yes' : Goal true = λ p. let same : n ≡ before_close body + 2 = cc in ap (shape comment) (omega arith) in
    let no' : Goal false = λ p. cc in
    block_read bytes h slash star ∙ elim (closes body) as Goal [ true ↦ yes' | false ↦ no' ] e

pub open_read : (bytes : List ℕ) (n : ℕ) → 2 ≤ length bytes → get_or bytes 0 0 ≡ 47 → get_or bytes 1 0 ≡ 42 → Err n ≡ comment_end (read (drop 2 bytes)) → first_shape (get_or bytes 0 0) (read (drop 1 bytes)) ≡ shape open_comment (2 + n)
unfolding block_comment
open_read bytes n h slash star e =
    let body = read (drop 2 bytes) in
    let Goal : Bool → Type 0 = λ t. Err n ≡ cond t (Ok (before_close body + 2)) (Err (length body)) → cond t (shape comment (4 + before_close body)) (shape open_comment (2 + length body)) ≡ shape open_comment (2 + n) in
    let yes' : Goal true = λ p. cc in
    let no' : Goal false = λ p. let same : n ≡ length body = cc in ap (shape open_comment) (omega arith) in
    block_read bytes h slash star ∙ elim (closes body) as Goal [ true ↦ yes' | false ↦ no' ] e

pub line_read : (bytes : List ℕ) (n : ℕ) → 2 ≤ length bytes → get_or bytes 0 0 ≡ 47 → get_or bytes 1 0 ≡ 47 → n ≡ prefix_len in_line (read bytes) → first_shape (get_or bytes 0 0) (read (drop 1 bytes)) ≡ shape comment n
line_read bytes n h slash again e =
    let second = second_read bytes 47 (omega arith) h again in
    let text : read bytes ≡ 47 ∷ (47 ∷ read (drop 2 bytes)) = read_more (λ xs. xs) bytes 0 (omega arith) (λ z. omega arith) ∙ ap (λ b. b ∷ read (drop 1 bytes)) slash ∙ ap (λ xs. 47 ∷ xs) second in
    ap (λ b. first_shape b (read (drop 1 bytes))) slash ∙ ap (first_shape 47) second ∙ line_rule (read (drop 2 bytes)) ∙ sym (ap (shape comment) (e ∙ ap (prefix_len in_line) text))

pub slash_read : (bytes : List ℕ) → get_or bytes 0 0 ≡ 47 → (1 < length bytes → get_or bytes 1 0 ≡ 42 → ⊥) → (1 < length bytes → get_or bytes 1 0 ≡ 47 → ⊥) → first_shape (get_or bytes 0 0) (read (drop 1 bytes)) ≡ shape mark 1
slash_read bytes slash no-star no_slash =
    let other : (c : ℕ) → 0 < c → (1 < length bytes → get_or bytes 1 0 ≡ c → ⊥) → begins_with c (read (drop 1 bytes)) ≡ false = λ c some none.
    ⊎_elim (λ h. next_is c bytes 1 some h ∙ ne_eqb (get_or bytes 1 0) c (none h)) (λ h. next_none c bytes 1 h) (cases_lt 1 (length bytes)) in
    ap (λ b. first_shape b (read (drop 1 bytes))) slash ∙ slash_rule (read (drop 1 bytes)) (other 42 (omega arith) no-star) (other 47 (omega arith) no_slash)

pub word_read : (bytes : List ℕ) (n : ℕ) → 0 < length bytes → begins_word (get_or bytes 0 0) ≡ true → n ≡ prefix_len in_word (read bytes)
    → first_shape (get_or bytes 0 0) (read (drop 1 bytes)) ≡ shape (word_kind (keyword_number (take n bytes))) n
word_read bytes n h e count =
    let b = get_or bytes 0 0 in
    let ne : b ≡ 0 → ⊥ = λ z. both_ways (begins_word b) (ap begins_word z) e in
    let text : read bytes ≡ b ∷ read (drop 1 bytes) = read_more (λ xs. xs) bytes 0 h ne in
    let few : n ≤ length (read bytes) = omega (arith, count, prefix_len-le-length in_word (read bytes)) in
    word_rule b (read (drop 1 bytes)) e ∙ ap word (sym text) ∙ ap (λ m. shape (word_kind (keyword_number (take m (read bytes)))) m) (sym count)
    ∙ ap (λ run. shape (word_kind (keyword_number run)) n) (read_take n bytes few)

pub number_read : (bytes : List ℕ) (n : ℕ) → 0 < length bytes → is_digit (get_or bytes 0 0) ≡ true → n ≡ prefix_len in_number (read bytes)
    → first_shape (get_or bytes 0 0) (read (drop 1 bytes)) ≡ shape number n
number_read bytes n h e count =
    let b = get_or bytes 0 0 in
    let ne : b ≡ 0 → ⊥ = λ z. both_ways (is_digit b) (ap is_digit z) e in
    let text : read bytes ≡ b ∷ read (drop 1 bytes) = read_more (λ xs. xs) bytes 0 h ne in
    number_rule b (read (drop 1 bytes)) e ∙ ap (λ xs. shape number (prefix_len in_number xs)) (sym text) ∙ ap (shape number) (sym count)
