-- The laws of the lexemes of a text.
use Rattle.std.proofs.Common.{◌≡◌, ℕ, zero, suc, ◌+◌, ◌<◌, ◌≤◌, Bool, true, false, cond, not, ◌&&◌, eqb, List, [], ◌∷◌, length, get_or, take, drop, Decides, sym, refl, ap, ◌∙◌, subst, zero-add, add-one, one-add, arith}
use Rattle.std.specs.List.{prefix_len, AllByRecursion}
use Rattle.std.proofs.lemmas.List.{length-take-le, length-drop, take_all}
use Rattle.std.proofs.lemmas.Bool.{cond-true, cond-false, and_from, and_parts, and_right, or_from, or_left, or_right, eq-eqb, ne_eqb, eqb-true, both_ways}
use Rattle.std.proofs.lemmas.Bool.Decides.{nat_tests}
use Rattle.tokens.specs.Texts.{nonzero}
use Rattle.clike.specs.Lexemes.{comment, open_comment, quoted, Shape, shape, read, begins_with, closing, closes, before_close, block_comment, is_quote, quoted_on, first_shape, first_lexeme, lexemes}
use Rattle.clike.specs.Cutting.{lexeme_of}
use Rattle.clike.specs.Laws.{ReadingStopsAtZero, CuttingLosesNothing, ClosedAt, CommentsEnd, taken, GoesOn, QuotesEnd}
use Rattle.clike.proofs.Fronts.{quote_none}
use Rattle.clike.proofs.Shapes.{shape_fits, block_rule, quote_rule}
use Rattle.clike.proofs.Pieces.{lexemes_none, lexemes_more, lexemes_join}

pub reading_stops_at_zero : ReadingStopsAtZero
reading_stops_at_zero [] = refl
reading_stops_at_zero (b ∷ bs) =
    let more = reading_stops_at_zero bs in
    let Goal : Bool → Type 0 = λ t. cond t [] (b ∷ read bs) ≡ take (cond (not t) (1 + prefix_len nonzero bs) 0) (b ∷ bs) in
    elim (eqb b 0) as Goal [ true ↦ refl | false ↦ ap (λ xs. b ∷ xs) more ∙ ap (λ n. take n (b ∷ bs)) (sym (one-add (prefix_len nonzero bs))) ]

all_some : (n : ℕ) (text : List ℕ) → length text ≤ n → AllByRecursion (λ p. 0 < length p.bytes) (lexemes text)
all_some n [] h = subst (AllByRecursion (λ p. 0 < length p.bytes)) (sym lexemes_none) tt
all_some zero (b ∷ after) h = absurd (omega arith)
all_some (suc n) (b ∷ after) h =
    let s = first_shape b after in
    let fits = shape_fits b after in
    let short = length-drop s.size (b ∷ after) in
    let long = length-take-le s.size (b ∷ after) fits.1 in
    subst (AllByRecursion (λ p. 0 < length p.bytes)) (sym (lexemes_more b after)) (omega (arith, fits.0), all_some n (drop s.size (b ∷ after)) (omega (arith, fits.0)))

pub cutting_loses_nothing : CuttingLosesNothing
cutting_loses_nothing text = record { whole = lexemes_join text; some = all_some (length text) text (omega arith) }

-- ---- comments

-- `*/` stands at place n of these bytes
abbrev Close : List ℕ → ℕ → Type 0
Close body n = (get_or body n 0 ≡ 42) × (get_or body (n + 1) 0 ≡ 47)

second : (c : ℕ) (bs : List ℕ) → 0 < c → Decides (begins_with c bs) (get_or bs 0 0 ≡ c)
second c [] some = (λ e. absurd (both_ways false refl e), λ e. absurd (omega arith))
second c (b ∷ bs) some = (λ e. eqb-true b c e, λ e. eq-eqb b c e)

closing_is : (b : ℕ) (bs : List ℕ) → Decides (closing b bs) (Close (b ∷ bs) 0)
closing_is b bs =
    let next = second 47 bs (omega arith) in (
      λ e. let parts = and_parts (eqb b 42) (begins_with 47 bs) e in (eqb-true b 42 parts.0, next.0 parts.1),
      λ e. and_from (eqb b 42) (begins_with 47 bs) (eq-eqb b 42 e.0) (next.1 e.1),
    )

close_later : (b : ℕ) (bs : List ℕ) (n : ℕ) → Close bs n → Close (b ∷ bs) (suc n)
close_later b bs n e = (e.0, subst (λ m. get_or (b ∷ bs) m 0 ≡ 47) (sym (add-one (suc n))) (subst (λ m. get_or bs m 0 ≡ 47) (add-one n) e.1))

close_before : (b : ℕ) (bs : List ℕ) (n : ℕ) → Close (b ∷ bs) (suc n) → Close bs n
close_before b bs n e = (e.0, subst (λ m. get_or bs m 0 ≡ 47) (sym (add-one n)) (subst (λ m. get_or (b ∷ bs) m 0 ≡ 47) (add-one (suc n)) e.1))

not_true' : (t : Bool) → (t ≡ true → ⊥) → t ≡ false
not_true' true h = absurd (h refl)
not_true' false h = refl

first_close : (body : List ℕ) (n : ℕ) → Close body n → ((m : ℕ) → m < n → Close body m → ⊥) → (closes body ≡ true) × (before_close body ≡ n)
first_close [] n e none = absurd (let star = e.0 in omega arith)
first_close (b ∷ bs) zero e none = let here = (closing_is b bs).1 e in (or_left (closing b bs) (closes bs) here, cond-true (closing b bs) _ _ here)
first_close (b ∷ bs) (suc n) e none =
    let not-here = not_true' (closing b bs) (λ h. none 0 (omega arith) ((closing_is b bs).0 h)) in
    let more = first_close bs n (close_before b bs n e) (λ m h f. none (suc m) (omega arith) (close_later b bs m f)) in
    (or_right (closing b bs) (closes bs) more.0, cond-false (closing b bs) _ _ not-here ∙ ap (λ m. 1 + m) more.1 ∙ one-add n)

no_close : (body : List ℕ) → ((n : ℕ) → Close body n → ⊥) → closes body ≡ false
no_close [] none = refl
no_close (b ∷ bs) none =
    or_from (closing b bs) (closes bs) (not_true' (closing b bs) (λ h. none 0 ((closing_is b bs).0 h))) (no_close bs (λ n e. none (suc n) (close_later b bs n e)))

closed_in : (body : List ℕ) (n : ℕ) → Close body n → ClosedAt (47 ∷ (42 ∷ body)) (suc (suc n))
closed_in body n e = record {
  later = omega arith;
  star = e.0;
  slash = (close_later 47 (42 ∷ body) (suc n) (close_later 42 body n e)).1;
}

closed_out : (body : List ℕ) (n : ℕ) → ClosedAt (47 ∷ (42 ∷ body)) (suc (suc n)) → Close body n
closed_out body n e = close_before 42 body n (close_before 47 (42 ∷ body) (suc n) (e.star, e.slash))

block_made : (body : List ℕ) (s : Shape) → block_comment body ≡ s → first_lexeme (47 ∷ (42 ∷ body)) ≡ lexeme_of s.kind (take s.size (47 ∷ (42 ∷ body)))
block_made body s e = ap (λ x. lexeme_of x.kind (take x.size (47 ∷ (42 ∷ body)))) (block_rule body ∙ e)

closed_law : (body : List ℕ) (n : ℕ) → ClosedAt (47 ∷ (42 ∷ body)) n → ((m : ℕ) → m < n → ClosedAt (47 ∷ (42 ∷ body)) m → ⊥) → first_lexeme (47 ∷ (42 ∷ body)) ≡ lexeme_of comment (take (n + 2) (47 ∷ (42 ∷ body)))
unfolding block_comment
closed_law body zero e none = absurd (let later = e.later in omega arith)
closed_law body (suc zero) e none = absurd (let later = e.later in omega arith)
closed_law body (suc (suc n)) e none =
    let found = first_close body n (closed_out body n e) (λ m h g. none (suc (suc m)) (omega arith) (closed_in body m g)) in
    let size : 4 + before_close body ≡ suc (suc n) + 2 = omega (arith, found.1) in
    block_made body (shape comment (4 + before_close body)) (cond-true (closes body) _ _ found.0) ∙ ap (λ m. lexeme_of comment (take m (47 ∷ (42 ∷ body)))) size

open_law : (body : List ℕ) → ((n : ℕ) → ClosedAt (47 ∷ (42 ∷ body)) n → ⊥) → first_lexeme (47 ∷ (42 ∷ body)) ≡ lexeme_of open_comment (47 ∷ (42 ∷ body))
unfolding block_comment
open_law body none =
    let never = no_close body (λ n e. none (suc (suc n)) (closed_in body n e)) in
    block_made body (shape open_comment (2 + length body)) (cond-false (closes body) _ _ never) ∙ ap (lexeme_of open_comment) (take_all (2 + length body) (47 ∷ (42 ∷ body)) (omega arith))

pub comments_end : CommentsEnd
comments_end body = record { closed = closed_law body; unclosed = open_law body }

-- ---- quotes

-- the same from a place on at which it is known whether the byte is taken
taken_from : Bool → List ℕ → ℕ → Bool
taken_from t text zero = t
taken_from t text (suc i) = eqb (get_or text i 0) 92 && not (taken_from t text i)

taken_is : (text : List ℕ) (i : ℕ) → taken text i ≡ taken_from false text i
unfolding taken_from
taken_is text zero = refl
taken_is text (suc i) = ap (λ t. eqb (get_or text i 0) 92 && not t) (taken_is text i)

shift : (t : Bool) (b : ℕ) (bs : List ℕ) (i : ℕ) → taken_from t (b ∷ bs) (suc i) ≡ taken_from (eqb b 92 && not t) bs i
unfolding taken_from
shift t b bs zero = refl
shift t b bs (suc i) = ap (λ u. eqb (get_or bs i 0) 92 && not u) (shift t b bs i)

taken_here : (t : Bool) (text : List ℕ) → taken_from t text 0 ≡ t
unfolding taken_from
taken_here t text = refl

and_true : (t : Bool) → (t && true) ≡ t
and_true true = refl
and_true false = refl

-- nothing ends the lexeme at place i
abbrev On : ℕ → Bool → List ℕ → ℕ → Type 0
On q t xs i = taken_from t xs i ≡ false → (get_or xs i 0 ≡ q → ⊥) × (get_or xs i 0 ≡ 10 → ⊥)

on_step : (q : ℕ) (t : Bool) (b : ℕ) (bs : List ℕ) → On q t (b ∷ bs) 0 → quoted_on q t (b ∷ bs) ≡ 1 + quoted_on q (eqb b 92 && not t) bs
on_step q true b bs h = ap (λ x. 1 + quoted_on q x bs) (sym (and_right (eqb b 92) false refl))
on_step q false b bs h =
    let none = h (taken_here false (b ∷ bs)) in
    cond-false (eqb b q) _ _ (ne_eqb b q none.0) ∙ cond-false (eqb b 10) _ _ (ne_eqb b 10 none.1) ∙ ap (λ x. 1 + quoted_on q x bs) (sym (and_true (eqb b 92)))

on_tail : (q : ℕ) (t : Bool) (b : ℕ) (bs : List ℕ) (i : ℕ) → On q t (b ∷ bs) (suc i) → On q (eqb b 92 && not t) bs i
on_tail q t b bs i h e = h (shift t b bs i ∙ e)

on_all : (q : ℕ) (t : Bool) (xs : List ℕ) → ((m : ℕ) → m < length xs → On q t xs m) → quoted_on q t xs ≡ length xs
on_all q t [] h = quote_none q t
on_all q t (b ∷ bs) h =
    on_step q t b bs (h 0 (omega arith)) ∙ ap (λ n. 1 + n) (on_all q (eqb b 92 && not t) bs (λ m l. on_tail q t b bs m (h (suc m) (omega arith)))) ∙ one-add (length bs)

on_until : (q : ℕ) (t : Bool) (xs : List ℕ) (n k : ℕ) → n < length xs → ((m : ℕ) → m < n → On q t xs m) → taken_from t xs n ≡ false
    → ((bs : List ℕ) → quoted_on q false (get_or xs n 0 ∷ bs) ≡ k) → quoted_on q t xs ≡ n + k
on_until q t [] n k l h e last = absurd (omega arith)
on_until q t (b ∷ bs) zero k l h e last = ap (λ x. quoted_on q x (b ∷ bs)) (sym (taken_here t (b ∷ bs)) ∙ e) ∙ last bs ∙ sym (zero-add k)
on_until q t (b ∷ bs) (suc n) k l h e last =
    let more = on_until q (eqb b 92 && not t) bs n k (omega arith) (λ m g. on_tail q t b bs m (h (suc m) (omega arith))) (sym (shift t b bs n) ∙ e) last in
    on_step q t b bs (h 0 (omega arith)) ∙ ap (λ x. 1 + x) more ∙ omega arith

module _ (q : ℕ) (body : List ℕ) (quote : is_quote q ≡ true) where
  behind : (i : ℕ) → taken (q ∷ body) (suc i) ≡ taken_from false body i
  behind i =
      let not-slash : eqb q 92 ≡ false = grind (arith, nat_tests) in
      taken_is (q ∷ body) (suc i) ∙ shift false q body i ∙ ap (λ t. taken_from (t && true) body i) not-slash

  made : (n : ℕ) → quoted_on q false body ≡ n → first_lexeme (q ∷ body) ≡ lexeme_of quoted (take (1 + n) (q ∷ body))
  made n e = ap (λ x. lexeme_of x.kind (take x.size (q ∷ body))) (quote_rule q body quote ∙ ap (λ m. shape quoted (1 + m)) e)

  on_body : (m : ℕ) → GoesOn q (q ∷ body) (suc m) → On q false body m
  on_body m h e = h (behind m ∙ e)

  quote_closes : (n : ℕ) → 1 ≤ n → n < length (q ∷ body) → ((m : ℕ) → 1 ≤ m → m < n → GoesOn q (q ∷ body) m) → taken (q ∷ body) n ≡ false → get_or (q ∷ body) n 0 ≡ q → first_lexeme (q ∷ body) ≡ lexeme_of quoted (take (n + 1) (q ∷ body))
  quote_closes zero low high h e is = absurd (omega arith)
  quote_closes (suc n) low high h e is =
      let count = on_until q false body n 1 (omega arith) (λ m g. on_body m (h (suc m) (omega arith) (omega arith))) (sym (behind n) ∙ e) (λ bs. cond-true (eqb (get_or body n 0) q) _ _ (eq-eqb (get_or body n 0) q is)) in
      let size : 1 + (n + 1) ≡ suc n + 1 = omega arith in
      made (n + 1) count ∙ ap (λ m. lexeme_of quoted (take m (q ∷ body))) size

  quote_line : (n : ℕ) → 1 ≤ n → n < length (q ∷ body) → ((m : ℕ) → 1 ≤ m → m < n → GoesOn q (q ∷ body) m) → taken (q ∷ body) n ≡ false → get_or (q ∷ body) n 0 ≡ 10 → first_lexeme (q ∷ body) ≡ lexeme_of quoted (take n (q ∷ body))
  quote_line zero low high h e is = absurd (omega arith)
  quote_line (suc n) low high h e is =
      let not_line : eqb 10 q ≡ false = grind (arith, nat_tests) in
      let last : (bs : List ℕ) → quoted_on q false (get_or body n 0 ∷ bs) ≡ 0 = λ bs.
      ap (λ b. quoted_on q false (b ∷ bs)) is ∙ cond-false (eqb 10 q) _ _ not_line in
      let count = on_until q false body n 0 (omega arith) (λ m g. on_body m (h (suc m) (omega arith) (omega arith))) (sym (behind n) ∙ e) last in
      let size : 1 + (n + 0) ≡ suc n = omega arith in
      made (n + 0) count ∙ ap (λ m. lexeme_of quoted (take m (q ∷ body))) size

  quote_all : ((m : ℕ) → 1 ≤ m → m < length (q ∷ body) → GoesOn q (q ∷ body) m) → first_lexeme (q ∷ body) ≡ lexeme_of quoted (q ∷ body)
  quote_all h =
      made (length body) (on_all q false body (λ m l. on_body m (h (suc m) (omega arith) (omega arith)))) ∙ ap (lexeme_of quoted) (take_all (1 + length body) (q ∷ body) (omega arith))

pub quotes_end : QuotesEnd
quotes_end q body e = record { closed = quote_closes q body e; line = quote_line q body e; end = quote_all q body e }
