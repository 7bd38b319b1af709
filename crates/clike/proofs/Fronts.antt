-- What is read of bytes, from a place on.
use Rattle.std.proofs.Common.{◌≡◌, ℕ, zero, suc, ◌+◌, ◌<◌, ◌≤◌, Bool, true, false, cond, not, ◌&&◌, ◌||◌, eqb, List, [], ◌∷◌, length, get_or, take, drop, sym, refl, ap, ◌∙◌, ⊎_elim, one-add, arith}
use Rattle.std.proofs.lemmas.List.{at_drop_more, at_drop_all}
use Rattle.std.specs.List.{prefix_len}
use Rattle.std.proofs.lemmas.Bool.{cond_both, cond-true, cond-false, eq-eqb, ne_eqb, cases_eq}
use Rattle.tokens.specs.Texts.{nonzero}
use Rattle.clike.specs.Lexemes.{read, begins_with, closing, closes, before_close, quoted_on}

module _ {X : Type 0} (F : List ℕ → X) (xs : List ℕ) (i : ℕ) where
  pub read_more : i < length xs → (get_or xs i 0 ≡ 0 → ⊥) → F (read (drop i xs)) ≡ F (get_or xs i 0 ∷ read (drop (i + 1) xs))
  read_more h ne = at_drop_more (λ ys. F (read ys)) xs i 0 h ∙ ap F (cond-false (eqb (get_or xs i 0) 0) _ _ (ne_eqb (get_or xs i 0) 0 ne))

  pub read_stops : i < length xs → get_or xs i 0 ≡ 0 → F (read (drop i xs)) ≡ F []
  read_stops h e = at_drop_more (λ ys. F (read ys)) xs i 0 h ∙ ap F (cond-true (eqb (get_or xs i 0) 0) _ _ (eq-eqb (get_or xs i 0) 0 e))

  pub read_ends : length xs ≤ i → F (read (drop i xs)) ≡ F []
  read_ends h = at_drop_all (λ ys. F (read ys)) xs i h

-- ---- runs

-- the run at the front of what is read ends at a zero byte too
pub read_run : (p : ℕ → Bool) (xs : List ℕ) → prefix_len (λ b. nonzero b && p b) xs ≡ prefix_len p (read xs)
read_run p [] = refl
read_run p (b ∷ bs) =
    elim (eqb b 0) as (λ t. cond (not t && p b) (1 + prefix_len (λ c. nonzero c && p c) bs) 0 ≡ prefix_len p (cond t [] (b ∷ read bs))) [ true ↦ refl | false ↦ ap (λ n. cond (p b) (1 + n) 0) (read_run p bs) ]

-- ---- the byte at a place

pub next_is : (c : ℕ) (xs : List ℕ) (i : ℕ) → 0 < c → i < length xs → begins_with c (read (drop i xs)) ≡ eqb (get_or xs i 0) c
next_is c xs i some h =
    ⊎_elim (λ z. read_stops (begins_with c) xs i h z ∙ sym (ne_eqb (get_or xs i 0) c (λ e. omega arith)))
    (λ ne. read_more (begins_with c) xs i h ne) (cases_eq (get_or xs i 0) 0)

pub next_none : (c : ℕ) (xs : List ℕ) (i : ℕ) → length xs ≤ i → begins_with c (read (drop i xs)) ≡ false
next_none c xs i h = read_ends (begins_with c) xs i h

-- ---- comments

module _ (xs : List ℕ) (i : ℕ) (h : i < length xs) (ne : get_or xs i 0 ≡ 0 → ⊥) where
  pub closes_later : closing (get_or xs i 0) (read (drop (i + 1) xs)) ≡ false → (closes (read (drop i xs)) ≡ closes (read (drop (i + 1) xs))) × (before_close (read (drop i xs)) ≡ 1 + before_close (read (drop (i + 1) xs)))
  closes_later e = (
    read_more closes xs i h ne ∙ ap (λ t. t || closes (read (drop (i + 1) xs))) e,
    read_more before_close xs i h ne ∙ cond-false (closing (get_or xs i 0) (read (drop (i + 1) xs))) _ _ e,
  )

  pub length_later : length (read (drop i xs)) ≡ 1 + length (read (drop (i + 1) xs))
  length_later = read_more length xs i h ne ∙ sym (one-add (length (read (drop (i + 1) xs))))

-- ---- quotes

pub quote_none : (q : ℕ) (taken : Bool) → quoted_on q taken [] ≡ 0
quote_none q true = refl
quote_none q false = refl

-- ---- what is read is the front of the bytes

pub read_take : (n : ℕ) (xs : List ℕ) → n ≤ length (read xs) → take n (read xs) ≡ take n xs
read_take zero xs h = refl
read_take (suc n) [] h = refl
read_take (suc n) (b ∷ bs) h =
    let Goal : Bool → Type 0 = λ t. suc n ≤ length (cond t [] (b ∷ read bs)) → take (suc n) (cond t [] (b ∷ read bs)) ≡ b ∷ take n bs in
    elim (eqb b 0) as Goal [ true ↦ (λ low. absurd (omega arith)) | false ↦ (λ low. ap (λ ys. b ∷ ys) (read_take n bs (omega arith))) ] h

pub read_length : (xs : List ℕ) → length (read xs) ≤ length xs
read_length [] = omega arith
read_length (b ∷ bs) =
    let more = read_length bs in
    cond_both (eqb b 0) [] (b ∷ read bs) (λ ys. length ys ≤ length (b ∷ bs)) (λ _. omega arith) (λ _. omega arith)
