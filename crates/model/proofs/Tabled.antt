-- The table of held files, and what it makes of a token list.
use Rattle.std.proofs.Common.{◌≡◌, ℕ, zero, suc, ◌+◌, ◌<◌, ◌≤◌, true, false, eqb, List, [], ◌∷◌, ◌++◌, map, length, get_or, take, drop, sym, refl, ap, ◌∙◌, arith, take-add}
use Rattle.std.proofs.lemmas.List.{length-take, length-drop, drop-drop}
use Rattle.std.proofs.lemmas.List.Sums.{sum_by-cons, sum_by_more, sum_by-take-le}
use Rattle.std.proofs.lemmas.Bool.{eq-eqb, ne_eqb, or_from, or_left, or_right, cond_both}
use Rattle.tokens.specs.declared.token.Token.{Token}
use Rattle.model.specs.declared.table.Entry.{Entry}
use Rattle.model.specs.declared.table.Spot.{Spot}
use Rattle.model.specs.Files.{known, tokens_of, held_tokens}
use Rattle.model.specs.Tables.{extent, cut, no_entry, Absent, At}
use Rattle.model.specs.Calls.{numbers}

-- ---- how many tokens the files have together

pub extent_cons : (e : Entry) (es : List Entry) → extent (e ∷ es) ≡ e.len + extent es
extent_cons e es = sum_by-cons (λ x. x.len) e es

pub extent_more : (es : List Entry) (i : ℕ) → i < length es → extent (take (i + 1) es) ≡ extent (take i es) + (get_or es i no_entry).len
extent_more es i l = sum_by_more (λ e. e.len) es i no_entry l

pub extent_take : (es : List Entry) (i : ℕ) → extent (take i es) ≤ extent es
extent_take es i = sum_by-take-le (λ e. e.len) es i

pub extent_within : (es : List Entry) (i : ℕ) → i < length es → extent (take i es) + (get_or es i no_entry).len ≤ extent es
extent_within es i l = let m = extent_more es i l in let t = extent_take es (i + 1) in omega arith

-- ---- the files of a table

pub length_cut : (es : List Entry) (ts : List Token) → length (cut es ts) ≡ length es
length_cut [] ts = refl
length_cut (e ∷ es) ts = ap suc (length_cut es (drop e.len ts))

pub numbers_cut : (es : List Entry) (ts : List Token) → numbers (cut es ts) ≡ map (λ e. e.number) es
numbers_cut [] ts = refl
numbers_cut (e ∷ es) ts = ap (λ (ns : List ℕ). e.number ∷ ns) (numbers_cut es (drop e.len ts))

pub held_cut : (es : List Entry) (ts : List Token) → held_tokens (cut es ts) ≡ take (extent es) ts
held_cut [] ts = refl
held_cut (e ∷ es) ts = ap (λ (us : List Token). take e.len ts ++ us) (held_cut es (drop e.len ts)) ∙ sym (take-add e.len (extent es) ts) ∙ ap (λ (n : ℕ). take n ts) (sym (extent_cons e es))

-- no file has more tokens than there are
pub tokens_few : (n : ℕ) (es : List Entry) (ts : List Token) → length (tokens_of n (cut es ts)) ≤ length ts
tokens_few n [] ts = omega arith
tokens_few n (e ∷ es) ts =
    cond_both (eqb e.number n) (take e.len ts) (tokens_of n (cut es (drop e.len ts))) (λ (l : List Token). length l ≤ length ts)
    (λ _. let a = length-take e.len ts in omega arith)
    (λ _. let a = tokens_few n es (drop e.len ts) in let b = length-drop e.len ts in omega arith)

-- ---- where a file stands

pub known_absent : (n : ℕ) (es : List Entry) (ts : List Token) → Absent n es → known n (cut es ts) ≡ false
known_absent n [] ts h = refl
known_absent n (e ∷ es) ts h = or_from _ _ (ne_eqb _ _ (h 0 (omega arith))) (known_absent n es (drop e.len ts) (λ i l. h (suc i) (omega arith)))

-- a file of number n stands at place i
pub known_place : (n : ℕ) (es : List Entry) (ts : List Token) (i : ℕ) → i < length es → (get_or es i no_entry).number ≡ n → known n (cut es ts) ≡ true
known_place n [] ts i l e = absurd (omega arith)
known_place n (x ∷ es) ts zero l e = or_left _ _ (eq-eqb _ _ e)
known_place n (x ∷ es) ts (suc i) l e = or_right _ _ (known_place n es (drop x.len ts) i (omega arith) e)

-- the first file of number n stands at place i
pub tokens_place : (n : ℕ) (es : List Entry) (ts : List Token) (i : ℕ) → i < length es → (get_or es i no_entry).number ≡ n → ((j : ℕ) → j < i → (get_or es j no_entry).number ≡ n → ⊥) → tokens_of n (cut es ts) ≡ take (get_or es i no_entry).len (drop (extent (take i es)) ts)
tokens_place n [] ts i l e first = absurd (omega arith)
tokens_place n (x ∷ es) ts zero l e first = rw (eq-eqb x.number n e) refl
tokens_place n (x ∷ es) ts (suc i) l e first =
    rw (ne_eqb x.number n (first 0 (omega arith)), sum_by-cons, ← drop-drop)
    (tokens_place n es (drop x.len ts) i (omega arith) e (λ j m. first (suc j) (omega arith)))

module _ (n : ℕ) (es : List Entry) (ts : List Token) (p : Spot) (h : At n es p) where
  pub known_at : known n (cut es ts) ≡ true
  known_at = known_place n es ts p.slot h.within h.is

  pub tokens_at : tokens_of n (cut es ts) ≡ take p.len (drop p.start ts)
  tokens_at = rw (h.long, h.starts) (tokens_place n es ts p.slot h.within h.is h.first)

-- its tokens lie within those of all
pub spot_within : (n : ℕ) (es : List Entry) (p : Spot) → At n es p → p.start + p.len ≤ extent es
spot_within n es p h = let w = extent_within es p.slot h.within in omega (arith, w, h.long, h.starts)
