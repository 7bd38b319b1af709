-- Lists of tokens that are well placed.
use Rattle.std.proofs.Common.{◌≡◌, ℕ, ◌≤◌, Bool, true, ◌&&◌, ltb, leb, List, [], ◌∷◌, ◌++◌, filter, Some, None, Option, refl, arith}
use Rattle.std.specs.Option.{option_to_list}
use Rattle.std.proofs.lemmas.Bool.{cond_both, and_parts, and_from, leb-true, le-leb, ltb-true, lt-ltb}
use Rattle.tokens.specs.declared.token.Token.{Token}
use Rattle.tokens.specs.Tokens.{limit, class_number, Sound, sound, PlacedFrom, placed_from, rest}

pub placed_weaker : (a b : ℕ) (ts : List Token) → b ≤ a → PlacedFrom a ts → PlacedFrom b ts
placed_weaker a b [] h p = tt
placed_weaker a b (t ∷ ts) h p = let after = p.1 in (p.0, omega arith, p.2)

-- the first may go
pub placed_tail : (a : ℕ) (t : Token) (ts : List Token) → PlacedFrom a (t ∷ ts) → PlacedFrom a ts
placed_tail a t ts p =
    let after = p.1 in
    let covers = p.0.covers in
    placed_weaker t.to a ts (omega arith) p.2

pub placed_kept : (test : Token → Bool) (a : ℕ) (ts : List Token) → PlacedFrom a ts → PlacedFrom a (filter test ts)
placed_kept test a [] p = p
placed_kept test a (t ∷ ts) p =
    cond_both (test t) (t ∷ filter test ts) (filter test ts) (PlacedFrom a)
    (λ _. (p.0, p.1, placed_kept test t.to ts p.2))
    (λ _. placed_kept test a ts (placed_tail a t ts p))

pub placed_rest : (a : ℕ) (ts : List Token) → PlacedFrom a ts → PlacedFrom a (rest ts)
placed_rest a [] p = p
placed_rest a (t ∷ ts) p = placed_tail a t ts p

-- ---- the tests

pub sound_from : (t : Token) → Sound t → sound t ≡ true
sound_from t s =
    and_from _ _ (and_from _ _ (le-leb 1 t.code s.code_from) (le-leb t.code 1023 s.code_to))
    (and_from _ _ (le-leb 1 (class_number t.class) s.class_from)
    (and_from _ _ (lt-ltb t.from t.to s.covers) (le-leb t.to limit s.within)))

pub sound_means : (t : Token) → sound t ≡ true → Sound t
sound_means t e =
    let a = and_parts (leb 1 t.code && leb t.code 1023) _ e in
    let b = and_parts (leb 1 t.code) _ a.0 in
    let c = and_parts (leb 1 (class_number t.class)) _ a.1 in
    let d = and_parts (ltb t.from t.to) _ c.1 in
    record {
      code_from = leb-true 1 t.code b.0;
      code_to = leb-true t.code 1023 b.1;
      class_from = leb-true 1 (class_number t.class) c.0;
      covers = ltb-true t.from t.to d.0;
      within = leb-true t.to limit d.1;
    }

pub placed_tested : (a : ℕ) (ts : List Token) → PlacedFrom a ts → placed_from a ts ≡ true
placed_tested a [] p = refl
placed_tested a (t ∷ ts) p =
    and_from (sound t) _ (sound_from t p.0) (and_from (leb a t.from) _ (le-leb a t.from p.1) (placed_tested t.to ts p.2))

pub placed_means : (a : ℕ) (ts : List Token) → placed_from a ts ≡ true → PlacedFrom a ts
placed_means a [] e = tt
placed_means a (t ∷ ts) e =
    let f = and_parts (sound t) _ e in
    let h = and_parts (leb a t.from) _ f.1 in
    (sound_means t f.0, leb-true a t.from h.0, placed_means t.to ts h.1)

-- what an iterator over the list leaves of it
pub placed_left : (taken : Option Token) (ts : List Token) → placed_from 0 (option_to_list taken ++ ts) ≡ true → placed_from 0 ts ≡ true
placed_left None ts e = e
placed_left (Some t) ts e = placed_tested 0 ts (placed_tail 0 t ts (placed_means 0 (t ∷ ts) e))
