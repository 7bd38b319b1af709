-- The tokens of a text are sound and stand end to end.
use Rattle.std.proofs.Common.{◌≡◌, ℕ, zero, suc, ◌+◌, ◌<◌, ◌≤◌, true, List, [], ◌∷◌, ◌++◌, length, take, drop, sym, refl, ap, ◌∙◌, subst, ⊎_elim, arith}
use Rattle.std.proofs.lemmas.List.{append-nil, length-take, length-take-le, length-drop, drop_all, drop-drop, take_all}
use Rattle.std.proofs.lemmas.Bool.{cases_lt}
use Rattle.tokens.specs.declared.token.Class.{Class}
use Rattle.tokens.specs.declared.token.Token.{Token}
use Rattle.tokens.specs.Tokens.{limit, class_number, Sound, PlacedFrom}
use Rattle.clike.proofs.Plain.{plain, plain_head, plain_drop, plain_take}
use Rattle.tokens.proofs.Placing.{placed_weaker}
use Rattle.clike.specs.Lexemes.{Kind, blank, comment, open_comment, quoted, name, keyword, number, mark, first_shape, lexemes}
use Rattle.clike.specs.Clikes.{byte_tokens, spelled, kind_tokens, tokens_of}
use Rattle.clike.specs.Covering.{EndToEnd}
use Rattle.clike.proofs.Shapes.{Numbered, shape_fits}
use Rattle.clike.proofs.Pieces.{lexemes_none, lexemes_more}

-- ---- sound tokens, end to end

abbrev pub Chain : ℕ → List Token → ℕ → Type 0
Chain at [] to = at ≡ to
Chain at (t ∷ ts) to = Sound t × (t.from ≡ at) × Chain t.to ts to

pub chain_append : (at mid to : ℕ) (xs ys : List Token) → Chain at xs mid → Chain mid ys to → Chain at (xs ++ ys) to
chain_append at mid to [] ys e c = subst (λ a. Chain a ys to) (sym e) c
chain_append at mid to (x ∷ xs) ys e c = (e.0, e.1, chain_append x.to mid to xs ys e.2 c)

pub chain_placed : (at mid : ℕ) (xs ys : List Token) → Chain at xs mid → PlacedFrom mid ys → PlacedFrom at (xs ++ ys)
chain_placed at mid [] ys e p = subst (λ a. PlacedFrom a ys) (sym e) p
chain_placed at mid (x ∷ xs) ys e p = let from = e.1 in (e.0, omega arith, chain_placed x.to mid xs ys e.2 p)

pub chain_end_to_end : (at to : ℕ) (ts : List Token) → Chain at ts to → EndToEnd at ts to
chain_end_to_end at to [] c = c
chain_end_to_end at to (t ∷ ts) c = (c.1, c.0.covers, chain_end_to_end t.to to ts c.2)

chain_bytes : (at to : ℕ) (c : Class) (bs : List ℕ) → 1 ≤ class_number c → plain bs ≡ true → at + length bs ≡ to → to ≤ limit → Chain at (byte_tokens at c bs) to
chain_bytes at to c [] k p e h = omega arith
chain_bytes at to c (b ∷ bs) k p e h =
    let byte = plain_head b bs p in
    (record { code_from = byte.0; code_to = omega (arith, byte.1); class_from = k; covers = omega arith; within = omega arith }, refl, chain_bytes (at + 1) to c bs k byte.2 (omega arith) h)

chain_spelled : (at to : ℕ) (first further : Class) (bs : List ℕ) → 1 ≤ class_number first → 1 ≤ class_number further → plain bs ≡ true → at + length bs ≡ to → to ≤ limit → Chain at (spelled at first further bs) to
chain_spelled at to first further [] j k p e h = omega arith
chain_spelled at to first further (b ∷ bs) j k p e h =
    let byte = plain_head b bs p in
    (record { code_from = byte.0; code_to = omega (arith, byte.1); class_from = j; covers = omega arith; within = omega arith }, refl, chain_bytes (at + 1) to further bs k byte.2 (omega arith) h)

chain_kind : (at to : ℕ) (k : Kind) (bs : List ℕ) → Numbered k → 0 < length bs → plain bs ≡ true → at + length bs ≡ to → to ≤ limit → Chain at (kind_tokens at k bs) to
chain_kind at to (keyword n) bs few some p e h = (record { code_from = omega arith; code_to = omega arith; class_from = omega arith; covers = omega arith; within = omega arith }, refl, e)
chain_kind at to blank bs few some p e h = chain_spelled at to _ _ bs (omega arith) (omega arith) p e h
chain_kind at to comment bs few some p e h = chain_spelled at to _ _ bs (omega arith) (omega arith) p e h
chain_kind at to open_comment bs few some p e h = chain_spelled at to _ _ bs (omega arith) (omega arith) p e h
chain_kind at to quoted bs few some p e h = chain_spelled at to _ _ bs (omega arith) (omega arith) p e h
chain_kind at to name bs few some p e h = chain_spelled at to _ _ bs (omega arith) (omega arith) p e h
chain_kind at to number bs few some p e h = chain_spelled at to _ _ bs (omega arith) (omega arith) p e h
chain_kind at to mark bs few some p e h = chain_spelled at to _ _ bs (omega arith) (omega arith) p e h

chain_in : (n at to : ℕ) (text : List ℕ) → length text ≤ n → plain text ≡ true → at + length text ≡ to → to ≤ limit → Chain at (tokens_of at (lexemes text)) to
chain_in n at to [] few p e h = subst (λ ps. Chain at (tokens_of at ps) to) (sym lexemes_none) (omega arith)
chain_in zero at to (b ∷ after) few p e h = absurd (omega arith)
chain_in (suc n) at to (b ∷ after) few p e h =
    let s = first_shape b after in
    let fits = shape_fits b after in
    let front = take s.size (b ∷ after) in
    let back = drop s.size (b ∷ after) in
    let long = length-take-le s.size (b ∷ after) fits.1 in
    let short = length-drop s.size (b ∷ after) in
    let head = chain_kind at (at + length front) s.kind front fits.2 (omega (arith, fits.0)) (plain_take s.size (b ∷ after) p) refl (omega (arith, fits.1)) in
    let tail = chain_in n (at + length front) to back (omega (arith, fits.0)) (plain_drop s.size (b ∷ after) p) (omega (arith, fits.1)) h in
    subst (λ ps. Chain at (tokens_of at ps) to) (sym (lexemes_more b after)) (chain_append at (at + length front) to (kind_tokens at s.kind front) (tokens_of (at + length front) (lexemes back)) head tail)

pub chain_text : (at : ℕ) (text : List ℕ) → plain text ≡ true → at + length text ≤ limit → Chain at (tokens_of at (lexemes text)) (at + length text)
chain_text at text p h = chain_in (length text) at (at + length text) text (omega arith) p refl h

-- ---- what is still to come of a source is well placed

pub placed_at : (text : List ℕ) (at left : ℕ) (c : Class) → 1 ≤ class_number c → plain (drop at text) ≡ true → length text ≤ limit
    → PlacedFrom 0 (byte_tokens at c (take left (drop at text)) ++ tokens_of (at + left) (lexemes (drop (at + left) text)))
placed_at text at left c k p h =
    let rest = tokens_of (at + left) (lexemes (drop (at + left) text)) in
    let front = take left (drop at text) in
    let short = length-drop at text in
    let long = length-take left (drop at text) in
    let later : plain (drop (at + left) text) ≡ true = ap plain (sym (drop-drop left at text)) ∙ plain_drop left (drop at text) p in
    let behind : PlacedFrom (at + left) rest = ⊎_elim
    (λ more. let size = length-drop (at + left) text in
    subst (PlacedFrom (at + left)) (append-nil rest) (chain_placed (at + left) (at + left + length (drop (at + left) text)) rest [] (chain_text (at + left) (drop (at + left) text) later (omega arith)) tt))
    (λ none. subst (PlacedFrom (at + left)) (sym (ap (tokens_of (at + left)) (ap lexemes (drop_all (at + left) text none) ∙ lexemes_none))) tt)
    (cases_lt (at + left) (length text)) in
    ⊎_elim
    (λ more. placed_weaker at 0 (byte_tokens at c front ++ rest) (omega arith)
    (chain_placed at (at + length front) (byte_tokens at c front) rest (chain_bytes at (at + length front) c front k (plain_take left (drop at text) p) refl (omega arith)) (placed_weaker (at + left) (at + length front) rest (omega arith) behind)))
    (λ none. let empty : front ≡ [] = ap (take left) (drop_all at text none) ∙ take_all left [] (omega arith) in
    subst (λ xs. PlacedFrom 0 (byte_tokens at c xs ++ rest)) (sym empty) (placed_weaker (at + left) 0 rest (omega arith) behind))
    (cases_lt at (length text))
