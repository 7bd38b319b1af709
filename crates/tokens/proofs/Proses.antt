-- The tokens of prose: the one at each place, and that they are well placed.
use Rattle.std.proofs.Common.{◌≡◌, ℕ, zero, suc, ◌+◌, ◌<◌, ◌≤◌, List, [], ◌∷◌, map, get_or, sym, ap, subst, ⊎_elim, arith}
use Rattle.std.specs.List.{range_with_len}
use Rattle.std.proofs.lemmas.Bool.{cond_both, cases_eq}
use Rattle.tokens.specs.declared.token.Class.{Class}
use Rattle.tokens.specs.Bytes.{is_blank, is_letter, is_digit}
use Rattle.tokens.specs.Texts.{readable}
use Rattle.tokens.specs.Tokens.{class_number, limit, PlacedFrom}
use Rattle.tokens.specs.Proses.{begins, prose_class, prose_token, prose_from}
use Rattle.tokens.proofs.Texts.{reads_within, reads_some}
use Rattle.tokens.proofs.Placing.{placed_weaker}

pub prose_more : (file : List ℕ) (i : ℕ) → readable file i ≡ suc (readable file (i + 1)) → prose_from file i ≡ prose_token file i ∷ prose_from file (i + 1)
prose_more file i e = ap (λ n. map (prose_token file) (range_with_len i n)) e

pub prose_none : (file : List ℕ) (i : ℕ) → readable file i ≡ 0 → prose_from file i ≡ []
prose_none file i e = ap (λ n. map (prose_token file) (range_with_len i n)) e

-- prose has no token of class 0
classed : (file : List ℕ) (i : ℕ) → 1 ≤ class_number (prose_class file i)
classed file i =
    let P : Class → Type 0 = λ c. 1 ≤ class_number c in
    let b = get_or file i 0 in
    cond_both (is_blank b) _ _ P (λ _. omega arith)
    (λ _. cond_both (is_letter b) _ _ P (λ _. cond_both (begins is_letter file i) _ _ P (λ _. omega arith) (λ _. omega arith))
    (λ _. cond_both (is_digit b) _ _ P (λ _. cond_both (begins is_digit file i) _ _ P (λ _. omega arith) (λ _. omega arith)) (λ _. omega arith)))

-- each of the n bytes from a on is a byte above 0, within the limit
placed_along : (file : List ℕ) (a n : ℕ) → ((d : ℕ) → d < n → (1 ≤ get_or file (a + d) 0) × (get_or file (a + d) 0 ≤ 255)) → a + n ≤ limit → PlacedFrom a (map (prose_token file) (range_with_len a n))
placed_along file a zero bytes h = tt
placed_along file a (suc n) bytes h =
    let here : a + 0 ≡ a = omega arith in
    let byte : (1 ≤ get_or file a 0) × (get_or file a 0 ≤ 255) = subst (λ k. (1 ≤ get_or file k 0) × (get_or file k 0 ≤ 255)) here (bytes 0 (omega arith)) in
    let later : (d : ℕ) → d < n → (1 ≤ get_or file ((a + 1) + d) 0) × (get_or file ((a + 1) + d) 0 ≤ 255) = λ d less.
    let there : a + (d + 1) ≡ (a + 1) + d = omega arith in
    subst (λ k. (1 ≤ get_or file k 0) × (get_or file k 0 ≤ 255)) there (bytes (d + 1) (omega arith)) in
    (record { code_from = byte.0; code_to = omega (arith, byte.1); class_from = classed file a; covers = omega arith; within = omega arith }, omega arith, placed_along file (a + 1) n later (omega arith))

pub prose_placed : (file : List ℕ) (i : ℕ) → ((k : ℕ) → get_or file k 0 ≤ 255) → PlacedFrom 0 (prose_from file i)
prose_placed file i bytes =
    ⊎_elim
    (λ none. subst (PlacedFrom 0) (sym (prose_none file i none)) tt)
    (λ ne.
    let within = reads_within file i (omega (arith, ne)) in
    let each : (d : ℕ) → d < readable file i → (1 ≤ get_or file (i + d) 0) × (get_or file (i + d) 0 ≤ 255) = λ d less. (omega (arith, reads_some file i d less), bytes (i + d)) in
    placed_weaker i 0 (prose_from file i) (omega arith) (placed_along file i (readable file i) each (omega (arith, within.0, within.1))))
    (cases_eq (readable file i) 0)
