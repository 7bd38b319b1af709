-- All lexemes of a text.
use Rattle.std.proofs.Common.{◌≡◌, ℕ, zero, suc, ◌≤◌, List, [], ◌∷◌, ◌++◌, length, take, drop, refl, ap, ◌∙◌, arith}
use Rattle.std.specs.List.{flat_map}
use Rattle.std.proofs.lemmas.List.{take-append-drop, length-drop}
use Rattle.clike.specs.Lexemes.{piece_of, first_shape, lexemes_in, lexemes}
use Rattle.clike.proofs.Shapes.{shape_fits}

-- steps beyond the number of bytes change nothing
pub enough : (n m : ℕ) (text : List ℕ) → length text ≤ n → length text ≤ m → lexemes_in n text ≡ lexemes_in m text
unfolding lexemes_in
enough zero zero text h g = refl
enough zero (suc m) [] h g = refl
enough (suc n) zero [] h g = refl
enough (suc n) (suc m) [] h g = refl
enough zero (suc m) (b ∷ after) h g = absurd (omega arith)
enough (suc n) zero (b ∷ after) h g = absurd (omega arith)
enough (suc n) (suc m) (b ∷ after) h g =
    let s = first_shape b after in
    let fits = shape_fits b after in
    let short = length-drop s.size (b ∷ after) in
    ap (λ ps. piece_of s (b ∷ after) ∷ ps) (enough n m (drop s.size (b ∷ after)) (omega (arith, fits.0)) (omega (arith, fits.0)))

pub lexemes_none : lexemes [] ≡ []
unfolding lexemes_in
lexemes_none = refl

pub lexemes_more : (b : ℕ) (after : List ℕ) → lexemes (b ∷ after) ≡ piece_of (first_shape b after) (b ∷ after) ∷ lexemes (drop (first_shape b after).size (b ∷ after))
unfolding lexemes_in
lexemes_more b after =
    let s = first_shape b after in
    let fits = shape_fits b after in
    let short = length-drop s.size (b ∷ after) in
    ap (λ ps. piece_of s (b ∷ after) ∷ ps) (enough (length after) (length (drop s.size (b ∷ after))) (drop s.size (b ∷ after)) (omega (arith, fits.0)) (omega arith))

-- put together again, the lexemes are the text
rejoined : (n : ℕ) (text : List ℕ) → length text ≤ n → flat_map (λ p. p.bytes) (lexemes text) ≡ text
rejoined n [] h = ap (flat_map (λ p. p.bytes)) lexemes_none
rejoined zero (b ∷ after) h = absurd (omega arith)
rejoined (suc n) (b ∷ after) h =
    let s = first_shape b after in
    let fits = shape_fits b after in
    let short = length-drop s.size (b ∷ after) in
    ap (flat_map (λ p. p.bytes)) (lexemes_more b after) ∙ ap (λ xs. take s.size (b ∷ after) ++ xs) (rejoined n (drop s.size (b ∷ after)) (omega (arith, fits.0))) ∙ take-append-drop s.size (b ∷ after)

pub lexemes_join : (text : List ℕ) → flat_map (λ p. p.bytes) (lexemes text) ≡ text
lexemes_join text = rejoined (length text) text (omega arith)
