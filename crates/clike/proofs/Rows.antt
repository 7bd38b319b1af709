-- Cutting bytes to their end.
use Rattle.std.proofs.Common.{◌≡◌, ℕ, zero, suc, ◌<◌, ◌≤◌, Bool, true, false, cond, eqb, List, [], ◌∷◌, ◌++◌, map, length, take, drop, Some, None, sym, refl, ap, ◌∙◌, arith}
use Rattle.std.specs.List.{flat_map}
use Rattle.std.proofs.lemmas.List.{length-take-le, drop_at}
use Rattle.clike.specs.declared.lexeme.Lexeme.{Lexeme}
use Rattle.clike.specs.declared.lexeme.Lexeme.TheVariants.{Nothing, Blank, Comment, OpenComment, Quoted, Name, Keyword, Number, Mark}
use Rattle.clike.specs.Lexemes.{Piece, read, first_shape, first_lexeme, lexemes}
use Rattle.clike.specs.Cutting.{lexeme_bytes, seen, Cuts}
use Rattle.clike.proofs.Shapes.{piece_bytes, seen_bytes, shape_fits}
use Rattle.clike.proofs.Pieces.{lexemes_none, lexemes_more, lexemes_join}

-- reading on after what was cut
read_drop : (n : ℕ) (xs : List ℕ) → n ≤ length (read xs) → read (drop n xs) ≡ drop n (read xs)
read_drop zero xs h = refl
read_drop (suc n) [] h = refl
read_drop (suc n) (b ∷ bs) h =
    let Goal : Bool → Type 0 = λ t. suc n ≤ length (cond t [] (b ∷ read bs)) → read (drop n bs) ≡ drop (suc n) (cond t [] (b ∷ read bs)) in
    elim (eqb b 0) as Goal [ true ↦ (λ low. absurd (omega arith)) | false ↦ (λ low. read_drop n bs (omega arith)) ] h

-- what was cut off, where there was something to read
cut_off : (bytes text rest : List ℕ) (l : Lexeme) → read bytes ≡ text → seen l ≡ first_lexeme text → lexeme_bytes l ++ rest ≡ bytes → 0 < length text
    → map Some (lexemes (read bytes)) ≡ seen l ∷ map Some (lexemes (read rest))
cut_off bytes [] rest l t e whole h = absurd (omega arith)
cut_off bytes (b ∷ after) rest l t e whole h =
    let s = first_shape b after in
    let fits = shape_fits b after in
    let front : lexeme_bytes l ≡ take s.size (b ∷ after) = seen_bytes l ∙ ap piece_bytes e in
    let size : length (lexeme_bytes l) ≡ s.size = ap length front ∙ length-take-le s.size (b ∷ after) fits.1 in
    let behind : rest ≡ drop s.size bytes = sym (ap (drop s.size) (sym whole) ∙ drop_at (lexeme_bytes l) rest s.size size) in
    let room : s.size ≤ length (read bytes) = omega (arith, fits.1, ap length t) in
    let left : read rest ≡ drop s.size (b ∷ after) = ap read behind ∙ read_drop s.size bytes room ∙ ap (drop s.size) t in
    ap (λ xs. map Some (lexemes xs)) t ∙ ap (map Some) (lexemes_more b after) ∙ ap (λ x. x ∷ map Some (lexemes (drop s.size (b ∷ after)))) (sym e) ∙ ap (λ xs. seen l ∷ map Some (lexemes xs)) (sym left)

some_text : (text : List ℕ) (l : Lexeme) → seen l ≡ first_lexeme text → (l ≡ Nothing → ⊥) → 0 < length text
some_text (b ∷ after) l e ne = omega arith
some_text [] Nothing e ne = absurd (ne refl)
some_text [] (Blank run) e ne = cc
some_text [] (Comment run) e ne = cc
some_text [] (OpenComment run) e ne = cc
some_text [] (Quoted run) e ne = cc
some_text [] (Name run) e ne = cc
some_text [] (Keyword run n) e ne = cc
some_text [] (Number run) e ne = cc
some_text [] (Mark run) e ne = cc

pub cut_more : (bytes rest : List ℕ) (l : Lexeme) → Cuts bytes l rest → (l ≡ Nothing → ⊥) → (map Some (lexemes (read bytes)) ≡ seen l ∷ map Some (lexemes (read rest))) × (0 < length (lexeme_bytes l))
cut_more bytes rest l c ne =
    let some = some_text (read bytes) l c.first ne in
    (cut_off bytes (read bytes) rest l refl c.first c.whole some, c.some some)

no_text : (text : List ℕ) → None ≡ first_lexeme text → text ≡ []
no_text [] e = refl
no_text (b ∷ after) e = cc

pub cut_none : (bytes rest : List ℕ) (l : Lexeme) → Cuts bytes l rest → l ≡ Nothing → map Some (lexemes (read bytes)) ≡ []
cut_none bytes rest l c e =
    ap (λ xs. map Some (lexemes xs)) (no_text (read bytes) (sym (ap seen e) ∙ c.first)) ∙ ap (map Some) lexemes_none

-- ---- put together again

joined_seen : (ls : List Lexeme) → flat_map lexeme_bytes ls ≡ flat_map piece_bytes (map seen ls)
joined_seen [] = refl
joined_seen (l ∷ ls) = ap (λ xs. xs ++ flat_map lexeme_bytes ls) (seen_bytes l) ∙ ap (λ xs. piece_bytes (seen l) ++ xs) (joined_seen ls)

joined_some : (ps : List Piece) → flat_map piece_bytes (map Some ps) ≡ flat_map (λ p. p.bytes) ps
joined_some [] = refl
joined_some (p ∷ ps) = ap (λ xs. p.bytes ++ xs) (joined_some ps)

pub joined_whole : (ls : List Lexeme) (text : List ℕ) → map seen ls ≡ map Some (lexemes text) → flat_map lexeme_bytes ls ≡ text
joined_whole ls text e = joined_seen ls ∙ ap (flat_map piece_bytes) e ∙ joined_some (lexemes text) ∙ lexemes_join text
