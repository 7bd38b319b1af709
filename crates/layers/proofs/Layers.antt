-- What the layers make of a well placed list is well placed.
use Rattle.std.proofs.Common.{◌≡◌, ℕ, ◌+◌, ◌<◌, ◌≤◌, true, not, leb, ◌⊎◌, List, [], ◌∷◌, refl, ap, ◌∙◌, ⊎_elim, arith}
use Rattle.std.proofs.lemmas.Bool.{cond_both, cond-true, cond-false, and_parts, leb-true, ne_eqb, eq-eqb}
use Rattle.tokens.specs.declared.token.Class.{Class}
use Rattle.tokens.specs.declared.token.Class.TheVariants.{Unused, Blank, NameFirst, NameFurther, Keyword, NumberFirst, NumberFurther, Mark, Quoted, Comment, Made}
use Rattle.tokens.specs.declared.token.Token.{Token}
use Rattle.tokens.specs.Bytes.{between}
use Rattle.tokens.specs.Tokens.{class_number, PlacedFrom}
use Rattle.layers.specs.Layers.{small, lowered, has_class, without}

between_parts : (low high b : ℕ) → between low high b ≡ true → (low ≤ b) × (b ≤ high)
between_parts low high b e = let h = and_parts (leb low b) (leb b high) e in (leb-true low b h.0, leb-true b high h.1)

small_in_range : (code : ℕ) → 1 ≤ code → code ≤ 1023 → (1 ≤ small code) × (small code ≤ 1023)
small_in_range code low high =
    cond_both (between 65 90 code) (code + 32) code (λ x. (1 ≤ x) × (x ≤ 1023)) (λ e. let h = between_parts 65 90 code e in (omega arith, omega (arith, h.1))) (λ _. (low, high))

pub placed_lowered : (a : ℕ) (ts : List Token) → PlacedFrom a ts → PlacedFrom a (lowered ts)
placed_lowered a [] p = tt
placed_lowered a (t ∷ ts) p =
    let s = p.0 in
    let code = small_in_range t.code s.code_from s.code_to in
    (record { code_from = code.0; code_to = code.1; class_from = s.class_from; covers = s.covers; within = s.within }, p.1, placed_lowered t.to ts p.2)

-- ---- Drop

class_most : (c : Class) → class_number c ≤ 10
class_most Unused = omega arith
class_most Blank = omega arith
class_most NameFirst = omega arith
class_most NameFurther = omega arith
class_most Keyword = omega arith
class_most NumberFirst = omega arith
class_most NumberFurther = omega arith
class_most Mark = omega arith
class_most Quoted = omega arith
class_most Comment = omega arith
class_most Made = omega arith

pub without_other : (class : ℕ) (t : Token) (ts : List Token) → (class_number t.class ≡ class → ⊥) → without class (t ∷ ts) ≡ t ∷ without class ts
without_other class t ts ne = cond-true (not (has_class class t)) _ _ (ap not (ne_eqb (class_number t.class) class ne))

pub without_same : (class : ℕ) (t : Token) (ts : List Token) → class_number t.class ≡ class → without class (t ∷ ts) ≡ without class ts
without_same class t ts e = cond-false (not (has_class class t)) _ _ (ap not (eq-eqb (class_number t.class) class e))

pub without_idle : (class a : ℕ) (ts : List Token) → (class ≡ 0) ⊎ (10 < class) → PlacedFrom a ts → without class ts ≡ ts
without_idle class a [] out p = refl
without_idle class a (t ∷ ts) out p =
    let low = p.0.class_from in
    let high = class_most t.class in
    let ne : class_number t.class ≡ class → ⊥ = λ e. ⊎_elim (λ zero'. omega arith) (λ above. omega arith) out in
    without_other class t ts ne ∙ ap (λ xs. t ∷ xs) (without_idle class t.to ts out p.2)
