-- Lists of which the tokens begin at a place or later.
use Rattle.std.proofs.Common.{◌≡◌, ℕ, ◌<◌, ◌≤◌, leb, List, [], ◌∷◌, sym, refl, ap, ◌∙◌, subst, arith}
use Rattle.std.proofs.lemmas.Bool.{cond_both, cond-true, cond-false, leb-true, le-leb, lt-leb}
use Rattle.tokens.specs.declared.token.Token.{Token}
use Rattle.layers.specs.Onwards.{onward}
use Rattle.tokens.specs.Tokens.{PlacedFrom}
use Rattle.tokens.proofs.Placing.{placed_kept}

-- of a list that is placed from p on, all
pub onward_all : (p a : ℕ) (ts : List Token) → p ≤ a → PlacedFrom a ts → onward p ts ≡ ts
onward_all p a [] h w = refl
onward_all p a (t ∷ ts) h w =
    let after = w.1 in
    let covers = w.0.covers in
    cond-true (leb p t.from) _ _ (le-leb p t.from (omega arith)) ∙ ap (λ xs. t ∷ xs) (onward_all p t.to ts (omega arith) w.2)

pub onward_kept : (p : ℕ) (t : Token) (ts : List Token) → p ≤ t.from → onward p (t ∷ ts) ≡ t ∷ onward p ts
onward_kept p t ts h = cond-true (leb p t.from) _ _ (le-leb p t.from h)

pub onward_passed : (p : ℕ) (t : Token) (ts : List Token) → t.from < p → onward p (t ∷ ts) ≡ onward p ts
onward_passed p t ts h = cond-false (leb p t.from) _ _ (lt-leb p t.from h)

pub onward_placed : (p a : ℕ) (ts : List Token) → PlacedFrom a ts → PlacedFrom p (onward p ts)
onward_placed p a [] w = tt
onward_placed p a (t ∷ ts) w =
    cond_both (leb p t.from) (t ∷ onward p ts) (onward p ts) (PlacedFrom p)
    (λ e. (w.0, leb-true p t.from e, placed_kept (λ x. leb p x.from) t.to ts w.2))
    (λ _. onward_placed p t.to ts w.2)

pub onward_zero : (ts : List Token) → onward 0 ts ≡ ts
onward_zero [] = refl
onward_zero (t ∷ ts) = cond-true (leb 0 t.from) _ _ (le-leb 0 t.from (omega arith)) ∙ ap (λ xs. t ∷ xs) (onward_zero ts)

-- the first token begins in time, and so do those after it
taken_front : (p a : ℕ) (t : Token) (xs : List Token) → PlacedFrom a (t ∷ xs) → p ≤ t.from → onward p (t ∷ xs) ≡ t ∷ onward t.to xs
taken_front p a t xs w h =
    let covers = w.0.covers in
    let long : p ≤ t.to = omega arith in
    onward_kept p t xs h ∙ ap (λ ys. t ∷ ys) (onward_all p t.to xs long w.2 ∙ sym (onward_all t.to t.to xs (omega arith) w.2))

pub onward_taken : (p : ℕ) (t : Token) (ts xs : List Token) → ts ≡ t ∷ xs → PlacedFrom 0 ts → p ≤ t.from → onward p ts ≡ t ∷ onward t.to xs
onward_taken p t ts xs e w h = ap (onward p) e ∙ taken_front p 0 t xs (subst (PlacedFrom 0) e w) h

pub onward_skipped : (p : ℕ) (t : Token) (ts xs : List Token) → ts ≡ t ∷ xs → t.from < p → onward p ts ≡ onward p xs
onward_skipped p t ts xs e h = ap (onward p) e ∙ onward_passed p t xs h
