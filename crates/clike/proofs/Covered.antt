-- Tokens that stand end to end cover each byte once.
use Rattle.std.proofs.Common.{◌≡◌, ℕ, ◌+◌, ◌<◌, ◌≤◌, false, cond, ltb, leb, ◌⊎◌, List, [], ◌∷◌, count_by, refl, ◌∙◌, inl, inr, ⊎_elim, arith}
use Rattle.std.proofs.lemmas.List.Sums.{sum_by-cons}
use Rattle.std.proofs.lemmas.Bool.{and_from, and_left, and_right, cases_lt, lt-ltb, le-ltb, le-leb, lt-leb, cond-true, cond-false}
use Rattle.tokens.specs.declared.token.Token.{Token}
use Rattle.clike.specs.Covering.{EndToEnd, covers, CoversOnce}

reaches : (at to : ℕ) (ts : List Token) → EndToEnd at ts to → at ≤ to
reaches at to [] e = omega arith
reaches at to (t ∷ ts) e =
    let from = e.0 in
    let some = e.1 in
    let more = reaches t.to to ts e.2 in
    omega arith

more : (p : ℕ) (t : Token) (ts : List Token) → count_by (covers p) (t ∷ ts) ≡ cond (covers p t) 1 0 + count_by (covers p) ts
more p t ts = sum_by-cons (λ x. cond (covers p x) 1 0) t ts

covers_not : (p : ℕ) (t : Token) → (p < t.from) ⊎ (t.to ≤ p) → covers p t ≡ false
covers_not p t h = ⊎_elim (λ low. and_left (leb t.from p) (ltb p t.to) (lt-leb t.from p low)) (λ high. and_right (leb t.from p) (ltb p t.to) (le-ltb p t.to high)) h

passed : (p at to : ℕ) (ts : List Token) → EndToEnd at ts to → (p < at) ⊎ (to ≤ p) → count_by (covers p) ts ≡ 0
passed p at to [] e h = refl
passed p at to (t ∷ ts) e h =
    let from = e.0 in
    let some = e.1 in
    let far = reaches t.to to ts e.2 in
    let here : (p < t.from) ⊎ (t.to ≤ p) = ⊎_elim (λ low. inl (omega arith)) (λ high. inr (omega arith)) h in
    let later : (p < t.to) ⊎ (to ≤ p) = ⊎_elim (λ low. inl (omega arith)) (λ high. inr high) h in
    let zero_more = passed p t.to to ts e.2 later in
    let none : ◌≡◌ {A = ℕ} (cond (covers p t) 1 0) 0 = cond-false (covers p t) 1 0 (covers_not p t here) in
    more p t ts ∙ omega (arith, none, zero_more)

met : (p at to : ℕ) (ts : List Token) → EndToEnd at ts to → at ≤ p → p < to → count_by (covers p) ts ≡ 1
met p at to [] e low high = absurd (omega arith)
met p at to (t ∷ ts) e low high =
    let from = e.0 in
    let some = e.1 in
    ⊎_elim
    (λ before. let one : ◌≡◌ {A = ℕ} (cond (covers p t) 1 0) 1 = cond-true (covers p t) 1 0 (and_from (leb t.from p) (ltb p t.to) (le-leb t.from p (omega arith)) (lt-ltb p t.to before)) in
    let rest = passed p t.to to ts e.2 (inl before) in more p t ts ∙ omega (arith, one, rest))
    (λ after. let none : ◌≡◌ {A = ℕ} (cond (covers p t) 1 0) 0 = cond-false (covers p t) 1 0 (covers_not p t (inr after)) in
    let rest = met p t.to to ts e.2 after high in more p t ts ∙ omega (arith, none, rest))
    (cases_lt p t.to)

pub covers_once : (size : ℕ) (ts : List Token) → EndToEnd 0 ts size → CoversOnce ts size
covers_once size ts e = record { within = λ p h. met p 0 size ts e (omega arith) h; beyond = λ p h. passed p 0 size ts e (inr h) }
