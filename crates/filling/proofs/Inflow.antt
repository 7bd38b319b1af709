-- A source read into a list, token by token.
use Rattle.std.proofs.Common.{◌≡◌, ℕ, suc, true, false, ltb, List, [], ◌∷◌, ◌++◌, length, drop, Some, None, Ok, Err, Option, sym, refl, ap, ◌∙◌, arith}
use Rattle.std.proofs.lemmas.List.{map-id}
use Rattle.std.proofs.lemmas.Bool.{le-ltb, lt-ltb, true≢false}
use Rattle.tokens.specs.declared.token.Token.{Token}
use Rattle.tokens.specs.declared.token.Fault.{Fault}
use Rattle.tokens.specs.Tokens.{PlacedFrom}
use Rattle.prints.specs.Grams.{Coded}
use Rattle.runs.specs.Passages.{codes}
use Rattle.model.specs.declared.refusal.Reason.TheVariants.{TokensFull}
use Rattle.model.specs.Refusals.{plain, handed_on}
use Rattle.filling.specs.Filled.{Filled}
use Rattle.filling.proofs.Writes.{Underway, underway_long, underway_count, finished_count, finished}

-- the tokens of a source that is well placed are coded
pub placed_coded : (a : ℕ) (ts : List Token) → PlacedFrom a ts → Coded (codes ts)
placed_coded a [] p = tt
placed_coded a (t ∷ ts) p = ((p.0.code_from, p.0.code_to), placed_coded t.to ts p.2)

-- of the tokens `all` those before `left` stand in the first n entries
abbrev pub Reading : (before now all left : List Token) → ℕ → Type 0
Reading before now all left n = Underway (λ t. t) before now all left n

module _ {before now all left : List Token} {n : ℕ} (e : Option Fault) (h : Reading before now all left n) (coded : Coded (codes all)) where
  same_long : length now ≡ length before
  same_long = underway_long h

  -- there is no entry for a token
  pub overran : {t : Token} {more : List Token} → left ≡ t ∷ more → n ≡ length before → Filled before now all e (Err (plain TokensFull))
  overran {t} {more} f full =
      let a = underway_count h in
      let b : length left ≡ suc (length more) = ap length f in
      let over : ltb (length before) (length all) ≡ true = lt-ltb _ _ (omega arith) in
      record { answers = rw over refl; leaves = λ q. absurd (true≢false (sym q)); few = λ q. absurd (true≢false (sym q)); long = same_long; coded = coded }

  module _ (none : left ≡ []) where
    long : n ≡ length all
    long = finished_count h none

    enough : ltb (length before) (length all) ≡ false
    enough = let a = long in let b = h.fits in le-ltb _ _ (omega arith)

    pub faulted : {f : Fault} → e ≡ Some f → Filled before now all e (Err (handed_on f))
    faulted fault = record { answers = rw (enough, fault) refl; leaves = λ q. absurd (true≢false (sym q)); few = λ q. absurd (true≢false (sym q)); long = same_long; coded = coded }

    pub all_read : e ≡ None → Filled before now all e (Ok n)
    all_read clean =
        let a = long in
        let b = h.fits in
        record {
          answers = rw (enough, clean) (ap Ok long);
          leaves = λ q. finished h none ∙ ap (λ (ts : List Token). ts ++ drop (length all) before) (map-id all);
          few = λ q. omega arith;
          long = same_long;
          coded = coded;
        }
