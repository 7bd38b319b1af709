-- What the answer of `next` tells of the list.
use Rattle.std.proofs.Common.{◌≡◌, ℕ, List, [], ◌∷◌, Some, None, Ok, Err, Option, refl, arith}
use Rattle.tokens.specs.declared.token.Token.{Token}
use Rattle.tokens.specs.declared.token.Fault.{Fault}
use Rattle.tokens.specs.Tokens.{first, rest}

pub first_some : (ts : List Token) (e : Option Fault) (t : Token) → Ok (Some t) ≡ first ts e → ts ≡ t ∷ rest ts
first_some [] None t h = let z : ◌≡◌ {A = ℕ} 0 1 = cc in absurd (omega arith)
first_some [] (Some f) t h = let z : ◌≡◌ {A = ℕ} 0 1 = cc in absurd (omega arith)
first_some (x ∷ xs) e t h = cc

pub first_none : (ts : List Token) (e : Option Fault) → Ok None ≡ first ts e → (ts ≡ []) × (e ≡ None)
first_none [] None h = (refl, refl)
first_none [] (Some f) h = let z : ◌≡◌ {A = ℕ} 0 1 = cc in absurd (omega arith)
first_none (x ∷ xs) e h = let z : ◌≡◌ {A = ℕ} 0 1 = cc in absurd (omega arith)

pub first_err : (ts : List Token) (e : Option Fault) (f : Fault) → Err f ≡ first ts e → (ts ≡ []) × (e ≡ Some f)
first_err [] None f h = let z : ◌≡◌ {A = ℕ} 0 1 = cc in absurd (omega arith)
first_err [] (Some x) f h = (refl, cc)
first_err (x ∷ xs) e f h = let z : ◌≡◌ {A = ℕ} 0 1 = cc in absurd (omega arith)
