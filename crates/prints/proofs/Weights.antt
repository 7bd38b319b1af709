-- The polynomial hash: one code more, and a gram that moves on by one. Assumes nothing.
use Rattle.std.proofs.Common.{◌≡◌, ℕ, suc, ◌+◌, ◌-◌, ◌*◌, ◌/◌, ◌%◌, ◌^◌, ◌<◌, ◌≤◌, cond, eqb, List, [], ◌∷◌, ◌++◌, length, sym, ap, ◌∙◌, mul_assoc, pow-suc, mul-add, mul_left_comm, add-one, arith}
use native.Mathlib.Nat.{div-add-mod, add-mul-mod_self_left}
use Rattle.std.proofs.lemmas.List.{length_push}
use Rattle.std.proofs.lemmas.Bool.Decides.{nat_tests}
use Rattle.prints.specs.Hashes.{prime, weighed, polynomial}

pub weighed_push : (cs : List ℕ) (c : ℕ) → weighed (cs ++ c ∷ []) ≡ weighed cs * 1000 + c
weighed_push [] c = omega arith
weighed_push (x ∷ cs) c =
    let n : length (cs ++ c ∷ []) ≡ suc (length cs) = length_push cs c ∙ add-one (length cs) in
    let e : x * 1000 ^ length (cs ++ c ∷ []) ≡ x * 1000 ^ length cs * 1000 = ap (λ m. x * 1000 ^ m) n ∙ ap (λ m. x * m) (pow-suc 1000 (length cs)) ∙ sym (mul_assoc x (1000 ^ length cs) 1000) in
    let rest = weighed_push cs c in
    omega arith

-- numbers that differ by a multiple leave the same remainder
same_rest : (a b x y : ℕ) → a + prime * x ≡ b + prime * y → a % prime ≡ b % prime
same_rest a b x y e = sym (add-mul-mod_self_left a prime x) ∙ ap (λ m. m % prime) e ∙ add-mul-mod_self_left b prime y

-- one code more
pub polynomial_push : (cs : List ℕ) (c : ℕ) → polynomial (cs ++ c ∷ []) ≡ (polynomial cs * 1000 + c) % prime
polynomial_push cs c = let e = weighed_push cs c in same_rest _ _ 0 (weighed cs / prime * 1000) (omega arith)

-- the factor of a leaving code
abbrev pub factor : ℕ → ℕ
factor k = prime - 1000 ^ k % prime

-- as the table has it, with 64 at 0
abbrev pub factor_at : ℕ → ℕ
factor_at i = factor (cond (eqb i 0) 64 i)

pub at_factor : (k : ℕ) → 1 ≤ k → k ≤ 64 → factor_at (k % 64) ≡ factor k
at_factor k lo hi = let e : cond (eqb (k % 64) 0) 64 (k % 64) ≡ k = grind (arith, nat_tests) in ap factor e

-- a code leaves in front, one joins behind
pub polynomial_roll : (out : ℕ) (mid : List ℕ) (next : ℕ) → (polynomial (out ∷ mid) * 1000 + next + out * factor (length (out ∷ mid))) % prime ≡ polynomial (mid ++ next ∷ [])
polynomial_roll out mid next =
    let k = length mid in
    let lead = 1000 ^ suc k in
    let lt : lead % prime < prime = omega arith in
    let split : out * lead ≡ out * (prime * (lead / prime)) + out * (lead % prime) = ap (λ m. out * m) (sym (div-add-mod lead prime)) ∙ mul-add out (prime * (lead / prime)) (lead % prime) in
    let moved : out * (prime * (lead / prime)) ≡ prime * (out * (lead / prime)) = mul_left_comm out prime (lead / prime) in
    let grown : out * lead ≡ out * 1000 ^ k * 1000 = ap (λ m. out * m) (pow-suc 1000 k) ∙ sym (mul_assoc out (1000 ^ k) 1000) in
    let whole : out * factor (suc k) + out * (lead % prime) ≡ out * prime = sym (mul-add out (factor (suc k)) (lead % prime)) ∙ ap (λ m. out * m) (omega arith) in
    let after = weighed_push mid next in
    same_rest _ _ ((out * 1000 ^ k + weighed mid) / prime * 1000) (out * (lead / prime) + out) (omega arith)
