-- Rotations of 32 bits, and the cyclic shift hash. Assumes nothing.
use Rattle.std.proofs.Common.{◌≡◌, ℕ, suc, ◌+◌, ◌-◌, ◌*◌, ◌/◌, ◌%◌, ◌^◌, ◌<◌, ◌≤◌, List, [], ◌∷◌, ◌++◌, length, sym, refl, ap, ◌∙◌, subst, ap₂, ⊎_elim, add-zero, mul_assoc, add-mul, pow-suc, add-one, arith, pow_pos, pow-add, shr-shr, shr_lt}
use native.Mathlib.Nat.{mul-mod_left}
use lib.Bits.{bit_or, bit_xor, or_self, or_shifted, xor_block, xor_mod, xor_shr, xor_lt, xor_zero_r, xor_zero_l, xor_assoc, xor_comm, xor_self}
use lib.Pow.{mod-pow-add, shl-shr}
use lib.Arith.{digits_lt}
use Rattle.std.proofs.lemmas.Nat.{mul-le}
use Rattle.std.proofs.lemmas.List.{length_push}
use Rattle.std.proofs.lemmas.Bool.{cases_lt, cases_eq}
use Rattle.prints.specs.Hashes.{spread, turned, rotated, cyclic}

-- one turn more: what stands above the low s bits goes up with the rest
turned_more : (r s x : ℕ) → r + s ≡ 31 → x < 2 ^ 32 → turned 1 (turned r x) ≡ x % 2 ^ s * (2 ^ r * 2) + x / 2 ^ s
turned_more r s x e h =
    let q = x / 2 ^ s in
    let m = x % 2 ^ s in
    let size : 32 - r ≡ 1 + s = omega arith in
    let size' : 32 - r ≡ s + 1 = omega arith in
    let low : x % 2 ^ (32 - r) ≡ q % 2 * 2 ^ s + m = ap (λ n. x % 2 ^ n) size ∙ mod-pow-add x 1 s in
    let top : x / 2 ^ (32 - r) ≡ q / 2 = ap (λ n. x / 2 ^ n) size' ∙ sym (shr-shr x s 1) in
    let back : s + r ≡ 31 = omega arith in
    let all : 2 ^ s * 2 ^ r ≡ 2 ^ 31 = sym (pow-add 2 s r) ∙ ap (λ n. 2 ^ n) back in
    let up : (q % 2 * 2 ^ s + m) * 2 ^ r ≡ q % 2 * 2 ^ 31 + m * 2 ^ r = add-mul (q % 2 * 2 ^ s) m (2 ^ r) ∙ ap (λ n. n + m * 2 ^ r) (mul_assoc (q % 2) (2 ^ s) (2 ^ r) ∙ ap (λ n. q % 2 * n) all) in
    let here : turned r x ≡ q % 2 * 2 ^ 31 + m * 2 ^ r + q / 2 = ap₂ (λ a b. a * 2 ^ r + b) low top ∙ ap (λ n. n + q / 2) up in
    let pos = pow_pos s in
    let small : m < 2 ^ s = omega arith in
    let grow = mul-le (m + 1) (2 ^ r) (2 ^ s) (2 ^ r) (omega arith) (omega arith) in
    let parts = add-mul m 1 (2 ^ r) in
    let room : m * 2 ^ r + 2 ^ r ≤ 2 ^ 31 = omega arith in
    let width : 32 ≡ r + 1 + s = omega arith in
    let fits : x < 2 ^ (r + 1 + s) = subst (λ n. x < 2 ^ n) width h in
    let twice : 2 ^ (r + 1) ≡ 2 ^ r * 2 = pow-add 2 r 1 in
    let few : q < 2 ^ r * 2 = subst (λ n. q < n) twice (shr_lt (r + 1) s fits) in
    let out : m * (2 ^ r * 2) ≡ m * 2 ^ r * 2 = sym (mul_assoc m (2 ^ r) 2) in
    ap (turned 1) here ∙ omega arith

-- one turn after n turns is n + 1 turns
pub rotated_more : (n x : ℕ) → x < 2 ^ 32 → rotated 1 (rotated n x) ≡ rotated (suc n) x
rotated_more n x h =
    ⊎_elim
    (λ lt.
    let e : suc n % 32 ≡ suc (n % 32) = omega arith in
    let f : 32 - suc (n % 32) ≡ 31 - n % 32 = omega arith in
    turned_more (n % 32) (31 - n % 32) x (omega arith) h
    ∙ ap₂ (λ a b. x % 2 ^ a * b + x / 2 ^ a) (sym f) (sym (pow-suc 2 (n % 32)))
    ∙ ap (λ r. turned r x) (sym e))
    (λ le.
    let e : suc n % 32 ≡ 0 = omega arith in
    let f : n % 32 ≡ 31 = omega arith in
    let whole : turned 1 (turned 31 x) ≡ turned 0 x = turned_more 31 0 x refl h ∙ omega arith in
    ap (λ r. turned 1 (turned r x)) f ∙ whole ∙ ap (λ r. turned r x) (sym e))
    (cases_lt (n % 32) 31)

-- what `rotate_left` answers
pub rotate_is : (r x : ℕ) → r < 32 → x < 2 ^ 32 → bit_or ((x * 2 ^ r) % 2 ^ 32) (x / 2 ^ ((32 - r) % 32)) ≡ turned r x
rotate_is r x lt h =
    ⊎_elim
    (λ e.
    let P : ℕ → Type 0 = λ r. bit_or ((x * 2 ^ r) % 2 ^ 32) (x / 2 ^ ((32 - r) % 32)) ≡ turned r x in
    let a : x * 1 % 2 ^ 32 ≡ x = omega arith in
    let b : x / 1 ≡ x = omega arith in
    let t : turned 0 x ≡ x = omega arith in
    subst P (sym e) (ap₂ bit_or a b ∙ or_self x ∙ sym t))
    (λ ne.
    let s : (32 - r) % 32 ≡ 32 - r = omega arith in
    let sum : 32 - r + r ≡ 32 = omega arith in
    let up : (x * 2 ^ r) % 2 ^ 32 ≡ x % 2 ^ (32 - r) * 2 ^ r = ap (λ n. (x * 2 ^ r) % 2 ^ n) (sym sum) ∙ mod-pow-add (x * 2 ^ r) (32 - r) r ∙ ap₂ (λ a b. a % 2 ^ (32 - r) * 2 ^ r + b) (shl-shr x r) (mul-mod_left x (2 ^ r)) ∙ add-zero _ in
    let width : 32 ≡ r + (32 - r) = omega arith in
    let fits : x < 2 ^ (r + (32 - r)) = subst (λ n. x < 2 ^ n) width h in
    ap₂ bit_or up (ap (λ n. x / 2 ^ n) s) ∙ or_shifted (x % 2 ^ (32 - r)) r (x / 2 ^ (32 - r)) (shr_lt r (32 - r) fits))
    (cases_eq r 0)

pub turned_lt : (r x : ℕ) → r < 32 → x < 2 ^ 32 → turned r x < 2 ^ 32
turned_lt r x lt h =
    let width : 32 ≡ r + (32 - r) = omega arith in
    let fits : x < 2 ^ (r + (32 - r)) = subst (λ n. x < 2 ^ n) width h in
    let pos = pow_pos (32 - r) in
    let low : x % 2 ^ (32 - r) < 2 ^ (32 - r) = omega arith in
    let back : 32 - r + r ≡ 32 = omega arith in
    let all : 2 ^ (32 - r) * 2 ^ r ≡ 2 ^ 32 = sym (pow-add 2 (32 - r) r) ∙ ap (λ n. 2 ^ n) back in
    subst (λ n. turned r x < n) all (digits_lt low (shr_lt r (32 - r) fits))

pub cyclic_lt : (cs : List ℕ) → cyclic cs < 2 ^ 32
cyclic_lt [] = omega arith
cyclic_lt (c ∷ cs) = xor_lt 32 (rotated (length cs) (spread c)) (cyclic cs) (turned_lt (length cs % 32) (spread c) (omega arith) (omega arith)) (cyclic_lt cs)

-- a turn goes into an exclusive or
pub turn_xor : (a b : ℕ) → a < 2 ^ 32 → b < 2 ^ 32 → rotated 1 (bit_xor a b) ≡ bit_xor (rotated 1 a) (rotated 1 b)
turn_xor a b g h =
    let x : a / 2 ^ 31 < 2 ^ 1 = omega arith in
    let y : b / 2 ^ 31 < 2 ^ 1 = omega arith in
    ap₂ (λ u v. u * 2 ^ 1 + v) (xor_mod a b 31) (xor_shr a b 31) ∙ sym (xor_block 1 (a % 2 ^ 31) (b % 2 ^ 31) (a / 2 ^ 31) (b / 2 ^ 31) x y)

-- the value's parts, turned once
turn_cyclic : (c : ℕ) (cs : List ℕ) → rotated 1 (cyclic (c ∷ cs)) ≡ bit_xor (rotated (suc (length cs)) (spread c)) (rotated 1 (cyclic cs))
turn_cyclic c cs =
    let small : spread c < 2 ^ 32 = omega arith in
    turn_xor (rotated (length cs) (spread c)) (cyclic cs) (turned_lt (length cs % 32) (spread c) (omega arith) small) (cyclic_lt cs)
    ∙ ap (λ u. bit_xor u (rotated 1 (cyclic cs))) (rotated_more (length cs) (spread c) small)

-- one code more
pub cyclic_push : (cs : List ℕ) (c : ℕ) → cyclic (cs ++ c ∷ []) ≡ bit_xor (rotated 1 (cyclic cs)) (spread c)
cyclic_push [] c =
    let small : spread c < 2 ^ 32 = omega arith in
    let same : rotated 0 (spread c) ≡ spread c = omega arith in
    xor_zero_r (rotated 0 (spread c)) ∙ same ∙ sym (xor_zero_l (spread c))
cyclic_push (x ∷ cs) c =
    let n : length (cs ++ c ∷ []) ≡ suc (length cs) = length_push cs c ∙ add-one (length cs) in
    ap₂ bit_xor (ap (λ m. rotated m (spread x)) n) (cyclic_push cs c)
    ∙ sym (xor_assoc (rotated (suc (length cs)) (spread x)) (rotated 1 (cyclic cs)) (spread c))
    ∙ ap (λ u. bit_xor u (spread c)) (sym (turn_cyclic x cs))

-- a code leaves in front, one joins behind
pub cyclic_roll : (out : ℕ) (mid : List ℕ) (next : ℕ) → bit_xor (bit_xor (rotated 1 (cyclic (out ∷ mid))) (rotated (length (out ∷ mid)) (spread out))) (spread next) ≡ cyclic (mid ++ next ∷ [])
cyclic_roll out mid next =
    let gone = rotated (suc (length mid)) (spread out) in
    let kept = rotated 1 (cyclic mid) in
    let undone : bit_xor (bit_xor gone kept) gone ≡ kept = ap (λ u. bit_xor u gone) (xor_comm gone kept) ∙ xor_assoc kept gone gone ∙ ap (bit_xor kept) (xor_self gone) ∙ xor_zero_r kept in
    ap (λ u. bit_xor (bit_xor u gone) (spread next)) (turn_cyclic out mid) ∙ ap (λ u. bit_xor u (spread next)) undone ∙ sym (cyclic_push mid next)
