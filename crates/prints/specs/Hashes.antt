-- The values of the hashes. Assumes nothing.
use Rattle.std.specs.Prelude.{ℕ, ◌+◌, ◌-◌, ◌*◌, ◌/◌, ◌%◌, ◌^◌, List, [], ◌∷◌, length, bit_xor}

-- ---- polynomial (Karp and Rabin, 1987)

abbrev pub prime : ℕ
prime = 2147483647

-- c1 * 1000^(k-1) + .. + ck
abbrev pub weighed : List ℕ → ℕ
weighed [] = 0
weighed (c ∷ cs) = c * 1000 ^ length cs + weighed cs

abbrev pub polynomial : List ℕ → ℕ
polynomial cs = weighed cs % prime

-- ---- cyclic shift

-- the number that a code is spread to
abbrev pub spread : ℕ → ℕ
spread c = c * 2654435761 % 2 ^ 32

-- 32 bits rotated left by r below 32: the low 32 - r bits move up, the high r bits come in below
abbrev pub turned : ℕ → ℕ → ℕ
turned r x = x % 2 ^ (32 - r) * 2 ^ r + x / 2 ^ (32 - r)

abbrev pub rotated : ℕ → ℕ → ℕ
rotated n x = turned (n % 32) x

-- g(ci) rotated left by k - i, all joined by exclusive or
abbrev pub cyclic : List ℕ → ℕ
cyclic [] = 0
cyclic (c ∷ cs) = bit_xor (rotated (length cs) (spread c)) (cyclic cs)
