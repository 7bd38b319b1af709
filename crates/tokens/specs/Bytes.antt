-- Kinds of bytes.
use Rattle.std.specs.Prelude.{ℕ, Bool, ◌&&◌, ◌||◌, ◌==◌, nat_le}

abbrev pub between : ℕ → ℕ → ℕ → Bool
between low high b = nat_le low b && nat_le b high

-- tab, line feed, vertical tab, form feed, carriage return and space
abbrev pub is_blank : ℕ → Bool
is_blank b = between 9 13 b || b == 32

-- A to Z and a to z
abbrev pub is_letter : ℕ → Bool
is_letter b = between 65 90 b || between 97 122 b

-- 0 to 9
abbrev pub is_digit : ℕ → Bool
is_digit b = between 48 57 b
