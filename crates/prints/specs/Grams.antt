-- Codes, grams of them, and what a hash must do when a gram moves on by one code. Assumes nothing.
use Rattle.std.specs.Prelude.{◌≡◌, ℕ, ◌≤◌, List, [], ◌∷◌, ◌++◌, length}
use Rattle.std.specs.List.{AllByRecursion}

-- a code that a token can have
abbrev pub Code : ℕ → Type 0
Code c = (1 ≤ c) × (c ≤ 1023)

-- every one is a code
abbrev pub Coded : List ℕ → Type 0
Coded cs = AllByRecursion Code cs

-- a list that hashes speak of: 1 to 64 codes
pub record Gram (cs : List ℕ) : Type 0 where
  pub some : 1 ≤ length cs
  pub few : length cs ≤ 64
  pub coded : Coded cs

-- where `before` is the value of the k codes that `out` leads, `after` is that of the list without it and with `next` behind
abbrev pub Rolls : {V : Type 0} → (List ℕ → V) → V → ℕ → ℕ → ℕ → V → Type 0
Rolls value before k out next after =
    (mid : List ℕ) → Gram (out ∷ mid) → Code next → k ≡ length (out ∷ mid) → before ≡ value (out ∷ mid) → after ≡ value (mid ++ next ∷ [])
