-- The held files: for each its number and its tokens, in order of the Adds. Assumes nothing.
use Rattle.std.specs.Prelude.{◌≡◌, ℕ, Bool, false, cond, not, ◌||◌, List, [], ◌∷◌, filter, ◌==◌}
use Rattle.std.specs.List.{flat_map}
use Rattle.tokens.specs.declared.token.Token.{Token}

abbrev pub File : Type 0
File = ℕ × List Token

abbrev pub Files : Type 0
Files = List File

-- whether a file of number n is held
abbrev pub known : ℕ → Files → Bool
known n [] = false
known n (f ∷ fs) = f.0 == n || known n fs

-- the tokens of the file of number n
abbrev pub tokens_of : ℕ → Files → List Token
tokens_of n [] = []
tokens_of n (f ∷ fs) = cond (f.0 == n) f.1 (tokens_of n fs)

-- the files but that of number n
abbrev pub without : ℕ → Files → Files
without n fs = filter (λ f. not (f.0 == n)) fs

-- the tokens of all files, in order
abbrev pub held_tokens : Files → List Token
held_tokens fs = flat_map (λ f. f.1) fs

-- no number is there twice
abbrev pub Distinct : Files → Type 0
Distinct [] = Unit {0}
Distinct (f ∷ fs) = (known f.0 fs ≡ false) × Distinct fs
