-- Tokens that cover a stretch of a file end to end.
use Rattle.std.specs.Prelude.{◌≡◌, ℕ, ◌<◌, ◌≤◌, Bool, ◌&&◌, List, [], ◌∷◌, count_by, nat_le, nat_lt}
use Rattle.tokens.specs.declared.token.Token.{Token}

-- the first begins at `at`, each next one where the one before it ends, and the last ends at `to`
abbrev pub EndToEnd : ℕ → List Token → ℕ → Type 0
EndToEnd at [] to = at ≡ to
EndToEnd at (t ∷ ts) to = (t.from ≡ at) × (t.from < t.to) × EndToEnd t.to ts to

-- a token covers the byte at a place
abbrev pub covers : ℕ → Token → Bool
covers p t = nat_le t.from p && nat_lt p t.to

-- each byte below `size` is covered by one token, and no byte from there on by any
pub record CoversOnce (ts : List Token) (size : ℕ) : Type 0 where
  pub within : (p : ℕ) → p < size → count_by (covers p) ts ≡ 1
  pub beyond : (p : ℕ) → size ≤ p → count_by (covers p) ts ≡ 0
