-- Which tokens two lists share. Tokens are seen only through `same`. Assumes nothing.
use Rattle.std.specs.Prelude.{◌≡◌, ℕ, zero, suc, ◌+◌, ◌-◌, ◌<◌, ◌≤◌, Bool, true, false, ◌&&◌, List, length, nat_le, slice_index_or}
use Rattle.tokens.specs.declared.token.Class.TheVariants.{Unused}
use Rattle.tokens.specs.declared.token.Token.{Token}
use Rattle.tokens.specs.Tokens.{same}
use Rattle.runs.specs.declared.longest.Run.{Run}

-- what stands past a list's end; no fact below looks there
abbrev pub unused : Token
unused = record { code = 0; class = Unused; from = 0; to = 0 }

-- the token at i of one list is the same as the token at j of the other
abbrev pub same_at : List Token → List Token → ℕ → ℕ → Bool
same_at xs ys i j = same (slice_index_or xs i unused) (slice_index_or ys j unused)

-- ---- grams

-- the test passes at every number below n
abbrev pub every_below : (ℕ → Bool) → ℕ → Bool
every_below test zero = true
every_below test (suc n) = test n && every_below test n

-- there is a gram of k tokens at i and one at j, and every token of the one is the same as its partner
abbrev pub gram_same : ℕ → List Token → List Token → ℕ → ℕ → Bool
gram_same k xs ys i j = nat_le (i + k) (length xs) && (nat_le (j + k) (length ys) && every_below (λ d. same_at xs ys (i + d) (j + d)) k)

-- the same as a fact
pub record SameGrams (k : ℕ) (xs ys : List Token) (i j : ℕ) : Type 0 where
  pub left_in : i + k ≤ length xs
  pub right_in : j + k ≤ length ys
  pub each : (d : ℕ) → d < k → same_at xs ys (i + d) (j + d) ≡ true

-- ---- runs

-- a shared run: the n tokens from i on in one list are the same as those from j on in the other
pub record Shared (xs ys : List Token) (i j n : ℕ) : Type 0 where
  pub some : 0 < n
  pub left_in : i + n ≤ length xs
  pub right_in : j + n ≤ length ys
  pub each : (d : ℕ) → d < n → same_at xs ys (i + d) (j + d) ≡ true

-- a longest run: a shared run that is none any more with one token more at either end
pub record Longest (xs ys : List Token) (i j n : ℕ) : Type 0 where
  pub shared : Shared xs ys i j n
  pub no_earlier : 0 < i → 0 < j → Shared xs ys (i - 1) (j - 1) (n + 1) → ⊥
  pub no_later : Shared xs ys i j (n + 1) → ⊥

-- a longest run that holds the grams of k tokens at i and at j, both equally far from its starts
pub record Around (k : ℕ) (xs ys : List Token) (i j : ℕ) (r : Run) : Type 0 where
  pub longest : Longest xs ys r.left r.right r.len
  pub starts : r.left ≤ i
  pub ends : i + k ≤ r.left + r.len
  pub level : i + r.right ≡ j + r.left

-- and it is the only one
pub record TheRun (k : ℕ) (xs ys : List Token) (i j : ℕ) (r : Run) : Type 0 where
  pub around : Around k xs ys i j r
  pub only : (s : Run) → Around k xs ys i j s → s ≡ r

-- ---- how far two lists are the same

-- exactly the n tokens right before i are the same as those right before j
pub record SameBefore (xs ys : List Token) (i j n : ℕ) : Type 0 where
  pub left_in : n ≤ i
  pub right_in : n ≤ j
  pub each : (d : ℕ) → d < n → same_at xs ys (i - (d + 1)) (j - (d + 1)) ≡ true
  pub stops : n < i → n < j → same_at xs ys (i - (n + 1)) (j - (n + 1)) ≡ false

-- exactly the n tokens from i on are the same as those from j on
pub record SameFrom (xs ys : List Token) (i j n : ℕ) : Type 0 where
  pub left_in : n ≤ length xs - i
  pub right_in : n ≤ length ys - j
  pub each : (d : ℕ) → d < n → same_at xs ys (i + d) (j + d) ≡ true
  pub stops : i + n < length xs → j + n < length ys → same_at xs ys (i + n) (j + n) ≡ false
