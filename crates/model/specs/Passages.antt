-- The pairs and passages of a held file with the others, computed. Assumes nothing.
use Rattle.std.specs.Prelude.{ℕ, ◌+◌, ◌-◌, Bool, not, List, map, reverse, length, take, drop, filter, slice_index_or}
use Rattle.std.specs.declared.cmp.Ordering.{Ordering}
use Rattle.std.specs.Ordering.{is_eq, nat_cmp}
use Rattle.std.specs.List.{flat_map, common_prefix_len}
use Rattle.order.specs.Total.{by_both, by_key}
use Rattle.tokens.specs.declared.token.Token.{Token}
use Rattle.tokens.specs.Tokens.{same}
use Rattle.runs.specs.declared.longest.Run.{Run}
use Rattle.runs.specs.Shares.{unused, gram_same}
use Rattle.runs.specs.Passages.{Scheme}
use Rattle.model.specs.declared.fingerprint.Fingerprint.{Fingerprint}
use Rattle.model.specs.declared.passage.ByteSpan.{ByteSpan}
use Rattle.model.specs.declared.passage.Passage.{Passage}
use Rattle.model.specs.Files.{File, Files, tokens_of, without}
use Rattle.model.specs.Gathering.{gathered}
use Rattle.model.specs.Prints.{file_prints}

-- ---- the record of a passage

abbrev pub no_bytes : ByteSpan
no_bytes = record { from = 0; to = 0 }

abbrev pub no_passage : Passage
no_passage = record { other = 0; left = 0; right = 0; len = 0; here = no_bytes; there = no_bytes }

-- its eight fields, those of each span together
abbrev pub eight : Passage → ℕ × (ℕ × (ℕ × (ℕ × ((ℕ × ℕ) × (ℕ × ℕ)))))
eight x = (x.other, (x.left, (x.right, (x.len, ((x.here.from, x.here.to), (x.there.from, x.there.to))))))

abbrev pub eight_cmp : ℕ × (ℕ × (ℕ × (ℕ × ((ℕ × ℕ) × (ℕ × ℕ))))) → ℕ × (ℕ × (ℕ × (ℕ × ((ℕ × ℕ) × (ℕ × ℕ))))) → Ordering
eight_cmp = by_both nat_cmp (by_both nat_cmp (by_both nat_cmp (by_both nat_cmp (by_both (by_both nat_cmp nat_cmp) (by_both nat_cmp nat_cmp)))))

-- passages rise by these, from the left to the right
abbrev pub by_eight : Passage → Passage → Ordering
by_eight = by_key eight eight_cmp

-- the bytes of the n tokens from i on begin with the first token's and end with the last one's
abbrev pub span : List Token → ℕ → ℕ → ByteSpan
span ts i n = record { from = (slice_index_or ts i unused).from; to = (slice_index_or ts (i + n - 1) unused).to }

-- a run as a passage: xs are the tokens of the reported file, ys those of the file of number m
abbrev pub passage : ℕ → List Token → List Token → Run → Passage
passage m xs ys r =
    record { other = m; left = r.left; right = r.right; len = r.len; here = span xs r.left r.len; there = span ys r.right r.len }

-- ---- growing

-- how many tokens right before i and j are the same, and how many from i and j on
abbrev pub same_back : List Token → List Token → ℕ → ℕ → ℕ
same_back xs ys i j = common_prefix_len same (reverse (take i xs)) (reverse (take j ys))

abbrev pub same_on : List Token → List Token → ℕ → ℕ → ℕ
same_on xs ys i j = common_prefix_len same (drop i xs) (drop j ys)

-- the grams of k tokens at i and j, made longer at both ends while the tokens are the same
abbrev pub grown : ℕ → List Token → List Token → ℕ → ℕ → Run
grown k xs ys i j =
    let b = same_back xs ys i j in record { left = i - b; right = j - b; len = b + k + same_on xs ys (i + k) (j + k) }

-- ---- pairs of fingerprints, the first one of the reported file

module _ {V : Type 0} (k : ℕ) (fs : Files) where
  -- their grams are equal token by token
  abbrev pub alike : Fingerprint V × Fingerprint V → Bool
  alike p = gram_same k (tokens_of p.0.file fs) (tokens_of p.1.file fs) p.0.place p.1.place

  -- the passage around them
  abbrev pub around : Fingerprint V × Fingerprint V → Passage
  around p =
      let xs = tokens_of p.0.file fs in
      let ys = tokens_of p.1.file fs in
      passage p.1.file xs ys (grown k xs ys p.0.place p.1.place)

  -- the passages that some pairs mark
  abbrev pub marked : List (Fingerprint V × Fingerprint V) → List Passage
  marked ps = map around (filter alike ps)

  -- how many of the pairs differ
  abbrev pub differing : List (Fingerprint V × Fingerprint V) → ℕ
  differing ps = length (filter (λ p. not (alike p)) ps)

-- a with each of those that have its value
abbrev pub paired : {V : Type 0} → (V → V → Ordering) → Fingerprint V → List (Fingerprint V) → List (Fingerprint V × Fingerprint V)
paired cmp a bs = map (λ b. (a, b)) (filter (λ b. is_eq (cmp b.value a.value)) bs)

module _ {V : Type 0} (S : Scheme V) where
  -- the pairs of two files: a chosen place of each, with one value
  abbrev pub pairs : File → File → List (Fingerprint V × Fingerprint V)
  pairs f g = flat_map (λ a. paired S.cmp a (file_prints S g)) (file_prints S f)

  -- those of file n with all others
  abbrev pub pairs_of : Files → ℕ → List (Fingerprint V × Fingerprint V)
  pairs_of fs n = flat_map (pairs (n, tokens_of n fs)) (without n fs)

  -- the passages of file n with all others, rising
  abbrev pub passages_of : Files → ℕ → List Passage
  passages_of fs n = gathered by_eight (marked S.k fs (pairs_of fs n))
