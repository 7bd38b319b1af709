-- Pairs of fingerprints, and the passages that they mark. Assumes nothing.
use Rattle.std.specs.Prelude.{◌≡◌, ℕ, ◌+◌, ◌-◌, ◌≤◌, List, map}
use Rattle.std.specs.declared.cmp.Ordering.{Ordering}
use Rattle.order.specs.Listed.{ListsExactly}
use Rattle.tokens.specs.declared.token.Token.{Token}
use Rattle.prints.specs.declared.window.Placed.{Placed}
use Rattle.prints.specs.Choice.{Chosen}
use Rattle.prints.specs.Walk.{grams, value_at, winnowed}
use Rattle.runs.specs.Shares.{Longest}
use Rattle.std.specs.Ordering.{nat_cmp}

-- how values are made of grams of k tokens, and compared; t is the length from which no longest run goes unseen
pub record Scheme (V : Type 0) : Type 0 where
  pub cmp : V → V → Ordering
  pub hash : List ℕ → V
  pub k : ℕ
  pub t : ℕ

abbrev pub codes : List Token → List ℕ
codes ts = map (λ a. a.code) ts

module _ {V : Type 0} (S : Scheme V) where
  -- the values in a window, which spans t tokens
  abbrev pub width : ℕ
  width = S.t - S.k + 1

  -- the value at place i is the hash of the codes of the k tokens from i on
  abbrev pub row : List Token → ℕ → V
  row ts = value_at S.hash S.k (codes ts)

  -- and there are so many places
  abbrev pub places : List Token → ℕ
  places ts = grams S.k (codes ts)

  -- p is a chosen place of the list
  abbrev pub Print : List Token → ℕ → Type 0
  Print ts p = Chosen S.cmp width (row ts) (places ts) p

  -- the chosen places, each with its value, computed
  abbrev pub print_list : List Token → List (Placed V)
  print_list ts = winnowed S.hash S.cmp S.k width (codes ts)

-- a pair: a chosen place of each list, with one value
pub record Pair {V : Type 0} (S : Scheme V) (xs ys : List Token) (p q : ℕ) : Type 0 where
  pub here : Print S xs p
  pub there : Print S ys q
  pub alike : row S xs p ≡ row S ys q

-- a passage: a longest run with a pair inside it, both grams within the run and both places equally far from its starts
pub record Passage {V : Type 0} (S : Scheme V) (xs ys : List Token) (i j n : ℕ) : Type 0 where
  pub longest : Longest xs ys i j n
  pub p : ℕ
  pub q : ℕ
  pub pair : Pair S xs ys p q
  pub starts : i ≤ p
  pub ends : p + S.k ≤ i + n
  pub level : p + j ≡ q + i

-- ---- statements, for a hash and the order of its values

abbrev pub scheme : {V : Type 0} → (List ℕ → V) → (V → V → Ordering) → ℕ → ℕ → Scheme V
scheme hash cmp k t = record { cmp = cmp; hash = hash; k = k; t = t }

-- every longest run of t or more tokens is a passage
abbrev pub Guarantee : {V : Type 0} → (List ℕ → V) → (V → V → Ordering) → Type 0
Guarantee hash cmp = (k t : ℕ) → 1 ≤ k → k ≤ t → (xs ys : List Token) (i j n : ℕ) → Longest xs ys i j n → t ≤ n → Passage (scheme hash cmp k t) xs ys i j n

-- the list that is computed has exactly the chosen places, in rising order
abbrev pub PrintsListed : {V : Type 0} → (List ℕ → V) → (V → V → Ordering) → Type 0
PrintsListed hash cmp = (k t : ℕ) (ts : List Token) → ListsExactly nat_cmp (map (λ m. m.place) (print_list (scheme hash cmp k t) ts)) (Print (scheme hash cmp k t) ts)
