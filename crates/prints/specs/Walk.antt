-- The walk over a file's codes. Assumes nothing.
use Rattle.std.specs.Prelude.{◌≡◌, ℕ, ◌+◌, ◌-◌, ◌^◌, ◌<◌, ◌≤◌, List, map, length, take, drop, filter, Option, MatchOption, nat_le}
use Rattle.std.specs.declared.cmp.Ordering.{Ordering}
use Rattle.prints.specs.declared.window.Placed.{Placed}
use Rattle.prints.specs.declared.window.WindowQueue.{WindowQueue}
use Rattle.prints.specs.declared.walk.Grams.{Grams}
use Rattle.prints.specs.Grams.{Coded}
use Rattle.prints.specs.Choice.{Rightmost, chosen, at_place, fingerprints}
use Rattle.prints.specs.Window.{width, Holds}

-- the k codes from place i on
abbrev pub gram : ℕ → List ℕ → ℕ → List ℕ
gram k cs i = take k (drop i cs)

-- how many grams of k codes there are
abbrev pub grams : ℕ → List ℕ → ℕ
grams k cs = length cs + 1 - k

-- the value at place i is that of the gram at i
abbrev pub value_at : {V : Type 0} → (List ℕ → V) → ℕ → List ℕ → ℕ → V
value_at hash k cs i = hash (gram k cs i)

-- the chosen places of a file's codes with their values, for grams of k codes and windows of w values
unfoldable pub winnowed : {V : Type 0} → (List ℕ → V) → (V → V → Ordering) → ℕ → ℕ → List ℕ → List (Placed V)
winnowed hash cmp k w cs = fingerprints cmp w (value_at hash k cs) (grams k cs)

-- those from a place on
unfoldable pub winnowed_from : {V : Type 0} → (List ℕ → V) → (V → V → Ordering) → ℕ → ℕ → List ℕ → ℕ → List (Placed V)
winnowed_from hash cmp k w cs from = map (at_place (value_at hash k cs)) (filter (nat_le from) (chosen cmp w (value_at hash k cs) (grams k cs)))

-- ---- the grams that are still to come

module _ {H C V : Type 0} (hash : List ℕ → V) (read : C → List ℕ) where
  -- the codes that it goes over
  abbrev pub codes_of : Grams H C V → List ℕ
  codes_of x = read x.codes

  -- the values of all grams
  abbrev pub row_of : Grams H C V → ℕ → V
  row_of x = value_at hash x.k (codes_of x)

  -- it knows how many codes there are, and holds the value at its place, while there is a gram
  pub record Going (x : Grams H C V) : Type 0 where
    pub low : 1 ≤ x.k
    pub high : x.k ≤ 64
    pub coded : Coded (codes_of x)
    pub len : x.len ≡ length (codes_of x)
    pub size : length (codes_of x) < 2 ^ 64
    pub held : MatchOption x.value (grams x.k (codes_of x) ≤ x.place) (λ v. (x.place < grams x.k (codes_of x)) × (v ≡ row_of x x.place))

  -- going from x to y it gave r: the value at its place, and nothing where there was no gram
  pub record Gave (x : Grams H C V) (r : Option (Placed V)) (y : Grams H C V) : Type 0 where
    pub going : Going y
    pub codes : y.codes ≡ x.codes
    pub k : y.k ≡ x.k
    pub gave : MatchOption r ((grams x.k (codes_of x) ≤ x.place) × (y.place ≡ x.place)) (λ m. (x.place < grams x.k (codes_of x)) × (m ≡ at_place (row_of x) x.place) × (y.place ≡ x.place + 1))

-- ---- the walk's state

-- the queue has taken the values of the grams that came, and the walk has handed out what the windows among them chose
pub record Walking {H C V : Type 0} (hash : List ℕ → V) (cmp : V → V → Ordering) (read : C → List ℕ) (x : Grams H C V) (q : WindowQueue V) (from : ℕ) : Type 0 where
  pub going : Going hash read x
  pub queue : Holds cmp (row_of hash read x) x.place q
  pub gone : (s p : ℕ) → s + width q ≤ x.place → Rightmost cmp (row_of hash read x) s (width q) p → p < from
