-- What a store stands for. Assumes nothing.
use Rattle.std.specs.Prelude.{◌≡◌, ℕ, ◌-◌, ◌≤◌, min, true, List, [], length, take, drop, replicate}
use Rattle.std.specs.declared.cmp.Ordering.{Ordering}
use Rattle.std.specs.List.{AllByRecursion}
use Rattle.tokens.specs.declared.token.Token.{Token}
use Rattle.tokens.specs.Tokens.{limit}
use Rattle.runs.specs.Shares.{unused}
use Rattle.runs.specs.Passages.{scheme}
use Rattle.model.specs.declared.fingerprint.Fingerprint.{Fingerprint}
use Rattle.model.specs.declared.table.Entry.{Entry}
use Rattle.model.specs.Files.{Files, Distinct}
use Rattle.model.specs.Tables.{cut, extent}
use Rattle.model.specs.Prints.{index_of}
use Rattle.model.specs.Calls.{Setting, Asked, Outcome, answer, after, held_after, outcomes, quiet}
use Rattle.std.specs.Borrow.{MutBor}

-- the lists that a library was lent and what of them it uses, the table of its files, and its plan
pub record State (V : Type 0) : Type 0 where
  pub tokens : MutBor (List Token)
  pub used : ℕ
  pub table : List Entry
  pub index : MutBor (List (Fingerprint V))
  pub prints : ℕ
  pub k : ℕ
  pub t : ℕ

-- the held files, in order of the Adds
abbrev pub files : {V : Type 0} → State V → Files
files s = cut s.table s.tokens.now

-- what holds of it whatever the hash and however many files it holds
pub record Bounds {V : Type 0} (s : State V) : Type 0 where
  pub full : s.used ≡ extent s.table
  pub within : s.used ≤ length s.tokens.now
  pub room : length s.tokens.now ≤ limit
  pub places : length s.index.now ≤ limit
  pub indexed : s.prints ≤ length s.index.now
  pub low : 1 ≤ s.k
  pub high : s.k ≤ 64
  pub least : s.k ≤ s.t
  pub most : s.t ≤ 256

-- the same, and that it holds 64 files at most; each a field of its own, since callers name them
pub record Shape {V : Type 0} (s : State V) : Type 0 where
  pub few : length s.table ≤ 64
  pub full : s.used ≡ extent s.table
  pub within : s.used ≤ length s.tokens.now
  pub room : length s.tokens.now ≤ limit
  pub places : length s.index.now ≤ limit
  pub indexed : s.prints ≤ length s.index.now
  pub low : 1 ≤ s.k
  pub high : s.k ≤ 64
  pub least : s.k ≤ s.t
  pub most : s.t ≤ 256

-- the bounds alone, which the laws of a store ask of it
pub bounds_of : {V : Type 0} {s : State V} → Shape s → Bounds s
bounds_of h =
    record {
      full = h.full;
      within = h.within;
      room = h.room;
      places = h.places;
      indexed = h.indexed;
      low = h.low;
      high = h.high;
      least = h.least;
      most = h.most;
    }

-- and with the number of files the whole
pub shape_from : {V : Type 0} {s : State V} → length s.table ≤ 64 → Bounds s → Shape s
shape_from few b =
    record {
      few = few;
      full = b.full;
      within = b.within;
      room = b.room;
      places = b.places;
      indexed = b.indexed;
      low = b.low;
      high = b.high;
      least = b.least;
      most = b.most;
    }

-- what clauses see of a library: a state, and that this holds of it, so that it is known of every library with no call made
pub record Shaped (V : Type 0) : Type 0 where
  pub state : State V
  pub shape : Shape state

module _ {V : Type 0} (value : List ℕ → V) (cmp : V → V → Ordering) where
  abbrev pub setting : State V → Setting V
  setting s = record { scheme = scheme value cmp s.k s.t; tokens = length s.tokens.now; index = length s.index.now }

  -- what holds of it for the hash: the used part of the index is the index of the held files, no number is held twice, and the free
  -- tokens are unused
  pub record Sound (s : State V) : Type 0 where
    pub index : take s.prints s.index.now ≡ index_of (scheme value cmp s.k s.t) (files s)
    pub distinct : Distinct (files s)
    pub clear : drop s.used s.tokens.now ≡ replicate (length s.tokens.now - s.used) unused

  -- a store that is opened over these lists: nothing is held, the first entries of the lists are used, and all those tokens are unused
  pub record Opened (k t : ℕ) (ts : List Token) (es : List (Fingerprint V)) (s : State V) : Type 0 where
    pub sound : Sound s
    pub none : files s ≡ []
    pub gram : s.k ≡ k
    pub run : s.t ≡ t
    pub tokens : s.tokens.now ≡ replicate (min (length ts) limit) unused
    pub index : s.index.now ≡ take (min (length es) limit) es

-- the same files, tokens and index, unused entries too
pub record Same {V : Type 0} (s t : State V) : Type 0 where
  pub tokens : t.tokens.now ≡ s.tokens.now
  pub index : t.index.now ≡ s.index.now
  pub table : t.table ≡ s.table
  pub used : t.used ≡ s.used
  pub prints : t.prints ≡ s.prints

-- the plan, the lengths of the lists, and which lists they are, stay from the opening on
pub record Kept {V : Type 0} (s t : State V) : Type 0 where
  pub gram : t.k ≡ s.k
  pub run : t.t ≡ s.t
  pub room : length t.tokens.now ≡ length s.tokens.now
  pub places : length t.index.now ≡ length s.index.now
  pub tokens : t.tokens.ghost_name ≡ s.tokens.ghost_name
  pub index : t.index.ghost_name ≡ s.index.ghost_name

-- what a call of a sound store answers and leaves
pub record Told {V : Type 0} (value : List ℕ → V) (cmp : V → V → Ordering) (s t : State V) (c : Asked) (o : Outcome) : Type 0 where
  pub answers : o ≡ answer (setting value cmp s) (files s) c
  pub leaves : files t ≡ after (setting value cmp s) (files s) c
  pub sound : Sound value cmp t
  pub unchanged : quiet o ≡ true → Same s t

-- what one call does
pub record Step {V : Type 0} (value : List ℕ → V) (cmp : V → V → Ordering) (s t : State V) (c : Asked) (o : Outcome) : Type 0 where
  pub told : Sound value cmp s → Told value cmp s t c o
  pub kept : Kept s t

-- ---- any list of calls

-- what a list of calls of a sound store answers and leaves
pub record AllTold {V : Type 0} (value : List ℕ → V) (cmp : V → V → Ordering) (s t : State V) (cs : List Asked) (os : List Outcome) : Type 0 where
  pub answers : os ≡ outcomes (setting value cmp s) (files s) cs
  pub leaves : files t ≡ held_after (setting value cmp s) (files s) cs
  pub sound : Sound value cmp t
  pub unchanged : AllByRecursion (λ o. quiet o ≡ true) os → Same s t

-- what the calls do
pub record Steps {V : Type 0} (value : List ℕ → V) (cmp : V → V → Ordering) (s t : State V) (cs : List Asked) (os : List Outcome) : Type 0 where
  pub told : Sound value cmp s → AllTold value cmp s t cs os
  pub kept : Kept s t
