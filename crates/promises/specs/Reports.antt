-- What a report of file n lists, where the files fs are held. Assumes nothing.
use Rattle.std.specs.Prelude.{◌≡◌, ℕ, ◌+◌, ◌-◌, ◌<◌, ◌≤◌, true, false, ◌⊎◌, List, map, length, take, drop, replicate, Ok, Err, ◌≢◌, slice_index_or}
use Rattle.order.specs.Total.{by_both}
use Rattle.order.specs.Listed.{In, ListsExactly}
use Rattle.tokens.specs.declared.token.Token.{Token}
use Rattle.runs.specs.Shares.{unused, SameGrams, Shared, Longest}
use Rattle.runs.specs.Passages.{Scheme, Pair}
use Rattle.runs.specs.Passages as runs
use Rattle.model.specs.declared.answers.Reported.{Reported}
use Rattle.model.specs.declared.passage.Passage.{Passage}
use Rattle.model.specs.declared.refusal.Reason.TheVariants.{ReportUnheld, ReportFull}
use Rattle.model.specs.declared.refusal.Refusal.{Refusal}
use Rattle.model.specs.Calls.{Outcome, added, removed, listed, reported}
use Rattle.model.specs.Files.{File, Files, known}
use Rattle.model.specs.Passages.{no_passage, by_eight, span, passage, pairs}
use Rattle.model.specs.Refusals.{plain}
use Rattle.promises.specs.Counts.{Counts}
use Rattle.std.specs.Ordering.{nat_cmp}

-- x is a passage of file n with another held file: a longest run that holds a pair, with the bytes of its tokens on both sides
pub record Listed {V : Type 0} (S : Scheme V) (fs : Files) (n : ℕ) (x : Passage) : Type 0 where
  pub xs : List Token
  pub ys : List Token
  pub file : In (n, xs) fs
  pub other : In (x.other, ys) fs
  pub apart : x.other ≡ n → ⊥
  pub marked : runs.Passage S xs ys x.left x.right x.len
  pub here : x.here ≡ span xs x.left x.len
  pub there : x.there ≡ span ys x.right x.len

-- x is a run of k or more tokens that are the same in file n and in another held file, and the same no further at either end; on both
-- sides its bytes begin with its first token and end with its last
pub record Genuine {V : Type 0} (S : Scheme V) (fs : Files) (n : ℕ) (x : Passage) : Type 0 where
  pub xs : List Token
  pub ys : List Token
  pub file : In (n, xs) fs
  pub other : In (x.other, ys) fs
  pub apart : x.other ≡ n → ⊥
  pub enough : S.k ≤ x.len
  pub equal : Shared xs ys x.left x.right x.len
  pub longest : Longest xs ys x.left x.right x.len
  pub here_begins : x.here.from ≡ (slice_index_or xs x.left unused).from
  pub here_ends : x.here.to ≡ (slice_index_or xs (x.left + x.len - 1) unused).to
  pub there_begins : x.there.from ≡ (slice_index_or ys x.right unused).from
  pub there_ends : x.there.to ≡ (slice_index_or ys (x.right + x.len - 1) unused).to

module _ {V : Type 0} (S : Scheme V) (fs : Files) (n : ℕ) where
  -- exactly the passages, each once, in rising order
  abbrev pub Exact : List Passage → Type 0
  Exact ps = ListsExactly by_eight ps (Listed S fs n)

  -- every longest run of t or more tokens is listed
  abbrev pub NoMiss : List Passage → Type 0
  NoMiss ps =
      (m : ℕ) (xs ys : List Token) (i j len : ℕ) → In (n, xs) fs → In (m, ys) fs → (m ≢ n) → Longest xs ys i j len → S.t ≤ len →
      In (passage m xs ys (record { left = i; right = j; len = len })) ps

  -- whatever is listed is genuine
  abbrev pub NoFalseAlarm : List Passage → Type 0
  NoFalseAlarm ps = (x : Passage) → In x ps → Genuine S fs n x

-- a pair of file n with another held file: the other's number, and the places in both
pub record PairWith {V : Type 0} (S : Scheme V) (fs : Files) (n : ℕ) (x : ℕ × (ℕ × ℕ)) : Type 0 where
  pub xs : List Token
  pub ys : List Token
  pub file : In (n, xs) fs
  pub other : In (x.0, ys) fs
  pub apart : x.0 ≡ n → ⊥
  pub pair : Pair S xs ys x.1.0 x.1.1

-- one whose grams differ
pub record DifferingPair {V : Type 0} (S : Scheme V) (fs : Files) (n : ℕ) (x : ℕ × (ℕ × ℕ)) : Type 0 where
  pub pair : PairWith S fs n x
  pub differ : SameGrams S.k pair.xs pair.ys x.1.0 x.1.1 → ⊥

-- a granted report into a list of `room` entries: the first ones are the passages, the rest are zeros, and the counts are right
pub record ReportGranted {V : Type 0} (S : Scheme V) (fs : Files) (n room : ℕ) (r : Reported) (list : List Passage) : Type 0 where
  pub held : known n fs ≡ true
  pub size : length list ≡ room
  pub fits : r.passages ≤ room
  pub exact : Exact S fs n (take r.passages list)
  pub no_miss : NoMiss S fs n (take r.passages list)
  pub no_false_alarm : NoFalseAlarm S fs n (take r.passages list)
  pub zeros : drop r.passages list ≡ replicate (room - r.passages) no_passage
  pub pairs : Counts (PairWith S fs n) r.pairs
  pub differing : Counts (DifferingPair S fs n) r.differing

-- more passages than `room`
pub record TooMany {V : Type 0} (S : Scheme V) (fs : Files) (n room : ℕ) : Type 0 where
  pub all : List Passage
  pub exact : Exact S fs n all
  pub more : room < length all

-- a refused one: all entries are zeros, and the file is not held or the list is too short
pub record ReportRefused {V : Type 0} (S : Scheme V) (fs : Files) (n room : ℕ) (e : Refusal) (list : List Passage) : Type 0 where
  pub zeros : list ≡ replicate room no_passage
  pub why : ((e ≡ plain ReportUnheld) × (known n fs ≡ false)) ⊎ ((e ≡ plain ReportFull) × (known n fs ≡ true) × TooMany S fs n room)

-- what a report of file n answers
abbrev pub ReportTold : {V : Type 0} → Scheme V → Files → ℕ → ℕ → Outcome → Type 0
ReportTold S fs n room (reported (Ok r) list) = ReportGranted S fs n room r list
ReportTold S fs n room (reported (Err e) list) = ReportRefused S fs n room e list
ReportTold S fs n room (added r) = ⊥
ReportTold S fs n room (removed r) = ⊥
ReportTold S fs n room (listed r list) = ⊥

-- the places of the pairs of two files are exactly the pairs of chosen places with one value, so each is counted once
abbrev pub PairsCounted : {V : Type 0} → Scheme V → File → File → Type 0
PairsCounted S f g = ListsExactly (by_both nat_cmp nat_cmp) (map (λ p. (p.0.place, p.1.place)) (pairs S f g)) (λ pq. Pair S f.1 g.1 pq.0 pq.1)
