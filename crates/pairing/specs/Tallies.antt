-- What some pairs bring to the counts and to the list of a report. Assumes nothing.
use Rattle.std.specs.Prelude.{◌≡◌, ℕ, ◌+◌, ◌^◌, ◌<◌, ◌≤◌, ◌⊎◌, List, length, take, drop, Result, MatchResult}
use Rattle.order.specs.Listed.{In, Rising, ListsExactly}
use Rattle.model.specs.declared.answers.Reported.{Reported}
use Rattle.model.specs.declared.passage.Passage.{Passage}
use Rattle.model.specs.Files.{Files}
use Rattle.model.specs.Passages.{by_eight, marked, differing}
use Rattle.pairing.specs.Groups.{Pairs}

abbrev pub no_counts : Reported
no_counts = record { passages = 0; pairs = 0; differing = 0 }

-- the passages that are counted stand in front, and rise
pub record Ready (list : List Passage) (t : Reported) : Type 0 where
  pub room : t.passages ≤ length list
  pub rises : Rising by_eight (take t.passages list)

module _ {V : Type 0} (k : ℕ) (fs : Files) (ps : Pairs V) (before : List Passage) (t : Reported) where
  -- a passage that is listed before, or that one of the pairs marks
  abbrev pub Due : Passage → Type 0
  Due x = In x (take t.passages before) ⊎ In x (marked k fs ps)

  -- when all pairs are met, the counts are u and the list is `after`; a count that saturates is exact below its end
  pub record Tallied (after : List Passage) (u : Reported) : Type 0 where
    pub met : t.pairs + length ps < 2 ^ 64 → u.pairs ≡ t.pairs + length ps
    pub differ : t.differing + length ps < 2 ^ 64 → u.differing ≡ t.differing + differing k fs ps
    pub more : t.passages ≤ u.passages
    pub room : u.passages ≤ length before
    pub long : length after ≡ length before
    pub rest : drop u.passages after ≡ drop u.passages before
    pub lists : ListsExactly by_eight (take u.passages after) Due

  -- more passages are due than the list has entries
  pub record Overfull : Type 0 where
    pub due : List Passage
    pub many : length before < length due
    pub rises : Rising by_eight due
    pub only : (x : Passage) → In x due → Due x

  -- what meeting all pairs leaves, or that the list is too short for what they mark
  abbrev pub Counted : {E : Type 0} → List Passage → Reported → Result (Unit {0}) E → Type 0
  Counted after u r = MatchResult r (λ _. Tallied after u) (λ _. Overfull)
