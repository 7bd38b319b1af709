-- What is promised about every list of calls. Assumes nothing.
use Rattle.std.specs.Prelude.{◌≡◌, ℕ, ◌≤◌, List, [], ◌∷◌, ◌++◌, length, IsSomeAnd, Some}
use Rattle.std.specs.declared.cmp.Ordering.{Ordering}
use Rattle.std.specs.List.{slice_get}
use Rattle.runs.specs.Passages.{scheme}
use Rattle.model.specs.Calls.{Asked, held, report, Outcome, Setting, setting, answer, held_after, outcomes}
use Rattle.model.specs.Files.{File}
use Rattle.promises.specs.Reports.{ReportTold, PairsCounted}
use Rattle.promises.specs.Holding.{Fits, HeldTold, Fresh}

-- each outcome is the one that the arguments of the calls up to it define
pub record Answered {V : Type 0} (st : Setting V) (cs : List Asked) (os : List Outcome) : Type 0 where
  pub count : length os ≡ length cs
  pub each : (before rest : List Asked) (c : Asked) → cs ≡ before ++ c ∷ rest → slice_get os (length before) ≡ Some (answer st (held_after st [] before) c)

-- the outcomes os of the calls cs keep the promises, whichever calls came before
pub record Promised {V : Type 0} (st : Setting V) (cs : List Asked) (os : List Outcome) : Type 0 where
  pub reports : (before rest : List Asked) (n room : ℕ) → cs ≡ before ++ report n room ∷ rest →
      IsSomeAnd (slice_get os (length before)) (ReportTold st.scheme (held_after st [] before) n room)
  pub held : (before rest : List Asked) (room : ℕ) → cs ≡ before ++ held room ∷ rest →
      IsSomeAnd (slice_get os (length before)) (HeldTold (held_after st [] before) room)
  pub fits : (before rest : List Asked) → cs ≡ before ++ rest → Fits st (held_after st [] before)
  pub fresh : (before rest : List Asked) → cs ≡ before ++ rest → Fresh st (held_after st [] before)

-- ---- statements, for a hash and the order of its values

-- outcomes that are the defined ones keep the promises
abbrev pub Promises : {V : Type 0} → (List ℕ → V) → (V → V → Ordering) → Type 0
Promises hash cmp =
    (k t tokens index : ℕ) → 1 ≤ k → k ≤ t → (cs : List Asked) →
    Promised (setting hash cmp k t tokens index) cs (outcomes (setting hash cmp k t tokens index) [] cs)

-- the pairs of any two files are counted once each
abbrev pub AllPairsCounted : {V : Type 0} → (List ℕ → V) → (V → V → Ordering) → Type 0
AllPairsCounted hash cmp = (k t : ℕ) (f g : File) → PairsCounted (scheme hash cmp k t) f g
