-- What is held, and what each call answers, from the calls' arguments alone. Assumes nothing.
use Rattle.std.specs.Prelude.{ℕ, ◌-◌, Bool, true, cond, List, [], ◌∷◌, ◌++◌, map, length, replicate, is_err, Some, None, Ok, Err, vec_items, vec_len, Option, Result, ◌==◌, nat_le, nat_lt}
use Rattle.std.specs.declared.cmp.Ordering.{Ordering}
use Rattle.tokens.specs.declared.token.Token.{Token}
use Rattle.tokens.specs.declared.token.Fault.{Fault}
use Rattle.runs.specs.Passages.{Scheme, scheme, width, print_list}
use Rattle.model.specs.declared.answers.Added.{Added}
use Rattle.model.specs.declared.answers.Reported.{Reported}
use Rattle.model.specs.declared.calls.Call.{Call}
use Rattle.model.specs.declared.calls.Call.TheVariants.{Add, Remove, Held, Report}
use Rattle.model.specs.declared.calls.Answer.{Answer}
use Rattle.model.specs.declared.calls.Answer.TheVariants as answers
use Rattle.model.specs.declared.fingerprint.Fingerprint.{Fingerprint}
use Rattle.model.specs.declared.passage.Passage.{Passage}
use Rattle.model.specs.declared.refusal.Reason.TheVariants.{NumberZero, NumberHeld, TooManyFiles, WorkShort, TokensFull, IndexFull, RemoveUnheld, ReportUnheld, ReportFull, HeldShort}
use Rattle.model.specs.declared.refusal.Refusal.{Refusal}
use Rattle.model.specs.Files.{Files, known, without, held_tokens}
use Rattle.model.specs.Passages.{no_passage, by_eight, marked, differing, pairs_of, passages_of}
use Rattle.model.specs.Gathering.{gathered}
use Rattle.model.specs.Prints.{print_count}
use Rattle.model.specs.Refusals.{plain, handed_on}

-- ---- calls and outcomes as plain data

-- an Add is a number, the tokens and the ending of its source, and the length of its work list; lists to write into are known by their lengths
pub data Asked : Type 0 where
  add : ℕ → List Token → Option Fault → ℕ → Asked
  remove : ℕ → Asked
  held : ℕ → Asked
  report : ℕ → ℕ → Asked

-- the answer, and what the list that was written into holds
pub data Outcome : Type 0 where
  added : Result Added Refusal → Outcome
  removed : Result (Unit {0}) Refusal → Outcome
  listed : Result ℕ Refusal → List ℕ → Outcome
  reported : Result Reported Refusal → List Passage → Outcome

-- whether the call left the library as it was: it was refused, or it only asked
abbrev pub quiet : Outcome → Bool
quiet (added r) = is_err r
quiet (removed r) = is_err r
quiet (listed r xs) = true
quiet (reported r xs) = true

abbrev pub asked : {S V : Type 0} → (S → List Token) → (S → Option Fault) → Call S V → Asked
asked tokens ending (Add n s w) = add n (tokens s) (ending s) (vec_len w)
asked tokens ending (Remove n) = remove n
asked tokens ending (Held v) = held (vec_len v)
asked tokens ending (Report n v) = report n (vec_len v)

abbrev pub shown : Answer → Outcome
shown (answers.Added r) = added r
shown (answers.Removed r) = removed r
shown (answers.Held r v) = listed r (vec_items v)
shown (answers.Reported r v) = reported r (vec_items v)

-- ---- answers

-- what stays from the opening on: the scheme, and how many tokens and fingerprints there is room for
pub record Setting (V : Type 0) : Type 0 where
  pub scheme : Scheme V
  pub tokens : ℕ
  pub index : ℕ

-- that of a hash and the order of its values
abbrev pub setting : {V : Type 0} → (List ℕ → V) → (V → V → Ordering) → ℕ → ℕ → ℕ → ℕ → Setting V
setting hash cmp k t tokens index = record { scheme = scheme hash cmp k t; tokens = tokens; index = index }

-- at most so many files are held
abbrev pub most_files : ℕ
most_files = 64

abbrev pub numbers : Files → List ℕ
numbers fs = map (λ f. f.0) fs

-- the source's fault, or else why not all of its chosen places can be indexed
abbrev pub ending_refusal : Option Fault → Option Refusal → Option Refusal
ending_refusal None r = r
ending_refusal (Some f) r = Some (handed_on f)

module _ {V : Type 0} (st : Setting V) where
  -- why an Add is refused, if it is; the first condition that is met
  abbrev pub add_refusal : Files → ℕ → List Token → Option Fault → ℕ → Option Refusal
  add_refusal fs n ts e work =
      cond (n == 0) (Some (plain NumberZero))
      (cond (known n fs) (Some (plain NumberHeld))
      (cond (nat_le most_files (length fs)) (Some (plain TooManyFiles))
      (cond (nat_lt work (width st.scheme)) (Some (plain WorkShort))
      (cond (nat_lt (st.tokens - length (held_tokens fs)) (length ts)) (Some (plain TokensFull))
      (ending_refusal e (cond (nat_lt (st.index - print_count st.scheme fs) (length (print_list st.scheme ts))) (Some (plain IndexFull)) None))))))

abbrev pub unless : {X : Type 0} → Option Refusal → X → Result X Refusal
unless None x = Ok x
unless (Some r) x = Err r

-- x where nothing is refused, else y
abbrev pub granted : {X : Type 0} → Option Refusal → X → X → X
granted None x y = x
granted (Some r) x y = y

-- a list of n entries with these first, and zeros after them
abbrev pub padded : {X : Type 0} → List X → ℕ → X → List X
padded xs n zero = xs ++ replicate (n - length xs) zero

-- the outcome of a Report with these passages and counts into a list of so many entries
abbrev pub report_outcome : Bool → List Passage → ℕ → ℕ → ℕ → Outcome
report_outcome is_held ps pairs differ room =
    cond is_held
    (cond (nat_le (length ps) room) (reported (Ok (record { passages = length ps; pairs = pairs; differing = differ })) (padded ps room no_passage))
    (reported (Err (plain ReportFull)) (replicate room no_passage)))
    (reported (Err (plain ReportUnheld)) (replicate room no_passage))

-- the same from the pairs of the file with the others
abbrev pub pairs_outcome : {V : Type 0} → Bool → ℕ → Files → List (Fingerprint V × Fingerprint V) → ℕ → Outcome
pairs_outcome is_held k fs ps room = report_outcome is_held (gathered by_eight (marked k fs ps)) (length ps) (differing k fs ps) room

module _ {V : Type 0} (st : Setting V) where
  abbrev pub answer : Files → Asked → Outcome
  answer fs (add n ts e work) = added (unless (add_refusal st fs n ts e work) (record { tokens = length ts; prints = length (print_list st.scheme ts) }))
  answer fs (remove n) = removed (cond (known n fs) (Ok tt) (Err (plain RemoveUnheld)))
  answer fs (held room) =
      cond (nat_le (length fs) room) (listed (Ok (length fs)) (padded (numbers fs) room 0)) (listed (Err (plain HeldShort)) (replicate room 0))
  answer fs (report n room) =
      report_outcome (known n fs) (passages_of st.scheme fs n) (length (pairs_of st.scheme fs n)) (differing st.scheme.k fs (pairs_of st.scheme fs n)) room

  -- the files that are held after a call
  abbrev pub after : Files → Asked → Files
  after fs (add n ts e work) = granted (add_refusal st fs n ts e work) (fs ++ (n, ts) ∷ []) fs
  after fs (remove n) = without n fs
  after fs (held room) = fs
  after fs (report n room) = fs

  -- and after any list of calls
  abbrev pub held_after : Files → List Asked → Files
  held_after fs [] = fs
  held_after fs (c ∷ cs) = held_after (after fs c) cs

  abbrev pub outcomes : Files → List Asked → List Outcome
  outcomes fs [] = []
  outcomes fs (c ∷ cs) = answer fs c ∷ outcomes (after fs c) cs
