-- The page that shows what two files share. Assumes nothing.
use Rattle.std.specs.Prelude.{ℕ, Bool, true, cond, ◌||◌, List, [], ◌∷◌, ◌++◌, length, take, Some, None, Ok, Err, Option, nat_lt}
use Rattle.std.specs.List.{flat_map}
use Rattle.tokens.specs.declared.token.Fault.{Fault}
use Rattle.tokens.specs.declared.token.Token.{Token}
use Rattle.tokens.specs.Texts.{text_ending}
use Rattle.tokens.specs.Proses.{prose_tokens}
use Rattle.layers.specs.Layers.{lowered, without}
use Rattle.prints.specs.Hashes.{polynomial}
use Rattle.columns.specs.Columns.{row}
use Rattle.model.specs.declared.answers.Reported.{Reported}
use Rattle.model.specs.declared.passage.Passage.{Passage}
use Rattle.model.specs.declared.refusal.Reason.TheVariants.{FileUnread}
use Rattle.model.specs.declared.refusal.Refusal.{Refusal}
use Rattle.model.specs.Refusals.{plain, reason_number}
use Rattle.model.specs.Calls.{Setting, Asked, add, report, Outcome, added, removed, listed, reported, outcomes}
use Rattle.library.specs.Running.{setting_over}
use Rattle.std.specs.Ordering.{nat_cmp}

-- ---- the library and its calls

-- a file is read as prose, without blanks and with small letters
abbrev pub file_tokens : List ℕ → List Token
file_tokens file = lowered (without 1 (prose_tokens file))

abbrev pub file_ending : List ℕ → Option Fault
file_ending file = text_ending file 0

-- polynomial values of 3 tokens, no run of 5 missed, lists of 4096 entries
abbrev pub plan : Setting ℕ
plan = setting_over polynomial nat_cmp 3 5 4096 4096

-- the files are added as 1 and 2, with work lists of 3 entries, and 1 is reported into 256 entries
abbrev pub calls : List ℕ → List ℕ → List Asked
calls left right = add 1 (file_tokens left) (file_ending left) 3 ∷ add 2 (file_tokens right) (file_ending right) 3 ∷ report 1 256 ∷ []

-- ---- the page

abbrev pub columns : ℕ
columns = 12

abbrev pub refusal_line : Refusal → List ℕ
refusal_line e = row columns (0 ∷ reason_number e.reason ∷ e.place ∷ e.depth ∷ [])

abbrev pub counts_line : Reported → List ℕ
counts_line r = row columns (1 ∷ r.passages ∷ r.pairs ∷ r.differing ∷ [])

abbrev pub passage_line : Passage → List ℕ
passage_line x = row columns (x.other ∷ x.left ∷ x.right ∷ x.len ∷ x.here.from ∷ x.here.to ∷ x.there.from ∷ x.there.to ∷ [])

-- the first refusal is all; a report has a line of its counts, and one for each passage
abbrev pub lines : List Outcome → List ℕ
lines [] = []
lines (added (Ok a) ∷ os) = lines os
lines (added (Err e) ∷ os) = refusal_line e
lines (removed (Ok a) ∷ os) = lines os
lines (removed (Err e) ∷ os) = refusal_line e
lines (listed (Ok n) ns ∷ os) = lines os
lines (listed (Err e) ns ∷ os) = refusal_line e
lines (reported (Ok r) ps ∷ os) = counts_line r ++ flat_map passage_line (take r.passages ps)
lines (reported (Err e) ps ∷ os) = refusal_line e

-- a file of more bytes than this is not read
abbrev pub most_bytes : ℕ
most_bytes = 2048

abbrev pub unread : Option (List ℕ) → Bool
unread None = true
unread (Some file) = nat_lt most_bytes (length file)

abbrev pub bytes : Option (List ℕ) → List ℕ
bytes None = []
bytes (Some file) = file

-- the page of two files, each of which may be missing
abbrev pub page : Option (List ℕ) → Option (List ℕ) → List ℕ
page left right = cond (unread left || unread right) (refusal_line (plain FileUnread)) (lines (outcomes plan [] (calls (bytes left) (bytes right))))
