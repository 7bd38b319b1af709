-- The held files: what holds of them, what Held answers, and that only they count. Assumes nothing.
use Rattle.std.specs.Prelude.{◌≡◌, ℕ, ◌<◌, ◌≤◌, false, List, [], ◌∷◌, ◌++◌, map, length, replicate, None, Ok, Err}
use Rattle.std.specs.List.Sorted.{IsPermutation}
use Rattle.order.specs.Listed.{In}
use Rattle.tokens.specs.declared.token.Token.{Token}
use Rattle.runs.specs.Passages.{Scheme, width, print_list}
use Rattle.model.specs.declared.refusal.Reason.TheVariants.{HeldShort}
use Rattle.model.specs.Calls.{Asked, add, report, Outcome, added, listed, Setting, most_files, padded, answer, held_after, outcomes}
use Rattle.model.specs.Files.{File, Files, known, Distinct, held_tokens}
use Rattle.model.specs.Prints.{print_count}
use Rattle.model.specs.Refusals.{plain}
use Rattle.promises.specs.Counts.{EachOnce}

-- the files have numbers of their own, none is 0, and there is room for them
pub record Fits {V : Type 0} (st : Setting V) (fs : Files) : Type 0 where
  pub distinct : Distinct fs
  pub no_zero : known 0 fs ≡ false
  pub files : length fs ≤ most_files
  pub tokens : length (held_tokens fs) ≤ st.tokens
  pub prints : print_count st.scheme fs ≤ st.index

-- ---- Held

-- the numbers of exactly the held files, each once, then zeros, and how many they are
pub record AllTold (fs : Files) (room : ℕ) (o : Outcome) : Type 0 where
  pub ns : List ℕ
  pub only : (n : ℕ) → In n ns → (ts : List Token) × In (n, ts) fs
  pub every : (n : ℕ) (ts : List Token) → In (n, ts) fs → In n ns
  pub once : EachOnce ns
  pub is : o ≡ listed (Ok (length ns)) (padded ns room 0)

-- what Held answers into a list of `room` entries: it is refused exactly if they are too few, and then all are zeros
pub record HeldTold (fs : Files) (room : ℕ) (o : Outcome) : Type 0 where
  pub short : room < length fs → o ≡ listed (Err (plain HeldShort)) (replicate room 0)
  pub enough : length fs ≤ room → AllTold fs room o

-- ---- only the held files count

-- a call for each file, from a source that ends well after its tokens
abbrev pub adds : (File → ℕ) → Files → List Asked
adds work fs = map (λ f. add f.0 f.1 None (work f)) fs

-- all granted
abbrev pub all_added : {V : Type 0} → Scheme V → Files → List Outcome
all_added S fs = map (λ f. added (Ok (record { tokens = length f.1; prints = length (print_list S f.1) }))) fs

-- a library opened afresh, to which only the files gs are added: each is granted, they are held, and every report is as where fs are held
pub record Anew {V : Type 0} (st : Setting V) (fs gs : Files) (work : File → ℕ) : Type 0 where
  pub held : held_after st [] (adds work gs) ≡ gs
  pub same : (n room : ℕ) → outcomes st [] (adds work gs ++ report n room ∷ []) ≡ all_added st.scheme gs ++ answer st fs (report n room) ∷ []

-- it is so for the files fs in any order, with work lists that are long enough
abbrev pub Fresh : {V : Type 0} → Setting V → Files → Type 0
Fresh st fs = (gs : Files) (work : File → ℕ) → IsPermutation fs gs → ((f : File) → width st.scheme ≤ work f) → Anew st fs gs work
