-- A file taken into a store, part by part. Assumes nothing.
use Rattle.std.specs.Prelude.{◌≡◌, ℕ, ◌+◌, ◌-◌, ◌≤◌, Bool, true, false, cond, ◌&&◌, List, ◌++◌, map, length, take, drop, Some, None, Ok, Err, Option, Result, ◌==◌, nat_le, nat_lt}
use Rattle.std.specs.declared.cmp.Ordering.{Ordering}
use Rattle.ordered.specs.Gathered.{AllIn}
use Rattle.tokens.specs.declared.token.Token.{Token}
use Rattle.tokens.specs.declared.token.Fault.{Fault}
use Rattle.prints.specs.declared.window.Placed.{Placed}
use Rattle.model.specs.declared.answers.Added.{Added}
use Rattle.model.specs.declared.fingerprint.Fingerprint.{Fingerprint}
use Rattle.model.specs.declared.refusal.Reason.TheVariants.{NumberZero, NumberHeld, TooManyFiles, WorkShort, TokensFull, IndexFull}
use Rattle.model.specs.declared.refusal.Refusal.{Refusal}
use Rattle.model.specs.Files.{Files, known}
use Rattle.model.specs.Prints.{by_fields, filed}
use Rattle.model.specs.Refusals.{reason_number, plain}
use Rattle.model.specs.Calls.{most_files, ending_refusal}
use Rattle.library.specs.declared.filed.Filed.{Filed}
use Rattle.library.specs.declared.filed.Taken.{Taken}

-- why an Add is refused before its source is read
abbrev pub admit_refusal : Files → ℕ → ℕ → ℕ → Option Refusal
admit_refusal fs n w work =
    cond (n == 0) (Some (plain NumberZero))
    (cond (known n fs) (Some (plain NumberHeld)) (cond (nat_le most_files (length fs)) (Some (plain TooManyFiles)) (cond (nat_lt work w) (Some (plain WorkShort)) None)))

-- and why once it is read: room is what is free of the token list, places what is free of the index
abbrev pub taking_refusal : ℕ → ℕ → List Token → Option Fault → ℕ → Option Refusal
taking_refusal room places ts e chosen =
    cond (nat_lt room (length ts)) (Some (plain TokensFull)) (ending_refusal e (cond (nat_lt places chosen) (Some (plain IndexFull)) None))

-- the index with these places of file `number` behind the first n entries
abbrev pub behind : {V : Type 0} → List (Fingerprint V) → ℕ → ℕ → List (Placed V) → List (Fingerprint V)
behind index n number ps = take n index ++ (map (filed number) ps ++ drop (length ps) (drop n index))

-- the chosen places ps of file `number` are put into an index of which n entries are used, or there is no room for them and nothing is changed
pub record Indexed {V : Type 0} (cmp : V → V → Ordering) (ps : List (Placed V)) (number n : ℕ) (before after : List (Fingerprint V)) (r : Result Filed Refusal) : Type 0 where
  pub refuses : nat_lt (length before - n) (length ps) ≡ true → (r ≡ Err (plain IndexFull)) × (after ≡ before)
  pub grants : nat_lt (length before - n) (length ps) ≡ false →
      (x : Filed) × (r ≡ Ok x) × (x.places ≡ length ps) × AllIn (by_fields cmp) (behind before n number ps) after n (length ps) x.used
  pub long : length after ≡ length before

-- the refusal came before the source was read
abbrev pub early : Result Added Refusal → Bool
early (Ok x) = false
early (Err e) = nat_le 21 (reason_number e.reason) && nat_le (reason_number e.reason) 24

-- then the work list is as it was
abbrev pub WorkKept : {X : Type 0} → Result Added Refusal → List X → List X → Type 0
WorkKept r before after = early r ≡ true → after ≡ before

-- the tokens ts of a file are read behind the first `used` tokens, and its chosen places ps are indexed, or neither the tokens before them
-- nor the index is changed
pub record TakenIn {V : Type 0} (cmp : V → V → Ordering) (number : ℕ) (ts : List Token) (e : Option Fault) (ps : List (Placed V))
    (used : ℕ) (tokens tokens' : List Token) (prints : ℕ) (index index' : List (Fingerprint V)) (r : Result Taken Refusal) : Type 0 where
  pub refuses : (why : Refusal) → taking_refusal (length tokens - used) (length index - prints) ts e (length ps) ≡ Some why → (r ≡ Err why) × (index' ≡ index)
  pub grants : taking_refusal (length tokens - used) (length index - prints) ts e (length ps) ≡ None →
      (x : Taken) × (r ≡ Ok x) × (x.len ≡ length ts) × (x.places ≡ length ps)
      × AllIn (by_fields cmp) (behind index prints number ps) index' prints (length ps) x.prints
      × (tokens' ≡ take used tokens ++ (ts ++ drop (length ts) (drop used tokens))) × (used + length ts ≤ length tokens) × (prints + length ps ≤ length index)
  pub front : take used tokens' ≡ take used tokens
  pub room : length tokens' ≡ length tokens
  pub places : length index' ≡ length index
