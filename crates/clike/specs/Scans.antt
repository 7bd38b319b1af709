-- What the scans of `cut` answer.
use Rattle.std.specs.Prelude.{◌≡◌, ℕ, ◌+◌, Bool, cond, List, length, Ok, Err, Result}
use Rattle.clike.specs.declared.scan.Run.{Run}
use Rattle.clike.specs.declared.scan.Run.TheVariants.{Word, Number, Line}
use Rattle.clike.specs.Lexemes.{in_word, in_number, in_line, closes, before_close}

-- each answer of a test to a byte is what p says of it
abbrev pub Computes : (ℕ → Bool → Type 0) → (ℕ → Bool) → Type 0
Computes Answers p = (b : ℕ) (r : Bool) → Answers b r → r ≡ p b

-- the bytes that a run goes on with
abbrev pub in_run : Run → ℕ → Bool
in_run Word b = in_word b
in_run Number b = in_number b
in_run Line b = in_line b

-- `Ok` behind the first `*/`, or `Err` where the bytes end with none
abbrev pub comment_end : List ℕ → Result ℕ ℕ
comment_end body = cond (closes body) (Ok (before_close body + 2)) (Err (length body))

abbrev pub end_size : Result ℕ ℕ → ℕ
end_size (Ok n) = n
end_size (Err n) = n
