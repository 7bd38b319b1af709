-- What is read of a file, from a place on.
use Rattle.std.specs.Prelude.{ℕ, ◌+◌, Bool, cond, not, List, length, drop, Some, None, Option, ◌==◌, nat_lt}
use Rattle.std.specs.List.{prefix_len}
use Rattle.tokens.specs.declared.token.Cause.{Cause}
use Rattle.tokens.specs.declared.token.Cause.TheVariants.{TooLong, ZeroByte}
use Rattle.tokens.specs.declared.token.Fault.{Fault}
use Rattle.tokens.specs.Tokens.{limit}

abbrev pub nonzero : ℕ → Bool
nonzero b = not (b == 0)

abbrev pub too_long : List ℕ → Bool
too_long file = nat_lt limit (length file)

-- how many bytes are read from place i on: those before the next zero byte, and none of a file over the limit
abbrev pub readable : List ℕ → ℕ → ℕ
readable file i = cond (too_long file) 0 (prefix_len nonzero (drop i file))

-- a fault found in the file itself, below every layer
abbrev pub file_fault : Cause → ℕ → Fault
file_fault c p = record { cause = c; place = p; depth = 0 }

-- how reading from place i on ends: a file over the limit in a fault, and one with a zero byte in a fault there
abbrev pub text_ending : List ℕ → ℕ → Option Fault
text_ending file i =
    let end = i + readable file i in
    cond (too_long file) (Some (file_fault TooLong 0)) (cond (nat_lt end (length file)) (Some (file_fault ZeroByte end)) None)
