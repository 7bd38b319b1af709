-- The tokens of prose: one a byte.
use Rattle.std.specs.Prelude.{ℕ, zero, suc, ◌+◌, Bool, true, cond, not, List, map, slice_index}
use Rattle.std.specs.List.{range_with_len}
use Rattle.tokens.specs.declared.token.Class.{Class}
use Rattle.tokens.specs.declared.token.Class.TheVariants.{Blank, NameFirst, NameFurther, NumberFirst, NumberFurther, Mark}
use Rattle.tokens.specs.declared.token.Token.{Token}
use Rattle.tokens.specs.Texts.{readable}
use Rattle.tokens.specs.Bytes.{is_blank, is_letter, is_digit}

-- no byte that passes the test stands right before place i
abbrev pub begins : (ℕ → Bool) → List ℕ → ℕ → Bool
begins test file zero = true
begins test file (suc i) = not (test (slice_index file i))

-- the class of the byte at place i: the first letter of a run of letters begins a name, the first digit of a run of digits a number
abbrev pub prose_class : List ℕ → ℕ → Class
prose_class file i =
    let b = slice_index file i in
    cond (is_blank b) Blank
    (cond (is_letter b) (cond (begins is_letter file i) NameFirst NameFurther)
    (cond (is_digit b) (cond (begins is_digit file i) NumberFirst NumberFurther)
    Mark))

abbrev pub prose_token : List ℕ → ℕ → Token
prose_token file i = record { code = slice_index file i; class = prose_class file i; from = i; to = i + 1 }

-- the tokens from place i on
abbrev pub prose_from : List ℕ → ℕ → List Token
prose_from file i = map (prose_token file) (range_with_len i (readable file i))

abbrev pub prose_tokens : List ℕ → List Token
prose_tokens file = prose_from file 0
