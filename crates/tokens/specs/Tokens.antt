-- What tokens are, when two are the same, and what the list of a source looks like.
use Rattle.std.specs.Prelude.{ℕ, ◌<◌, ◌≤◌, Bool, true, ◌&&◌, List, [], ◌∷◌, Some, None, Ok, Err, Option, Result, ◌==◌, nat_le, nat_lt}
use Rattle.tokens.specs.declared.token.Class.{Class}
use Rattle.tokens.specs.declared.token.Class.TheVariants.{Unused, Blank, NameFirst, NameFurther, Keyword, NumberFirst, NumberFurther, Mark, Quoted, Comment, Made}
use Rattle.tokens.specs.declared.token.Cause.{Cause}
use Rattle.tokens.specs.declared.token.Cause.TheVariants.{TooLong, ZeroByte, OpenComment, LongName, Fifth, Sixth, Seventh, Eighth, Ninth}
use Rattle.tokens.specs.declared.token.Token.{Token}
use Rattle.tokens.specs.declared.token.Fault.{Fault}

-- the largest file, in bytes
abbrev pub limit : ℕ
limit = 1048576

-- the numbers of the classes
abbrev pub class_number : Class → ℕ
class_number Unused = 0
class_number Blank = 1
class_number NameFirst = 2
class_number NameFurther = 3
class_number Keyword = 4
class_number NumberFirst = 5
class_number NumberFurther = 6
class_number Mark = 7
class_number Quoted = 8
class_number Comment = 9
class_number Made = 10

-- the numbers of the causes
abbrev pub cause_number : Cause → ℕ
cause_number TooLong = 1
cause_number ZeroByte = 2
cause_number OpenComment = 3
cause_number LongName = 4
cause_number Fifth = 5
cause_number Sixth = 6
cause_number Seventh = 7
cause_number Eighth = 8
cause_number Ninth = 9

-- Two tokens are the same exactly when their codes are.
unfoldable pub same : Token → Token → Bool
same a b = a.code == b.code

-- a token's numbers are in range, and it covers a byte or more of a file
pub record Sound (t : Token) : Type 0 where
  pub code_from : 1 ≤ t.code
  pub code_to : t.code ≤ 1023
  pub class_from : 1 ≤ class_number t.class
  pub covers : t.from < t.to
  pub within : t.to ≤ limit

-- the same as a test
abbrev pub sound : Token → Bool
sound t = (nat_le 1 t.code && nat_le t.code 1023) && (nat_le 1 (class_number t.class) && (nat_lt t.from t.to && nat_le t.to limit))

-- each token is sound and begins at or after the end of the one before it, the first at or after `at`
abbrev pub PlacedFrom : ℕ → List Token → Type 0
PlacedFrom at [] = Unit {0}
PlacedFrom at (t ∷ ts) = Sound t × (at ≤ t.from) × PlacedFrom t.to ts

abbrev pub Placed : List Token → Type 0
Placed ts = PlacedFrom 0 ts

-- the same as a test
abbrev pub placed_from : ℕ → List Token → Bool
placed_from at [] = true
placed_from at (t ∷ ts) = sound t && (nat_le at t.from && placed_from t.to ts)

-- what a source with these tokens to come, and this ending, answers next
abbrev pub first : List Token → Option Fault → Result (Option Token) Fault
first [] None = Ok None
first [] (Some f) = Err f
first (t ∷ ts) e = Ok (Some t)

-- and the tokens that are to come then
abbrev pub rest : List Token → List Token
rest [] = []
rest (t ∷ ts) = ts
