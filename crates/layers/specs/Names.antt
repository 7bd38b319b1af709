-- Names: a token that begins a name and the further ones directly after it become one token.
use Rattle.std.specs.Prelude.{ℕ, ◌+◌, Bool, true, false, cond, ◌&&◌, List, [], ◌∷◌, Some, Option, nat_lt}
use Rattle.std.specs.List.{prefix_len}
use Rattle.tokens.specs.declared.token.Class.TheVariants.{NameFirst, NameFurther, Made}
use Rattle.tokens.specs.declared.token.Cause.TheVariants.{LongName}
use Rattle.tokens.specs.declared.token.Token.{Token}
use Rattle.tokens.specs.declared.token.Fault.{Fault}
use Rattle.tokens.specs.Tokens.{class_number}
use Rattle.layers.specs.Layers.{has_class}

abbrev pub starts_name : Token → Bool
starts_name t = has_class (class_number NameFirst) t

abbrev pub goes_on : Token → Bool
goes_on t = has_class (class_number NameFurther) t

-- a token that starts a name, followed by these, starts one of more than 255 tokens
abbrev pub too_many : List Token → Bool
too_many after = nat_lt 255 (1 + prefix_len goes_on after)

-- where a name ends that has come to `to`
abbrev pub name_end : ℕ → List Token → ℕ
name_end to [] = to
name_end to (t ∷ ts) = cond (goes_on t) (name_end t.to ts) to

-- the token that stands for the name which t starts
abbrev pub whole_name : Token → List Token → Token
whole_name t after = record { code = 300; class = Made; from = t.from; to = name_end t.to after }

-- the list with each name as one token, up to the first name that is too long; `inside` says whether the token before
-- the list belongs to a name, so that the tokens that go on at its front do too
abbrev pub named_after : Bool → List Token → List Token
named_after inside [] = []
named_after inside (t ∷ ts) =
    cond (starts_name t) (cond (too_many ts) [] (whole_name t ts ∷ named_after true ts))
    (cond (inside && goes_on t) (named_after true ts) (t ∷ named_after false ts))

abbrev pub named : List Token → List Token
named ts = named_after false ts

abbrev pub long_name : ℕ → Token → Fault
long_name depth t = record { cause = LongName; place = t.from; depth = depth }

-- how the list ends: with the first name that is too long, found at that depth, or as the list below
abbrev pub named_ending : ℕ → List Token → Option Fault → Option Fault
named_ending depth [] e = e
named_ending depth (t ∷ ts) e = cond (starts_name t && too_many ts) (Some (long_name depth t)) (named_ending depth ts e)
