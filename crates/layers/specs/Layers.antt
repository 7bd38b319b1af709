-- What each layer makes of the list below it.
use Rattle.std.specs.Prelude.{ℕ, ◌+◌, min, Bool, cond, not, List, map, filter, ◌==◌}
use Rattle.tokens.specs.declared.token.Token.{Token}
use Rattle.tokens.specs.Bytes.{between}
use Rattle.tokens.specs.Tokens.{class_number}

-- the depth of a layer over a source of depth d
abbrev pub deeper : ℕ → ℕ
deeper d = min 255 (d + 1)

-- ---- Case

-- the small letter of a capital
abbrev pub small : ℕ → ℕ
small code = cond (between 65 90 code) (code + 32) code

abbrev pub small_token : Token → Token
small_token t = record { code = small t.code; class = t.class; from = t.from; to = t.to }

abbrev pub lowered : List Token → List Token
lowered ts = map small_token ts

-- ---- Drop

abbrev pub has_class : ℕ → Token → Bool
has_class class t = class_number t.class == class

abbrev pub without : ℕ → List Token → List Token
without class ts = filter (λ t. not (has_class class t)) ts
