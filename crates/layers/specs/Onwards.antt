-- A source with the place that it has reached.
use Rattle.std.specs.Prelude.{ℕ, List, Some, None, Ok, Err, filter, Option, Result, nat_le}
use Rattle.tokens.specs.declared.token.Token.{Token}
use Rattle.tokens.specs.declared.token.Fault.{Fault}

-- the tokens that begin at p or later
abbrev pub onward : ℕ → List Token → List Token
onward p ts = filter (λ t. nat_le p t.from) ts

-- the place reached after an answer: the end of the token, or the place before where there was none
abbrev pub reached_by : Result (Option Token) Fault → ℕ → ℕ
reached_by (Ok (Some t)) p = t.to
reached_by (Ok None) p = p
reached_by (Err f) p = p
