-- What the layer Names stands for, by its state.
use Rattle.std.specs.Prelude.{ℕ, Bool, cond, ◌&&◌, List, [], ◌∷◌, ◌++◌, Some, None, Option, nat_le}
use Rattle.tokens.specs.declared.token.Token.{Token}
use Rattle.tokens.specs.declared.token.Fault.{Fault}
use Rattle.layers.specs.declared.names.Names.{Names}
use Rattle.tokens.specs.Tokens.{sound}
use Rattle.layers.specs.Layers.{deeper}
use Rattle.layers.specs.Onwards.{onward}
use Rattle.layers.specs.Names.{named, named_ending}

-- a token read ahead counts if its numbers are in range and it ends where the source below has come to or before
abbrev pub fits_before : ℕ → Token → Bool
fits_before reached t = sound t && nat_le t.to reached

abbrev pub ahead : ℕ → Option Token → List Token
ahead reached None = []
ahead reached (Some t) = cond (fits_before reached t) (t ∷ []) []

-- the tokens of the list below that are still to be looked at, with the one that was read ahead
abbrev pub pending : {S : Type 0} → (S → List Token) → Names S → List Token
pending tokens s = ahead s.below.reached s.held ++ onward s.below.reached (tokens s.below.below)

abbrev pub unless_stopped : {X : Type 0} → Option Fault → X → X → X
unless_stopped None going stopped = going
unless_stopped (Some f) going stopped = stopped

abbrev pub names_left : {S : Type 0} → (S → List Token) → Names S → List Token
names_left tokens s = unless_stopped s.stopped (named (pending tokens s)) []

abbrev pub names_ending : {S : Type 0} → (S → List Token) → (S → Option Fault) → (S → ℕ) → Names S → Option Fault
names_ending tokens ending depth s =
    unless_stopped s.stopped (named_ending (deeper (depth s.below.below)) (pending tokens s) (ending s.below.below)) s.stopped
