-- Small cases worked out by hand, as a check of the definitions.
use Rattle.std.specs.Prelude.{◌≡◌, ℕ, [], ◌∷◌, None, codes}
use Rattle.tokens.specs.declared.token.Class.{Class}
use Rattle.tokens.specs.declared.token.Class.TheVariants.{NameFirst}
use Rattle.tokens.specs.declared.token.Token.{Token}
use Rattle.piles.specs.declared.pile.Reader.TheVariants.{Prose}
use Rattle.piles.specs.declared.pile.Layer.TheVariants.{Case, Drop}
use Rattle.piles.specs.Piles.{read_as, piled}
use Rattle.clike.specs.Worked.{WorkedCases as ClikeCases}
use Rattle.prints.specs.Worked.{Worked as PrintCases}

abbrev token : ℕ → Class → ℕ → ℕ → Token
token c k f t = record { code = c; class = k; from = f; to = t }

-- the prose "A b" without its blanks, in small letters
abbrev pub PlainText : Type 0
PlainText =
    piled (Drop 1 ∷ Case ∷ []) (read_as Prose (codes "A b"))
    ≡ record { tokens = token 97 NameFirst 0 1 ∷ token 98 NameFirst 2 3 ∷ []; ending = None; depth = 2 }

-- all cases together: the text above, two C-like texts, hash values, and chosen places
abbrev pub Worked : Type 0
Worked = PlainText × ClikeCases × PrintCases
