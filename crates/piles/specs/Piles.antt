-- What a pile of layers makes of a file.
use Rattle.std.specs.Prelude.{ℕ, List, [], ◌∷◌, Option}
use Rattle.tokens.specs.declared.token.Token.{Token}
use Rattle.tokens.specs.declared.token.Fault.{Fault}
use Rattle.tokens.specs.declared.collected.Collected.{Collected}
use Rattle.tokens.specs.Texts.{text_ending}
use Rattle.tokens.specs.Proses.{prose_tokens}
use Rattle.clike.specs.Texts.{text_read}
use Rattle.clike.specs.Clikes.{clike_tokens, clike_ending}
use Rattle.layers.specs.Layers.{deeper, lowered, without}
use Rattle.layers.specs.Names.{named, named_ending}
use Rattle.tokens.specs.Collecting.{collected_left}
use Rattle.piles.specs.declared.pile.Reader.{Reader}
use Rattle.piles.specs.declared.pile.Reader.TheVariants.{Prose, Clike}
use Rattle.piles.specs.declared.pile.Layer.{Layer}
use Rattle.piles.specs.declared.pile.Layer.TheVariants.{Case, Drop, Names}

-- what a source stands for
pub record Stream : Type 0 where
  pub tokens : List Token
  pub ending : Option Fault
  pub depth : ℕ

abbrev pub stream : Collected → Stream
stream c = record { tokens = collected_left c; ending = c.ending; depth = c.depth }

-- a file as its reader reads it
abbrev pub read_as : Reader → List ℕ → Stream
read_as Prose file = record { tokens = prose_tokens file; ending = text_ending file 0; depth = 0 }
read_as Clike file = record { tokens = clike_tokens (text_read file); ending = clike_ending file; depth = 0 }

-- a layer over what is below it
abbrev pub put_on : Layer → Stream → Stream
put_on Case s = record { tokens = lowered s.tokens; ending = s.ending; depth = deeper s.depth }
put_on (Drop class) s = record { tokens = without class s.tokens; ending = s.ending; depth = deeper s.depth }
put_on Names s = record { tokens = named s.tokens; ending = named_ending (deeper s.depth) s.tokens s.ending; depth = deeper s.depth }

-- the layers in their order, the first one lowest
abbrev pub piled : List Layer → Stream → Stream
piled [] s = s
piled (l ∷ ls) s = piled ls (put_on l s)
