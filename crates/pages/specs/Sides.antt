-- A file as the program reads it. Assumes nothing.
use Rattle.std.specs.Prelude.{List, Option}
use Rattle.tokens.specs.declared.prose.Prose.{Prose}
use Rattle.tokens.specs.declared.token.Fault.{Fault}
use Rattle.tokens.specs.declared.token.Token.{Token}
use Rattle.tokens.specs.Proses.{prose_from}
use Rattle.tokens.specs.Texts.{text_ending}
use Rattle.layers.specs.declared.case.Case.{Case}
use Rattle.layers.specs.declared.dropping.DropClass.{DropClass}
use Rattle.layers.specs.Layers.{lowered, without}

-- what is to come of it, and how it ends
abbrev pub side_tokens : Case (DropClass Prose) → List Token
side_tokens s = lowered (without s.below.class (prose_from s.below.below.file.now s.below.below.at))

abbrev pub side_ending : Case (DropClass Prose) → Option Fault
side_ending s = text_ending s.below.below.file.now s.below.below.at
