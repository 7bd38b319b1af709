-- What a report looks at. Assumes nothing.
use Rattle.model.specs.Files.{Files}
use Rattle.model.specs.Tables.{cut}
use Rattle.pairing.specs.declared.held.HeldFiles.{HeldFiles}
use Rattle.pairing.specs.declared.scope.Scope.{Scope}

-- the held files, with their tokens
abbrev pub held_files : HeldFiles → Files
held_files h = cut h.table.now h.tokens.now

abbrev pub files : Scope → Files
files s = held_files s.held
