use Rattle.std.proofs.Common.{refl}
use Rattle.pages.proofs.worked.program_cases.Goals as goal

pub returns : goal.returns
returns c = record { left = refl; right = refl }
