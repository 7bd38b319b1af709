use Rattle.prints.proofs.Winnowed.{no_window}
use Rattle.prints.proofs.no_window.Goals as goal

pub returns : goal.returns
returns g c = no_window _
