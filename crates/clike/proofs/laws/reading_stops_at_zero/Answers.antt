use Rattle.clike.proofs.Lawful.{reading_stops_at_zero}
use Rattle.clike.proofs.laws.reading_stops_at_zero.Goals as goal

pub returns : goal.returns
returns c = reading_stops_at_zero
