use Rattle.clike.proofs.Lawful.{comments_end}
use Rattle.clike.proofs.laws.comments_end.Goals as goal

pub returns : goal.returns
returns c = comments_end
