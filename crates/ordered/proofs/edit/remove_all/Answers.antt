use Rattle.std.proofs.Common.{rules}
use Rattle.std.proofs.lemmas.Fn.{always_returns_same}
use Rattle.ordered.proofs.edit.remove_all.Goals as goal

pub returns : goal.returns
returns g c = c.remove_where.ensures.thinned _ (always_returns_same _ _ _ (λ a r f k. search rules))
