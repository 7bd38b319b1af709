use Rattle.std.proofs.Common.{rules}
use Rattle.std.proofs.lemmas.Fn.{always_returns_same}
use Rattle.ordered.proofs.search.upper_bound.Goals as goal

pub returns : goal.returns
returns g c = c.cut.ensures _ (always_returns_same _ _ _ (λ a r f k. search rules))
