use Rattle.std.proofs.Common.{rules}
use Rattle.std.proofs.lemmas.Fn.{always_returns_same}
use Rattle.ordered_tests.proofs.index.Index+Entry+V.remove_file.Goals as goal

pub returns : goal.returns
returns g c = c.remove_all.ensures.thinned _ (always_returns_same _ _ _ (λ a r f k. search rules))
