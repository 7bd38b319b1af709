use Rattle.std.proofs.Common.{refl}
use Rattle.tokens.specs.Tokens.{same}
use Rattle.tokens.proofs.token.Token.same.Goals as goal

pub returns : goal.returns
unfolding same
returns c = refl
