-- What a list of tokens in memory stands for.
use Rattle.std.specs.Prelude.{List}
use Rattle.std.specs.Vec.Iter.{into_iter_items}
use Rattle.tokens.specs.declared.token.Token.{Token}
use Rattle.tokens.specs.declared.collected.Collected.{Collected}

abbrev pub collected_left : Collected → List Token
collected_left s = into_iter_items s.list
