use Rattle.std.proofs.Common.{◌≡◌, List, ◌-◌, length, take, drop, replicate, rules}
use Rattle.tokens.specs.declared.token.Token.{Token}
use Rattle.runs.specs.Shares.{unused}
use Rattle.filling.proofs.Writes.{rest_filled}
use Rattle.filling.proofs.entries.wipe.Goals as goal

pub returns : goal.returns
returns c =
    let xs = c.args.tokens.now in
    let wiped : ◌≡◌ {A = List Token} c.fill.new.self (replicate (length (take (length xs - c.args.from) (drop c.args.from xs))) unused) = search rules in
    rest_filled xs c.fill.new.self c.args.from unused c.requires wiped
