use Rattle.std.proofs.Common.{rules}
use Rattle.tokens.proofs.Placing.{placed_left}
use Rattle.tokens.proofs.collecting.CollectedSource.next.Goals as goal

pub invariant_of-self-clause-placed : goal.invariant_of-self-clause-placed
invariant_of-self-clause-placed c = search (rules, placed_left, c.args.self.now.placed)
