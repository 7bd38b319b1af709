use Rattle.tokens.proofs.Placing.{placed_means}
use Rattle.tokens.proofs.collecting.CollectedSource.lawful.Goals as goal

pub returns : goal.returns
returns c = let self = c.args.self.now in record { placed = placed_means 0 _ self.placed; shallow = self.shallow }
