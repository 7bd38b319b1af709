use Rattle.std.proofs.Common.{arith}
use Rattle.tokens.proofs.Proses.{prose_placed}
use Rattle.tokens.proofs.prose.ProseSource.lawful.Goals as goal

pub returns : goal.returns
returns c = record { placed = prose_placed c.args.self.now.file.now c.args.self.now.at c.args.self.now.bytes; shallow = omega arith }
