use Rattle.std.proofs.Common.{arith}
use Rattle.tokens.proofs.bytes.are_bytes.Goals as goal

pub returns : goal.returns
returns c k = let fits = c.type_inv.file k in omega (arith, fits.fits)
