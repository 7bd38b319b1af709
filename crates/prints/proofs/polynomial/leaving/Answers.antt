use Rattle.std.proofs.Common.{◌%◌, ◌<◌, ◌∙◌, arith}
use Rattle.std.proofs.lemmas.List.FromFn.{get_or-map-range_with_len}
use Rattle.prints.proofs.Weights.{factor_at, at_factor}
use Rattle.prints.proofs.polynomial.leaving.Goals as goal

-- the table holds the factors, all of them by one computation
pub returns : goal.returns
returns c lo hi =
    let at : c.args.k % 64 < 64 = omega arith in
    get_or-map-range_with_len factor_at 0 64 (c.args.k % 64) (c.args.k % 64) 0 at (omega arith) ∙ at_factor c.args.k lo hi
