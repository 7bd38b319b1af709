use Rattle.std.proofs.Common.{arith, sym}
use Rattle.columns.proofs.Steps.{length_digit, length_power}
use Rattle.columns.proofs.digit_count.Goals as goal

pub returns-in-None-clause-count : goal.returns-in-None-clause-count
returns-in-None-clause-count c = sym (length_digit c.args.n (omega (arith, c.in-None.ensures.none)))

pub returns-in-Some-clause-count : goal.returns-in-Some-clause-count
returns-in-Some-clause-count c = sym (length_power c.in-Some.power c.args.n c.in-Some.ensures.power_le c.in-Some.ensures.next_power_gt c.ranges.n.fits)
