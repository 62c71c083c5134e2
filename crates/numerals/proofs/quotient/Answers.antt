-- `numerals::quotient` meets its contract: both numbers are at most 2 ^ 53 and so exact, and a division rounds once (`division`). Assumes nothing.
use Rattle.std.proofs.Common.{◌^◌, arith}
use Rattle.numerals.proofs.Division.{division, power_above, power_below}
use Rattle.numerals.proofs.quotient.Goals as goal

pub returns : goal.returns
returns c =
    let k = power_below c.args.k c.requires.few_places in
    rw (c.nearest_u64_to_f64-below.ensures, c.nearest_u64_to_f64-above.ensures, c.pow.ensures)
    (division c.args.n (10 ^ c.args.k) (omega arith) (power_above c.args.k) (omega arith))
