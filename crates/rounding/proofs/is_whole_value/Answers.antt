-- `rounding::is_whole_value` meets its contract, since the number that is added is even, and is more than 2 ^ 31 away from 2 ^ 52 and
-- from 2 ^ 53 (`proofs/Sums.antt`). Assumes nothing.
use Rattle.std.proofs.Common.{◌∙◌, refl, ap, arith, w32}
use Rattle.std.specs.Float.{binary64}
use Rattle.std.specs.Float.Ieee.{of_bits, of_int}
use Rattle.std.proofs.lemmas.Int.{to_z-of_z}
use Rattle.rounding.proofs.Sums.{sums}
use Rattle.rounding.proofs.is_whole_value.Goals as goal

pub returns : goal.returns
unfolding of_bits
returns c =
    sums _ (omega arith) (omega arith) (omega arith) _ _ _ refl refl c.args.x c.from.result c.args.z c.ranges.z
    (c.from.ensures ∙ ap (of_int binary64) (to_z-of_z w32 c.args.z c.ranges.z))
