-- `modes::sets::engages_flc` meets its contract: a set shows law 3 where FLC is engaged.
use Rattle.std.proofs.Common.{arith}
use Rattle.std.proofs.lemmas.Bool.Decides.{nat_tests}
use Rattle.modes.proofs.Joins.{flc_shown}
use Rattle.modes.proofs.sets.engages_flc.Goals as goal

pub returns-in-3 : goal.returns-in-3
returns-in-3 c = grind (arith, nat_tests, flc_shown c.args.s)

pub returns-in_default : goal.returns-in_default
returns-in_default c = grind (arith, nat_tests, flc_shown c.args.s)
