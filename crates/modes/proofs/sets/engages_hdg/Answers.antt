-- `modes::sets::engages_hdg` meets its contract: a set shows law 2 where HDG is engaged.
use Rattle.std.proofs.Common.{arith}
use Rattle.std.proofs.lemmas.Bool.Decides.{nat_tests}
use Rattle.modes.proofs.Joins.{hdg_shown}
use Rattle.modes.proofs.sets.engages_hdg.Goals as goal

pub returns-in-2 : goal.returns-in-2
returns-in-2 c = grind (arith, nat_tests, hdg_shown c.args.s)

pub returns-in_default : goal.returns-in_default
returns-in_default c = grind (arith, nat_tests, hdg_shown c.args.s)
