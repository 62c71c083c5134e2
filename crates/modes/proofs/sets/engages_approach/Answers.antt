-- `modes::sets::engages_approach` meets its contract: a set shows law 4 where LAPPR is engaged and law 7 where VAPPR is.
use Rattle.std.proofs.Common.{arith}
use Rattle.std.proofs.lemmas.Bool.Decides.{nat_tests}
use Rattle.modes.proofs.Joins.{approach_shown}
use Rattle.modes.proofs.sets.engages_approach.Goals as goal

pub returns-in-4-eq7 : goal.returns-in-4-eq7
returns-in-4-eq7 c = grind (arith, nat_tests, approach_shown c.args.s)

pub returns-in_default : goal.returns-in_default
returns-in_default c = grind (arith, nat_tests, approach_shown c.args.s)

pub returns-in_default-2 : goal.returns-in_default-2
returns-in_default-2 c = grind (arith, nat_tests, approach_shown c.args.s)
