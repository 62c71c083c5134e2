-- `modes::sets::engages_vs` meets its contract: a set shows law 2 where VS is engaged.
use Rattle.std.proofs.Common.{arith}
use Rattle.std.proofs.lemmas.Bool.Decides.{nat_tests}
use Rattle.modes.proofs.Joins.{vs_shown}
use Rattle.modes.proofs.sets.engages_vs.Goals as goal

pub returns-in-2 : goal.returns-in-2
returns-in-2 c = grind (arith, nat_tests, vs_shown c.args.s)

pub returns-in_default : goal.returns-in_default
returns-in_default c = grind (arith, nat_tests, vs_shown c.args.s)
