-- `modes::sets::engages_alt` meets its contract: a set shows law 4 where ALT is engaged.
use Rattle.std.proofs.Common.{arith}
use Rattle.std.proofs.lemmas.Bool.Decides.{nat_tests}
use Rattle.modes.proofs.Joins.{alt_shown}
use Rattle.modes.proofs.sets.engages_alt.Goals as goal

pub returns-in-4 : goal.returns-in-4
returns-in-4 c = grind (arith, nat_tests, alt_shown c.args.s)

pub returns-in_default : goal.returns-in_default
returns-in_default c = grind (arith, nat_tests, alt_shown c.args.s)
