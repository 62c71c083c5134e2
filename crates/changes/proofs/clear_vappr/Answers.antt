-- `changes::clear_vappr` meets its contract: where VAPPR is engaged, the rule engages PITCH.
use Rattle.changes.proofs.Joins.{vertical_is, vertical_not, vappr_cleared}
use Rattle.changes.proofs.clear_vappr.Goals as goal

pub returns-in-Vappr : goal.returns-in-Vappr
returns-in-Vappr c = vappr_cleared _ _ (vertical_is c.in-Vappr.is)

pub returns-in_default : goal.returns-in_default
returns-in_default c = vappr_cleared _ _ (vertical_not c.in_default.not-Vappr)
