-- `changes::clear_lappr` meets its contract: where LAPPR is engaged, the rule engages ROLL; VAPPR it clears anyway.
use Rattle.changes.proofs.Joins.{lateral_is, lateral_not, lappr_cleared}
use Rattle.changes.proofs.clear_lappr.Goals as goal

pub returns-in-Lappr : goal.returns-in-Lappr
returns-in-Lappr c = rw (c.armed_unless-armed.ensures, c.arms_lappr.ensures, c.clear_vappr.ensures) (lappr_cleared _ _ (lateral_is c.in-Lappr.is))

pub returns-in_default : goal.returns-in_default
returns-in_default c = rw (c.armed_unless-armed.ensures, c.arms_lappr.ensures, c.clear_vappr-in_default.ensures) (lappr_cleared _ _ (lateral_not c.in_default.not-Lappr))
