-- `changes::clear_nav` meets its contract: where NAV is engaged, the rule engages ROLL.
use Rattle.changes.proofs.Joins.{lateral_is, lateral_not, nav_cleared}
use Rattle.changes.proofs.clear_nav.Goals as goal

pub returns-in-Nav : goal.returns-in-Nav
returns-in-Nav c = rw (c.armed_unless-armed.ensures, c.arms_nav.ensures) (nav_cleared _ _ (lateral_is c.in-Nav.is))

pub returns-in_default : goal.returns-in_default
returns-in_default c = rw (c.armed_unless-armed.ensures, c.arms_nav.ensures) (nav_cleared _ _ (lateral_not c.in_default.not-Nav))
