-- `changes::capture_nav` meets its contract: where NAV is armed the rule engages it, which ends its arming.
use Rattle.changes.proofs.Joins.{nav_captured}
use Rattle.changes.proofs.capture_nav.Goals as goal

pub returns-then-arms_nav : goal.returns-then-arms_nav
returns-then-arms_nav c = rw c.to_lateral.ensures (nav_captured _ _ (rw c.arms_nav.ensures at c.if-arms_nav.true))

pub returns-else-arms_nav : goal.returns-else-arms_nav
returns-else-arms_nav c = nav_captured _ _ (rw c.arms_nav.ensures at c.if-arms_nav.false)
