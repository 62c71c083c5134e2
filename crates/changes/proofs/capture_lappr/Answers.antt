-- `changes::capture_lappr` meets its contract: where LAPPR is armed the rule engages it, which ends its arming and clears no approach.
use Rattle.changes.proofs.Joins.{lappr_captured}
use Rattle.changes.proofs.capture_lappr.Goals as goal

pub returns-then-arms_lappr : goal.returns-then-arms_lappr
returns-then-arms_lappr c = lappr_captured _ _ (rw c.arms_lappr.ensures at c.if-arms_lappr.true)

pub returns-else-arms_lappr : goal.returns-else-arms_lappr
returns-else-arms_lappr c = lappr_captured _ _ (rw c.arms_lappr.ensures at c.if-arms_lappr.false)
