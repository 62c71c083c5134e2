-- `changes::switch_hdg` meets its contract: where HDG is engaged, the rule engages ROLL.
use Rattle.changes.proofs.Joins.{lateral_is, lateral_not, hdg_switched}
use Rattle.changes.proofs.switch_hdg.Goals as goal

pub returns-in-Hdg : goal.returns-in-Hdg
returns-in-Hdg c = hdg_switched _ _ (lateral_is c.in-Hdg.is)

pub returns-in_default : goal.returns-in_default
returns-in_default c = rw c.to_lateral.ensures (hdg_switched _ _ (lateral_not c.in_default.not-Hdg))
