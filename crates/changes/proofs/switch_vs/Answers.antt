-- `changes::switch_vs` meets its contract: where VS is engaged, the rule engages PITCH.
use Rattle.changes.proofs.Joins.{vertical_is, vertical_not, vs_switched}
use Rattle.changes.proofs.switch_vs.Goals as goal

pub returns-in-Vs : goal.returns-in-Vs
returns-in-Vs c = vs_switched _ _ (vertical_is c.in-Vs.is)

pub returns-in_default : goal.returns-in_default
returns-in_default c = rw c.to_vertical.ensures (vs_switched _ _ (vertical_not c.in_default.not-Vs))
