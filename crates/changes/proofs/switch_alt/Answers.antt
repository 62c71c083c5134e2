-- `changes::switch_alt` meets its contract: where ALT is engaged, the rule engages PITCH.
use Rattle.changes.proofs.Joins.{vertical_is, vertical_not, alt_switched}
use Rattle.changes.proofs.switch_alt.Goals as goal

pub returns-in-Alt : goal.returns-in-Alt
returns-in-Alt c = alt_switched _ _ (vertical_is c.in-Alt.is)

pub returns-in_default : goal.returns-in_default
returns-in_default c = rw c.to_vertical.ensures (alt_switched _ _ (vertical_not c.in_default.not-Alt))
