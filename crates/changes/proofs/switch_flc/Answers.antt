-- `changes::switch_flc` meets its contract: where FLC is engaged, the flag keeps it.
use Rattle.std.proofs.Common.{refl}
use Rattle.changes.proofs.Joins.{vertical_is, vertical_not, flc_switched}
use Rattle.changes.proofs.switch_flc.Goals as goal

pub returns-in-Flc : goal.returns-in-Flc
returns-in-Flc c = flc_switched _ _ _ _ (vertical_is c.in-Flc.is) c.if-flag.true

pub returns-in-Flc-2 : goal.returns-in-Flc-2
returns-in-Flc-2 c = flc_switched _ _ _ _ (vertical_is c.in-Flc.is) c.if-flag.false

pub returns-in_default : goal.returns-in_default
returns-in_default c = rw c.to_vertical.ensures (flc_switched _ _ _ _ (vertical_not c.in_default.not-Flc) refl)
