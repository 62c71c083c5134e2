-- `changes::capture_altsel` meets its contract: ALTSEL is armed beside four of the vertical modes, and the rule then engages it in capture.
use Rattle.changes.proofs.Joins.{altsel_armed, altsel_not_armed, altsel_captured}
use Rattle.changes.proofs.capture_altsel.Goals as goal

pub returns-in-Pitch : goal.returns-in-Pitch
returns-in-Pitch c = altsel_captured _ _ (altsel_armed c.in-Pitch.is)

pub returns-in_default : goal.returns-in_default
returns-in_default c = altsel_captured _ _ (altsel_not_armed _ c.in_default.not-Pitch c.in_default.not-Vs c.in_default.not-Flc c.in_default.not-Vga)
