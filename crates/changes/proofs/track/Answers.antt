-- `changes::track` meets its contract: the rule asks for ALTSEL in capture by its law.
use Rattle.changes.proofs.Joins.{vertical_is, vertical_not, on_track}
use Rattle.changes.proofs.track.Goals as goal

pub returns-in-AltselCapture : goal.returns-in-AltselCapture
returns-in-AltselCapture c = on_track _ _ (vertical_is c.in-AltselCapture.is)

pub returns-in_default : goal.returns-in_default
returns-in_default c = on_track _ _ (vertical_not c.in_default.not-AltselCapture)
