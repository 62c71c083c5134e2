-- `changes::overspeed` meets its contract: the rule leaves the set where ALT or ALTSEL is engaged or the flag set.
use Rattle.std.proofs.Common.{refl}
use Rattle.changes.proofs.Joins.{altitude_held, altitude_not_held, overspeed_begun}
use Rattle.changes.proofs.overspeed.Goals as goal

pub returns-in-Alt : goal.returns-in-Alt
returns-in-Alt c = overspeed_begun _ _ _ _ (altitude_held c.in-Alt.is) refl

pub returns-in_default : goal.returns-in_default
returns-in_default c =
    overspeed_begun _ _ _ _ (altitude_not_held _ c.in_default.not-Alt c.in_default.not-AltselCapture c.in_default.not-AltselTrack) c.if-flag.true

pub returns-in_default-2 : goal.returns-in_default-2
returns-in_default-2 c =
    rw c.to_vertical.ensures
    (overspeed_begun _ _ _ _ (altitude_not_held _ c.in_default.not-Alt c.in_default.not-AltselCapture c.in_default.not-AltselTrack) c.if-flag.false)
