-- What may be kept of readings on a sound bench, that is, one that refusal 1 does not name. Document 01, 'Who can be turned away'; document 02 adds whole values (2026-05).
use Rattle.std.specs.Prelude.{Bool, ◌&&◌, ℤ, is_ok}
use Rattle.rounding.specs.Whole.{same}
use Rattle.feed.specs.declared.Readings.{Readings}
use Rattle.feed.specs.declared.Wholes.{Wholes}
use Rattle.feed.specs.declared.Reading.{Reading}
use Rattle.feed.specs.Readings.{reading_verdict, whole_number}

-- the reading could be accepted: it is not refused with 5 or 6
abbrev pub valid : Reading → Bool
valid r = is_ok (reading_verdict r)

-- and the number kept beside it is its whole value
abbrev pub kept : Reading → ℤ → Bool
kept r z = valid r && same (whole_number r) z

unfoldable pub readings_sound : Readings → Wholes → Bool
readings_sound w k =
    kept (Reading.Altitude w.altitude) k.altitude && kept (Reading.Airspeed w.airspeed) k.airspeed
    && kept (Reading.VerticalSpeed w.vertical_speed) k.vertical_speed && kept (Reading.Roll w.roll) k.roll
    && kept (Reading.Pitch w.pitch) k.pitch && kept (Reading.Heading w.heading) k.heading
