-- Readings. Document 01, 'Readings', and the air data feed's refusals 5 and 6; document 02, 2026-01 and 2026-05.
use Rattle.std.specs.Prelude.{cond, ℕ, eqb, ℤ, pos, negsuc, Float, Result, Ok, Err}
use Rattle.rounding.specs.declared.NoWhole.{NoWhole}
use Rattle.refusals.specs.declared.Refusal.{Refusal}
use Rattle.rounding.specs.Whole.{whole_of}
use Rattle.feed.specs.declared.Kind.{Kind}
use Rattle.feed.specs.declared.Reading.{Reading}
use Rattle.feed.specs.declared.Readings.{Readings}
use Rattle.feed.specs.declared.Wholes.{Wholes}
use Rattle.feed.specs.declared.ranges.Range.{Range}
use Rattle.feed.specs.Ranges.{within, range_of}

abbrev pub kind_of : Reading → Kind
kind_of (Reading.Altitude x) = Kind.Altitude
kind_of (Reading.Airspeed x) = Kind.Airspeed
kind_of (Reading.VerticalSpeed x) = Kind.VerticalSpeed
kind_of (Reading.Roll x) = Kind.Roll
kind_of (Reading.Pitch x) = Kind.Pitch
kind_of (Reading.Heading x) = Kind.Heading

-- the reading of a kind that has this value
abbrev pub of_kind : Kind → Float → Reading
of_kind Kind.Altitude x = Reading.Altitude x
of_kind Kind.Airspeed x = Reading.Airspeed x
of_kind Kind.VerticalSpeed x = Reading.VerticalSpeed x
of_kind Kind.Roll x = Reading.Roll x
of_kind Kind.Pitch x = Reading.Pitch x
of_kind Kind.Heading x = Reading.Heading x

abbrev pub float_of : Reading → Float
float_of (Reading.Altitude x) = x
float_of (Reading.Airspeed x) = x
float_of (Reading.VerticalSpeed x) = x
float_of (Reading.Roll x) = x
float_of (Reading.Pitch x) = x
float_of (Reading.Heading x) = x

-- z, and y in the place of n
abbrev pub exchanged : ℕ → ℤ → ℤ → ℤ
exchanged n y (pos k) = cond (eqb k n) y (pos k)
exchanged n y (negsuc k) = negsuc k

-- what a kind makes of the nearest integer: heading 360 is 0 and roll 180 is -180, and any other number of any kind is itself (document 02, 2026-01)
abbrev pub wrapped : Kind → ℤ → ℤ
wrapped Kind.Altitude z = z
wrapped Kind.Airspeed z = z
wrapped Kind.VerticalSpeed z = z
wrapped Kind.Roll z = exchanged 180 (negsuc 179) z
wrapped Kind.Pitch z = z
wrapped Kind.Heading z = exchanged 360 (pos 0) z

-- the same of what rounding answers, which may be no number
abbrev pub as_kind : Kind → Result ℤ NoWhole → Result ℤ NoWhole
as_kind k (Err none) = Err none
as_kind k (Ok z) = Ok (wrapped k z)

-- the whole value of a reading, which is compared with the range and kept: the integer nearest to its float, as its kind has it
unfoldable pub whole_reading : Reading → Result ℤ NoWhole
whole_reading r = as_kind (kind_of r) (whole_of (float_of r))

-- 5 where the float is infinite or not a number; 6 where its whole value has no place in an answer's integers, and so lies outside every range
abbrev pub feed_refusal : NoWhole → Refusal
feed_refusal NoWhole.NotFinite = Refusal.NotFinite
feed_refusal NoWhole.Beyond = Refusal.OutOfRange

-- the whole value where it lies within the range, which is judged on it, and else 6
abbrev pub judged : Range → Result ℤ NoWhole → Result ℤ Refusal
judged r (Err none) = Err (feed_refusal none)
judged r (Ok z) = cond (within r z) (Ok z) (Err Refusal.OutOfRange)

-- the whole value of a reading that is accepted, and of any other its refusal, 5 or 6
unfoldable pub reading_verdict : Reading → Result ℤ Refusal
reading_verdict r = judged (range_of (kind_of r)) (whole_reading r)

-- a whole value as a number, and 0 of a float that has none, which is never accepted
abbrev pub number_of : Result ℤ NoWhole → ℤ
number_of (Err none) = pos 0
number_of (Ok z) = z

unfoldable pub whole_number : Reading → ℤ
whole_number r = number_of (whole_reading r)

-- ---- what is kept of a reading: its float and its whole value

abbrev pub float_at : Kind → Readings → Float
float_at Kind.Altitude w = w.altitude
float_at Kind.Airspeed w = w.airspeed
float_at Kind.VerticalSpeed w = w.vertical_speed
float_at Kind.Roll w = w.roll
float_at Kind.Pitch w = w.pitch
float_at Kind.Heading w = w.heading

-- the readings with the one of this kind replaced
abbrev pub stored : Reading → Readings → Readings
stored (Reading.Altitude x) w = record w { altitude = x }
stored (Reading.Airspeed x) w = record w { airspeed = x }
stored (Reading.VerticalSpeed x) w = record w { vertical_speed = x }
stored (Reading.Roll x) w = record w { roll = x }
stored (Reading.Pitch x) w = record w { pitch = x }
stored (Reading.Heading x) w = record w { heading = x }

abbrev pub whole_at : Kind → Wholes → ℤ
whole_at Kind.Altitude k = k.altitude
whole_at Kind.Airspeed k = k.airspeed
whole_at Kind.VerticalSpeed k = k.vertical_speed
whole_at Kind.Roll k = k.roll
whole_at Kind.Pitch k = k.pitch
whole_at Kind.Heading k = k.heading

-- the whole values with the one of this kind replaced (document 02, 2026-05)
abbrev pub with_whole : Kind → ℤ → Wholes → Wholes
with_whole Kind.Altitude x k = record k { altitude = x }
with_whole Kind.Airspeed x k = record k { airspeed = x }
with_whole Kind.VerticalSpeed x k = record k { vertical_speed = x }
with_whole Kind.Roll x k = record k { roll = x }
with_whole Kind.Pitch x k = record k { pitch = x }
with_whole Kind.Heading x k = record k { heading = x }

abbrev pub stored_whole : Reading → Wholes → Wholes
stored_whole r k = with_whole (kind_of r) (whole_number r) k

-- the whole values of six floats, rounded afresh
unfoldable pub wholes_of : Readings → Wholes
wholes_of w = record {
  altitude = whole_number (Reading.Altitude w.altitude);
  airspeed = whole_number (Reading.Airspeed w.airspeed);
  vertical_speed = whole_number (Reading.VerticalSpeed w.vertical_speed);
  roll = whole_number (Reading.Roll w.roll);
  pitch = whole_number (Reading.Pitch w.pitch);
  heading = whole_number (Reading.Heading w.heading);
}
