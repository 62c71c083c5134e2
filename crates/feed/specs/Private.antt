-- What private functions of this crate compute. This is no part of the promise: the contracts of the public functions cite Sound, and proofs/Kept.antt shows that this
-- agrees with it.
use Rattle.std.specs.Prelude.{Bool, false, ◌&&◌, ◌||◌, ℤ, pos, negsuc}
use Rattle.rounding.specs.Whole.{whole_of, same, is_whole}
use Rattle.feed.specs.declared.Reading.{Reading}
use Rattle.feed.specs.Readings.{float_of}

-- the integer nearest to a heading is 360 and z is 0, or that nearest to a roll is 180 and z is -180
abbrev pub is_wrapped : Reading → ℤ → Bool
is_wrapped (Reading.Altitude x) z = false
is_wrapped (Reading.Airspeed x) z = false
is_wrapped (Reading.VerticalSpeed x) z = false
is_wrapped (Reading.Roll x) z = same (negsuc 179) z && is_whole (pos 180) (whole_of x)
is_wrapped (Reading.Pitch x) z = false
is_wrapped (Reading.Heading x) z = same (pos 0) z && is_whole (pos 360) (whole_of x)

-- z is the whole value of a reading, if it lies within the range of the reading's kind: 360 and 180, which do not, pass here too
abbrev pub reads_as : Reading → ℤ → Bool
reads_as r z = is_whole z (whole_of (float_of r)) || is_wrapped r z
