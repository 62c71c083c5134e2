-- Ranges of numbers, and those of the readings. Document 01, 'Readings'.
use Rattle.std.specs.Prelude.{Bool, ◌&&◌, ℤ, pos, negsuc}
use Rattle.std.specs.Int.Signed.{le_z}
use Rattle.rotation.specs.Rotation.{clamp_of}
use Rattle.feed.specs.declared.Kind.{Kind}
use Rattle.feed.specs.declared.ranges.Range.{Range}

-- the integers from l to h; negsuc n is -(n + 1)
abbrev pub range : ℤ → ℤ → Range
range l h = record { low = l; high = h }

abbrev pub within : Range → ℤ → Bool
within r x = le_z r.low x && le_z x r.high

abbrev pub clamped : Range → ℤ → ℤ
clamped r x = clamp_of r.low r.high x

-- of a kind's whole values: feet, knots, hundreds of feet a minute, degrees
abbrev pub range_of : Kind → Range
range_of Kind.Altitude = range (negsuc 7999) (pos 56000)
range_of Kind.Airspeed = range (pos 0) (pos 600)
range_of Kind.VerticalSpeed = range (negsuc 299) (pos 300)
range_of Kind.Roll = range (negsuc 179) (pos 179)
range_of Kind.Pitch = range (negsuc 89) (pos 89)
range_of Kind.Heading = range (pos 0) (pos 359)
