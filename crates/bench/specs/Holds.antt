-- The bench at a start, of which power-on is one. Document 01, 'What a bench value holds'; document 02, 2026-05 for whole values and 2026-06 for the starting speed.
use Rattle.std.specs.Prelude.{false, cond, ℤ, pos, Ok, Err}
use Rattle.std.specs.Float.Ieee.{of_bits, of_int}
use Rattle.std.specs.Float.{binary64}
use Rattle.refusals.specs.declared.Refusal.{Refusal}
use Rattle.modes.specs.declared.ModeSet.{ModeSet}
use Rattle.feed.specs.declared.Readings.{Readings}
use Rattle.feed.specs.declared.Wholes.{Wholes}
use Rattle.feed.specs.declared.ranges.Range.{Range}
use Rattle.feed.specs.Ranges.{range, within}
use Rattle.channels.specs.declared.Channel.{Channel}
use Rattle.channels.specs.References.{zero_references}
use Rattle.bench.specs.declared.Bench.{Bench}
use Rattle.bench.specs.declared.starts.Started.{Started}

-- ---- the bench at a starting speed

-- flight director and modes Off, the speed as IAS reference and the other references 0
unfoldable pub start_channel : ℤ → Channel
start_channel speed = record { fd = false; set = ModeSet.Off; references = record zero_references { ias = speed } }

-- the speed as airspeed, a float that is exactly this number (`exact` of StartLaws), the other readings 0.0
abbrev pub start_readings : ℤ → Readings
start_readings speed = record {
  altitude = of_bits binary64 0;
  airspeed = of_int binary64 speed;
  vertical_speed = of_bits binary64 0;
  roll = of_bits binary64 0;
  pitch = of_bits binary64 0;
  heading = of_bits binary64 0;
}

-- and so their whole values: the speed, the others 0
abbrev pub start_wholes : ℤ → Wholes
start_wholes speed = record { altitude = pos 0; airspeed = speed; vertical_speed = pos 0; roll = pos 0; pitch = pos 0; heading = pos 0 }

-- left has PF, neither AP nor the overspeed flag nor independent operation is on, and all four counts are 0; inboxes are as the sides
unfoldable pub bench_at : ℤ → Bench
bench_at speed = record {
  shared = record { pf = 0; ap = false; overspeed = false; independent = false };
  counts = record { wheel = 0; altitude = 0; speed = 0; heading = 0 };
  readings = start_readings speed;
  wholes = start_wholes speed;
  sides = record { left = start_channel speed; right = start_channel speed };
  inboxes = record { left = start_channel speed; right = start_channel speed };
}

-- the default bench, which power-on gives
unfoldable pub power_on : Bench
power_on = bench_at (pos 120)

-- ---- a start that names its speed

abbrev pub start_speeds : Range
start_speeds = range (pos 60) (pos 400)

-- a speed outside the range is refused with 10, and the bench is then the default one
unfoldable pub started : ℤ → Started
started speed = cond (within start_speeds speed) (record { outcome = Ok tt; bench = bench_at speed }) (record { outcome = Err Refusal.StartingSpeed; bench = power_on })
