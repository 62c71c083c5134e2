-- The last counts of the knobs. Document 01, 'What a bench value holds'.
use Rattle.std.specs.Prelude.{ℕ}
use Rattle.channels.specs.declared.knobs.Knob.{Knob}
use Rattle.bench.specs.declared.Counts.{Counts}

abbrev pub count_of : Knob → Counts → ℕ
count_of Knob.Wheel c = c.wheel
count_of Knob.Altitude c = c.altitude
count_of Knob.Speed c = c.speed
count_of Knob.Heading c = c.heading

abbrev pub with_count : Knob → ℕ → Counts → Counts
with_count Knob.Wheel n c = record c { wheel = n }
with_count Knob.Altitude n c = record c { altitude = n }
with_count Knob.Speed n c = record c { speed = n }
with_count Knob.Heading n c = record c { heading = n }
