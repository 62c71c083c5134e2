-- The references by name: their ranges, read and replaced. Document 01, 'What a bench value holds'.
use Rattle.std.specs.Prelude.{ℤ, pos, negsuc}
use Rattle.feed.specs.declared.ranges.Range.{Range}
use Rattle.feed.specs.Ranges.{range}
use Rattle.channels.specs.declared.references.References.{References}
use Rattle.channels.specs.declared.references.Reference.{Reference}
use Rattle.channels.specs.declared.references.Reference.TheVariants.{Heading, Preselected, Held, VerticalSpeed, Ias, Roll, Pitch}

-- degrees, feet, hundreds of feet a minute, knots; negsuc n is -(n + 1)
abbrev pub range_of : Reference → Range
range_of Heading = range (pos 0) (pos 359)
range_of Preselected = range (negsuc 7999) (pos 56000)
range_of Held = range (negsuc 7999) (pos 56000)
range_of VerticalSpeed = range (negsuc 49) (pos 50)
range_of Ias = range (pos 60) (pos 400)
range_of Roll = range (negsuc 26) (pos 27)
range_of Pitch = range (negsuc 19) (pos 20)

abbrev pub reference_at : Reference → References → ℤ
reference_at Heading r = r.heading
reference_at Preselected r = r.preselected
reference_at Held r = r.held
reference_at VerticalSpeed r = r.vertical_speed
reference_at Ias r = r.ias
reference_at Roll r = r.roll
reference_at Pitch r = r.pitch

abbrev pub with_reference : Reference → ℤ → References → References
with_reference Heading x r = record r { heading = x }
with_reference Preselected x r = record r { preselected = x }
with_reference Held x r = record r { held = x }
with_reference VerticalSpeed x r = record r { vertical_speed = x }
with_reference Ias x r = record r { ias = x }
with_reference Roll x r = record r { roll = x }
with_reference Pitch x r = record r { pitch = x }

abbrev pub zero_references : References
zero_references = record { heading = pos 0; preselected = pos 0; held = pos 0; vertical_speed = pos 0; ias = pos 0; roll = pos 0; pitch = pos 0 }
