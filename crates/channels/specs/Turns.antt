-- What a turn of each knob makes of one side's channel. Document 01, 'Sends, refreshes, knobs'.
use Rattle.std.specs.Prelude.{Bool, ◌&&◌, ◌||◌, cond, ℕ, eqb, ℤ, pos, ◌+ℤ◌, ◌*ℤ◌, Result, Ok, Err}
use Rattle.std.specs.Int.Signed.{lt_z}
use Rattle.refusals.specs.declared.Refusal.{Refusal}
use Rattle.rotation.specs.Rotation.{mod_of}
use Rattle.modes.specs.Sets.{PITCH, VS, ALTSEL, VAPPR, engage, engaged_in, in_on, is_off}
use Rattle.feed.specs.Ranges.{clamped}
use Rattle.channels.specs.declared.Channel.{Channel}
use Rattle.channels.specs.declared.Inputs.{Inputs}
use Rattle.channels.specs.declared.knobs.Knob.{Knob}
use Rattle.channels.specs.declared.references.References.{References}
use Rattle.channels.specs.declared.references.Reference.{Reference}
use Rattle.channels.specs.References.{range_of, reference_at, with_reference}
use Rattle.channels.specs.Entry.{enter}

abbrev pub knob_number : Knob → ℕ
knob_number Knob.Wheel = 0
knob_number Knob.Altitude = 1
knob_number Knob.Speed = 2
knob_number Knob.Heading = 3

-- the knob of a number, and refusal 3 where it names none
abbrev pub knob_of : ℕ → Result Knob Refusal
knob_of n =
    cond (eqb n 0) (Ok Knob.Wheel)
    (cond (eqb n 1) (Ok Knob.Altitude)
    (cond (eqb n 2) (Ok Knob.Speed)
    (cond (eqb n 3) (Ok Knob.Heading) (Err Refusal.UnknownKnob))))

-- ---- parts of the rules

-- an amount is added to a reference, clamped to its range
unfoldable pub moved : Reference → ℤ → References → References
moved n amount r = with_reference n (clamped (range_of n) (reference_at n r +ℤ amount)) r

unfoldable pub reference_moved : Reference → ℤ → Channel → Channel
reference_moved n amount c = record c { references = moved n amount c.references }

-- PITCH engages, with entry
unfoldable pub pitched : Inputs → Channel → Channel
pitched i c = enter i.wholes (in_on (engage PITCH) c.set) c

-- ---- what a rotation r of each knob does

-- the wheel moves the reference of VS and of PITCH and does nothing in VAPPR and Off; over another mode it engages PITCH, with the reference that entry loads
unfoldable pub wheel_turned : ℤ → Inputs → Channel → Channel
wheel_turned r i c =
    cond (engaged_in VS c.set) (reference_moved Reference.VerticalSpeed r c)
    (cond (engaged_in PITCH c.set) (reference_moved Reference.Pitch r c)
    (cond (engaged_in VAPPR c.set || is_off c.set) c (pitched i c)))

-- a click of the altitude knob is 100 feet
abbrev pub altitude_moved : ℤ → Channel → Channel
altitude_moved r c = reference_moved Reference.Preselected (r *ℤ pos 100) c

abbrev pub differ : ℤ → ℤ → Bool
differ x y = lt_z x y || lt_z y x

-- with ALTSEL engaged, a preselected altitude that changes engages PITCH
unfoldable pub altitude_turned : ℤ → Inputs → Channel → Channel
altitude_turned r i c =
    let next = altitude_moved r c in
    cond (engaged_in ALTSEL c.set && differ c.references.preselected next.references.preselected) (pitched i next) next

-- the heading goes round: modulo 360
unfoldable pub heading_turned : ℤ → Channel → Channel
heading_turned r c = record c { references = with_reference Reference.Heading (pos (mod_of (c.references.heading +ℤ r) 360)) c.references }

unfoldable pub after_turn : Knob → ℤ → Inputs → Channel → Channel
after_turn Knob.Wheel r i c = wheel_turned r i c
after_turn Knob.Altitude r i c = altitude_turned r i c
after_turn Knob.Speed r i c = reference_moved Reference.Ias r c
after_turn Knob.Heading r i c = heading_turned r c
