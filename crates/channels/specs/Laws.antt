-- What holds of references, of entry, and of the rules of one side. Here are the statements; the proofs are in proofs/.
use Rattle.std.specs.Prelude.{◌≡◌, ◌≢◌, ◌↔◌, true, not, ◌&&◌, ◌||◌, cond, [], ◌∷◌, map, ℕ, ◌≤◌, eqb, ltb, ℤ, pos, negsuc, Ok, Err}
use Rattle.refusals.specs.declared.Refusal.{Refusal}
use Rattle.modes.specs.declared.ModeSet.{ModeSet}
use Rattle.modes.specs.declared.Event.{Event}
use Rattle.modes.specs.Sets.{ROLL}
use Rattle.modes.specs.Numbers.{vertical_law}
use Rattle.feed.specs.declared.Reading.{Reading}
use Rattle.feed.specs.declared.Readings.{Readings}
use Rattle.feed.specs.declared.Wholes.{Wholes}
use Rattle.feed.specs.Readings.{stored_whole, wholes_of}
use Rattle.feed.specs.Sound.{readings_sound}
use Rattle.feed.specs.Wholes.{reading_of}
use Rattle.channels.specs.declared.Channel.{Channel}
use Rattle.channels.specs.declared.Inputs.{Inputs}
use Rattle.channels.specs.declared.knobs.Knob.{Knob}
use Rattle.channels.specs.declared.references.References.{References}
use Rattle.channels.specs.declared.references.Reference.{Reference}
use Rattle.channels.specs.References.{reference_at, with_reference}
use Rattle.channels.specs.Sound.{channel_sound}
use Rattle.channels.specs.Entry.{newly, entry, enter}
use Rattle.channels.specs.Rules.{after_event, after_refresh, taken}
use Rattle.channels.specs.Turns.{knob_number, knob_of, reference_moved, pitched, altitude_moved, differ, after_turn}

-- what was written is read back, and the other six stay
pub record ReferenceLaws : Type 0 where
  pub read : (n : Reference) (x : ℤ) (r : References) → reference_at n (with_reference n x r) ≡ x
  pub stays : (n m : Reference) → n ≢ m → (x : ℤ) (r : References) → reference_at m (with_reference n x r) ≡ reference_at m r

-- a knob's number names it, and no other number does; from 4 on a number is refused with 3
pub record KnobLaws : Type 0 where
  pub named : (n : ℕ) (k : Knob) → (knob_of n ≡ Ok k) ↔ (n ≡ knob_number k)
  pub refused : (n : ℕ) → 4 ≤ n → knob_of n ≡ Err Refusal.UnknownKnob

-- document 01: a newly engaged mode loads from the rounded reading, clamped to range
unfoldable pub rounded_entry : Readings → ModeSet → ModeSet → References → References
rounded_entry w before after r = entry (wholes_of w) before after r

-- document 02, 2026-05, loads the same wherever the whole values are those of the readings,
pub record EntryLaws : Type 0 where
  pub rounded : (w : Readings) (k : Wholes) → readings_sound w k ≡ true → (before after : ModeSet) (r : References) → entry k before after r ≡ rounded_entry w before after r
  -- and so a channel takes another set with that entry
  pub enters : (w : Readings) (k : Wholes) → readings_sound w k ≡ true → (after : ModeSet) (c : Channel)
      → enter k after c ≡ record c { set = after; references = rounded_entry w c.set after c.references }

-- what a roll reading leaves in the roll reference when a channel takes another set
abbrev pub loaded_roll : Wholes → ModeSet → Channel → Reading → ℤ
loaded_roll k after c r = (enter (stored_whole r k) after c).references.roll

-- worked out, with each float read from its 64 bits
pub record EntryExamples : Type 0 where
  -- where ROLL is newly engaged, rolls 179.25, 179.75 and 180.0 load 27, -27 and -27
  pub loaded : (k : Wholes) (after : ModeSet) (c : Channel) → newly ROLL c.set after ≡ true
      → map (loaded_roll k after c) (map (reading_of Reading.Roll) (0x4066_6800_0000_0000 ∷ 0x4066_7800_0000_0000 ∷ 0x4066_8000_0000_0000 ∷ []))
      ≡ pos 27 ∷ negsuc 26 ∷ negsuc 26 ∷ []

-- the two knobs that ask which mode is engaged, by the number of the vertical law that the display shows
pub record TurnLaws : Type 0 where
  -- of the wheel: VS is law 2, PITCH 1 and VAPPR 7, and 0 is Off
  pub wheel : (r : ℤ) (i : Inputs) (c : Channel) (law : ℕ) → law ≡ vertical_law c.set
      → cond (eqb law 2) (reference_moved Reference.VerticalSpeed r c) (cond (eqb law 1) (reference_moved Reference.Pitch r c) (cond (eqb law 7 || eqb law 0) c (pitched i c)))
      ≡ after_turn Knob.Wheel r i c
  -- of the altitude knob: ALTSEL is law 5 or 6
  pub altitude : (r : ℤ) (i : Inputs) (c : Channel) (law : ℕ) → law ≡ vertical_law c.set
      → cond ((not (ltb law 5) && ltb law 7) && differ c.references.preselected (altitude_moved r c).references.preselected) (pitched i (altitude_moved r c)) (altitude_moved r c)
      ≡ after_turn Knob.Altitude r i c

-- whatever it reads besides, a rule of one side keeps its channel sound
pub record ChannelLaws : Type 0 where
  pub event : (e : Event) (i : Inputs) (c : Channel) → channel_sound c ≡ true → channel_sound (after_event e i c) ≡ true
  pub refresh : (i : Inputs) (c : Channel) → channel_sound c ≡ true → channel_sound (after_refresh i c) ≡ true
  pub taken : (sent c : Channel) → channel_sound sent ≡ true → channel_sound (taken sent c) ≡ true
  pub turn : (k : Knob) (r : ℤ) (i : Inputs) (c : Channel) → channel_sound c ≡ true → channel_sound (after_turn k r i c) ≡ true
