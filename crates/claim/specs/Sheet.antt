-- Document 01, 'Bench sheet', with cases 2 and 10 as document 02 has them, and what case 2 keeps by 2026-05: its twelve cases as one claim, about the whole values, the rotations and the rules. A case
-- that is a list of calls begins at power-on. Here are definitions and the statement only; the proof is in proofs/Sheet.antt.
use Rattle.std.specs.Prelude.{◌≡◌, false, List, [], ◌∷◌, ◌++◌, map, ℕ, ℤ, pos, negsuc, Float, Ok}
use Rattle.std.specs.Float.{binary64}
use Rattle.std.specs.Float.Ieee.{of_bits}
use Rattle.refusals.specs.declared.Told.{Told}
use Rattle.rounding.specs.Whole.{whole_of}
use Rattle.rotation.specs.Rotation.{rotation_of}
use Rattle.sides.specs.declared.Side.{Side}
use Rattle.sides.specs.Sides.{number}
use Rattle.feed.specs.declared.Reading.{Reading}
use Rattle.feed.specs.Readings.{whole_reading}
use Rattle.channels.specs.declared.references.References.{References}
use Rattle.bench.specs.declared.call.Call.{Call}
use Rattle.bench.specs.Holds.{power_on}
use Rattle.calls.specs.declared.reply.Display.{Display}
use Rattle.calls.specs.declared.reply.Reply.{Reply}
use Rattle.claim.specs.Lists.{after, all_told}
use Rattle.claim.specs.Claim.{display_after}

-- ---- names

-- a 64-bit float by its bits; comments give it in decimal
abbrev pub bits : ℕ → Float
bits n = of_bits binary64 n

abbrev pub on_left : Side
on_left = Side.Left

abbrev pub on_right : Side
on_right = Side.Right

-- what a reading tells: its refusal
abbrev pub done : ℕ → Told Reply
done refusal = record { refusal = refusal; value = Reply.Done }

-- and an event: its refusal, and the number acted on or 32
abbrev pub event : ℕ → ℕ → Told Reply
event refusal number = record { refusal = refusal; value = Reply.Event number }

-- what a display of a side shows after a list of calls from power-on
abbrev pub shown_by : List Call → Side → Display
shown_by cs s = (display_after cs s).value

-- its lateral and vertical law
abbrev pub laws : List Call → Side → ℕ × ℕ
laws cs s = ((shown_by cs s).lateral, (shown_by cs s).vertical)

abbrev pub references_of : List Call → Side → References
references_of cs s = (shown_by cs s).references

abbrev pub heading_left : List Call → ℤ
heading_left cs = (references_of cs on_left).heading

-- ---- the lists of calls

-- 2: headings 359.25 and 359.5
abbrev pub two : List Call
two = Call.Reading (Reading.Heading (bits 0x4076_7400_0000_0000)) ∷ Call.Reading (Reading.Heading (bits 0x4076_7800_0000_0000)) ∷ []

-- 3: altitudes 56,000.5 and 56,001
abbrev pub three : List Call
three = Call.Reading (Reading.Altitude (bits 0x40eb_5810_0000_0000)) ∷ Call.Reading (Reading.Altitude (bits 0x40eb_5820_0000_0000)) ∷ []

-- 4: the heading knob from 250 to 3 and back to 250; from 0 to 128 and back to 0
abbrev pub four : List (List Call)
four = (Call.Turn 3 250 ∷ []) ∷ (Call.Turn 3 250 ∷ Call.Turn 3 3 ∷ []) ∷ (Call.Turn 3 250 ∷ Call.Turn 3 3 ∷ Call.Turn 3 250 ∷ []) ∷ []

abbrev pub four_half : List (List Call)
four_half = (Call.Turn 3 128 ∷ []) ∷ (Call.Turn 3 128 ∷ Call.Turn 3 0 ∷ []) ∷ []

-- 5: the heading knob from 0 to 251, which leaves heading 355
abbrev pub heading355 : List Call
heading355 = Call.Turn 3 251 ∷ []

-- 5: vertical speed 48.0 is read, then VS engages
abbrev pub speed48 : List Call
speed48 = Call.Reading (Reading.VerticalSpeed (bits 0x4048_0000_0000_0000)) ∷ Call.Event 131072 ∷ []

abbrev pub six : List Call
six = Call.Event 16384 ∷ []

abbrev pub seven : List Call
seven = Call.Event 16400 ∷ []

-- 8: the first, the second, the third word, and then the fourth
abbrev pub eight₁ : List Call
eight₁ = Call.Event 65536 ∷ []

abbrev pub eight₂ : List Call
eight₂ = eight₁ ++ (Call.Event 1024 ∷ [])

abbrev pub eight₃ : List Call
eight₃ = eight₂ ++ (Call.Event 2048 ∷ [])

abbrev pub eight₄ : List Call
eight₄ = eight₃ ++ (Call.Event 131072 ∷ [])

-- 9: overspeed begins on eight₂, and then VAPPR's signal comes
abbrev pub nine₁ : List Call
nine₁ = eight₂ ++ (Call.Event 4 ∷ [])

abbrev pub nine₂ : List Call
nine₂ = nine₁ ++ (Call.Event 2048 ∷ [])

abbrev pub ten : List Call
ten = Call.Event 0 ∷ Call.Event 2097152 ∷ []

-- 11: six, and then a send and a refresh
abbrev pub eleven : List Call
eleven = six ++ (Call.Send (number on_left) ∷ Call.Refresh (number on_right) ∷ [])

-- 12: eleven and a transfer, and then a refresh too
abbrev pub twelve₁ : List Call
twelve₁ = eleven ++ (Call.Event 32 ∷ [])

abbrev pub twelve₂ : List Call
twelve₂ = twelve₁ ++ (Call.Refresh (number on_left) ∷ [])

-- ---- the claim

pub record Sheet : Type 0 where
  -- three ties go to the even integer: 12.5 to 12, 13.5 to 14 and -0.5 to 0
  pub case1 : (whole_of (bits 0x4029_0000_0000_0000) ≡ Ok (pos 12)) × (whole_of (bits 0x402b_0000_0000_0000) ≡ Ok (pos 14))
      × (whole_of (bits 0xbfe0_0000_0000_0000) ≡ Ok (pos 0))
  -- headings of 359.25 and 359.5 are both accepted, as 359 and, by document 02, 2026-01, as 0; the float that stays is 359.5, and beside it 0
  pub case2 : (all_told power_on two ≡ done 0 ∷ done 0 ∷ []) × (whole_reading (Reading.Heading (bits 0x4076_7400_0000_0000)) ≡ Ok (pos 359))
      × (whole_reading (Reading.Heading (bits 0x4076_7800_0000_0000)) ≡ Ok (pos 0)) × ((after power_on two).readings.heading ≡ bits 0x4076_7800_0000_0000)
      × ((after power_on two).wholes.heading ≡ pos 0)
  -- an altitude of 56,000.5 is accepted, since it rounds to 56,000, the end of the range; 56,001 is refused with 6
  pub case3 : (all_told power_on three ≡ done 0 ∷ done 6 ∷ []) × (whole_of (bits 0x40eb_5810_0000_0000) ≡ Ok (pos 56000))
  -- the rotation from 250 to 3 is 9, and -9 the other way; half a turn, between 0 and 128, is -128 either way
  pub case4 : (rotation_of 250 3 ≡ pos 9) × (rotation_of 3 250 ≡ negsuc 8) × (rotation_of 0 128 ≡ negsuc 127) × (rotation_of 128 0 ≡ negsuc 127)
      -- the same by turns of the heading knob: 354 and 9 is 3, 3 and -9 is 354; 0 and -128 is 232, 232 and -128 is 104
      × (map heading_left four ≡ pos 354 ∷ pos 3 ∷ pos 354 ∷ []) × (map heading_left four_half ≡ pos 232 ∷ pos 104 ∷ [])
  -- a rotation of 9 takes heading 355 round to 4, and in VS a vertical speed of 48 to 50, the end of its range
  pub case5 : (heading_left heading355 ≡ pos 355) × (rotation_of 251 4 ≡ pos 9) × (heading_left (heading355 ++ (Call.Turn 3 4 ∷ [])) ≡ pos 4)
      × (laws speed48 on_left ≡ (1, 2)) × ((references_of speed48 on_left).vertical_speed ≡ pos 48) × (rotation_of 0 9 ≡ pos 9)
      × ((references_of (speed48 ++ (Call.Turn 0 9 ∷ [])) on_left).vertical_speed ≡ pos 50)
  -- word 16,384 presses HDG, event 14: HDG and PITCH (2 and 1) with ALTSEL armed (4), and the lamps HDG and PF left (129)
  pub case6 : (all_told power_on six ≡ event 0 14 ∷ []) × (laws six on_left ≡ (2, 1)) × ((shown_by six on_left).armed ≡ 4) × ((shown_by six on_left).lamps ≡ 129)
  -- word 16,400 has the bits 4 and 14, and go-around, 4, is done: LGA and VGA (5 and 8) with ALTSEL armed (4)
  pub case7 : (all_told power_on seven ≡ event 0 4 ∷ []) × (laws seven on_left ≡ (5, 8)) × ((shown_by seven on_left).armed ≡ 4)
  -- APPR (65,536) arms LAPPR and VAPPR under ROLL and PITCH: sum 14. LAPPR is captured (1,024): law 4, sum 12. VAPPR is captured (2,048): law 7, sum 0.
  -- VS (131,072) takes the place of VAPPR: law 2, sum 4
  pub case8 : (laws eight₁ on_left ≡ (1, 1)) × ((shown_by eight₁ on_left).armed ≡ 14) × (laws eight₂ on_left ≡ (4, 1)) × ((shown_by eight₂ on_left).armed ≡ 12)
      × (laws eight₃ on_left ≡ (4, 7)) × ((shown_by eight₃ on_left).armed ≡ 0) × (laws eight₄ on_left ≡ (4, 2)) × ((shown_by eight₄ on_left).armed ≡ 4)
  -- overspeed (4) while VAPPR waits beside LAPPR engages FLC: laws 4 and 3, sum 12. VAPPR's signal (2,048) then changes neither
  pub case9 : (laws nine₁ on_left ≡ (4, 3)) × ((shown_by nine₁ on_left).armed ≡ 12) × (laws nine₂ on_left ≡ (4, 3)) × ((shown_by nine₂ on_left).armed ≡ 12)
  -- an empty word is accepted with answer 32; 2,097,152, which is bit 21 (document 02, 2026-03), is refused with 4; neither changes the bench
  pub case10 : (all_told power_on ten ≡ event 0 32 ∷ event 4 32 ∷ []) × (after power_on ten ≡ power_on)
  -- case 6 leaves right Off (0 and 0), its one lamp PF left (128); left sends, right refreshes and shows 2 and 1, with its FD still Off
  pub case11 : ((display_after six on_right).refusal ≡ 0) × (laws six on_right ≡ (0, 0)) × ((shown_by six on_right).lamps ≡ 128)
      × (laws eleven on_right ≡ (2, 1)) × ((shown_by eleven on_right).fd ≡ false)
  -- a transfer (32) gives right ROLL and PITCH (1 and 1), and left keeps 2 and 1. A refresh then turns left Off (0 and 0): right has sent nothing
  pub case12 : (laws twelve₁ on_right ≡ (1, 1)) × (laws twelve₁ on_left ≡ (2, 1)) × ((display_after twelve₂ on_left).refusal ≡ 0) × (laws twelve₂ on_left ≡ (0, 0))
