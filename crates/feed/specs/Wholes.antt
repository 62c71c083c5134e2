-- What holds of a reading's whole value: two numbers are read otherwise than as the nearest integer, and no more; what is kept is sound just with the whole values of
-- its floats; and what is put is read back, where all else stays. Document 01, 'Readings'; document 02, 2026-01 and 2026-05.
-- Here are the statements; the proofs are in proofs/WholeLaws.antt, of what is put in proofs/Put.antt.
use Rattle.std.specs.Prelude.{◌≡◌, ◌≢◌, ◌↔◌, Bool, true, [], ◌∷◌, map, ℕ, ◌*◌, ℤ, pos, negsuc, Float, Result, Ok, Err}
use Rattle.std.specs.Float.{fin, binary64}
use Rattle.std.specs.Float.Ieee.{up, down, of_bits}
use Rattle.refusals.specs.Refusals.{refusal_number}
use Rattle.rounding.specs.declared.NoWhole.{NoWhole}
use Rattle.rounding.specs.Whole.{signed_of, in_answer, whole_of}
use Rattle.rounding.specs.Fraction.{IsNearest}
use Rattle.feed.specs.declared.Kind.{Kind}
use Rattle.feed.specs.declared.Reading.{Reading}
use Rattle.feed.specs.declared.Readings.{Readings}
use Rattle.feed.specs.declared.Wholes.{Wholes}
use Rattle.feed.specs.Ranges.{range, within, clamped, range_of}
use Rattle.feed.specs.Readings.{kind_of, float_of, whole_reading, reading_verdict, whole_number, wholes_of, float_at, stored, whole_at, with_whole}
use Rattle.feed.specs.Sound.{kept, readings_sound}

-- x is a finite float, and z the integer nearest to its exact value, of two such the even one
pub record Nearest (x : Float) (z : ℤ) : Type 0 where
  pub sign : Bool
  pub digits : ℕ
  pub exponent : ℤ
  pub size : ℕ
  pub float : x ≡ fin sign digits exponent
  pub nearest : IsNearest size (digits * up exponent) (down exponent)
  pub signed : z ≡ signed_of sign size

-- the reading has a whole value, and that lies within its kind's range
pub record WholeInRange (r : Reading) : Type 0 where
  pub value : ℤ
  pub whole : whole_reading r ≡ Ok value
  pub inside : within (range_of (kind_of r)) value ≡ true

-- `in_answer z` is z, or that z has more than 32 bits and so lies outside every range
pub record ReadingLaws : Type 0 where
  -- a heading of 360 is 0, and any other heading is its nearest integer
  pub north : (x : Float) → Nearest x (pos 360) → whole_reading (Reading.Heading x) ≡ Ok (pos 0)
  pub heading : (x : Float) (z : ℤ) → Nearest x z → (z ≡ pos 360 → ⊥) → whole_reading (Reading.Heading x) ≡ in_answer z
  -- a roll of 180 is -180, and any other roll is its nearest integer
  pub inverted : (x : Float) → Nearest x (pos 180) → whole_reading (Reading.Roll x) ≡ Ok (negsuc 179)
  pub roll : (x : Float) (z : ℤ) → Nearest x z → (z ≡ pos 180 → ⊥) → whole_reading (Reading.Roll x) ≡ in_answer z
  -- the other kinds are their nearest integer
  pub altitude : (x : Float) (z : ℤ) → Nearest x z → whole_reading (Reading.Altitude x) ≡ in_answer z
  pub airspeed : (x : Float) (z : ℤ) → Nearest x z → whole_reading (Reading.Airspeed x) ≡ in_answer z
  pub vertical_speed : (x : Float) (z : ℤ) → Nearest x z → whole_reading (Reading.VerticalSpeed x) ≡ in_answer z
  pub pitch : (x : Float) (z : ℤ) → Nearest x z → whole_reading (Reading.Pitch x) ≡ in_answer z
  -- every finite float has a nearest integer, and a float that is not finite no whole value
  pub finite : (s : Bool) (m : ℕ) (e : ℤ) → (z : ℤ) × Nearest (fin s m e) z
  pub not_finite : (r : Reading) → whole_of (float_of r) ≡ Err NoWhole.NotFinite → whole_reading r ≡ Err NoWhole.NotFinite
  -- just the readings are accepted whose whole value lies within the range of their kind
  pub accepted : (r : Reading) → (refusal_number (reading_verdict r) ≡ 0) ↔ WholeInRange r
  -- a number may stand beside a reading on a sound bench just where it is the reading's whole value and lies within the range
  pub beside : (r : Reading) (z : ℤ) → (kept r z ≡ true) ↔ ((whole_reading r ≡ Ok z) × (within (range_of (kind_of r)) z ≡ true))
  -- so the whole values of a sound bench are those that its floats have when rounded afresh
  pub afresh : (w : Readings) (k : Wholes) → readings_sound w k ≡ true → k ≡ wholes_of w

-- what is put is read back, and what is kept of the other kinds stays
pub record PutLaws : Type 0 where
  pub float_read : (r : Reading) (w : Readings) → float_at (kind_of r) (stored r w) ≡ float_of r
  pub floats_stay : (r : Reading) (l : Kind) → kind_of r ≢ l → (w : Readings) → float_at l (stored r w) ≡ float_at l w
  pub whole_read : (k : Kind) (x : ℤ) (w : Wholes) → whole_at k (with_whole k x w) ≡ x
  pub wholes_stay : (k l : Kind) → k ≢ l → (x : ℤ) (w : Wholes) → whole_at l (with_whole k x w) ≡ whole_at l w

-- ---- the numbers around the two, by computing; each float is read from its 64 bits, and the comments give it in decimal

abbrev pub reading_of : (Float → Reading) → ℕ → Reading
reading_of kind n = kind (of_bits binary64 n)

-- a reading's whole value and its refusal
abbrev pub read_as : Reading → Result ℤ NoWhole × ℕ
read_as r = (whole_reading r, refusal_number (reading_verdict r))

-- what a roll reading leaves in the roll reference, from -27 to 27, when ROLL engages
abbrev pub loaded_roll : Reading → ℤ
loaded_roll r = clamped (range (negsuc 26) (pos 27)) (whole_number r)

pub record ReadingExamples : Type 0 where
  -- headings 359.5, 360.0, 360.25 and 360.5: accepted as 0
  pub north : map read_as (map (reading_of Reading.Heading) (0x4076_7800_0000_0000 ∷ 0x4076_8000_0000_0000 ∷ 0x4076_8400_0000_0000 ∷ 0x4076_8800_0000_0000 ∷ []))
      ≡ (Ok (pos 0), 0) ∷ (Ok (pos 0), 0) ∷ (Ok (pos 0), 0) ∷ (Ok (pos 0), 0) ∷ []
  -- headings 359.25, 360.75, -0.5 and -0.75: 361 and -1 are refused with 6
  pub headings : map read_as (map (reading_of Reading.Heading) (0x4076_7400_0000_0000 ∷ 0x4076_8c00_0000_0000 ∷ 0xbfe0_0000_0000_0000 ∷ 0xbfe8_0000_0000_0000 ∷ []))
      ≡ (Ok (pos 359), 0) ∷ (Ok (pos 361), 6) ∷ (Ok (pos 0), 0) ∷ (Ok (negsuc 0), 6) ∷ []
  -- rolls 179.5, 180.0, 180.5 and -180.5: accepted as -180
  pub inverted : map read_as (map (reading_of Reading.Roll) (0x4066_7000_0000_0000 ∷ 0x4066_8000_0000_0000 ∷ 0x4066_9000_0000_0000 ∷ 0xc066_9000_0000_0000 ∷ []))
      ≡ (Ok (negsuc 179), 0) ∷ (Ok (negsuc 179), 0) ∷ (Ok (negsuc 179), 0) ∷ (Ok (negsuc 179), 0) ∷ []
  -- rolls 179.25, 180.75 and -180.75: 181 and -181 are refused with 6
  pub rolls : map read_as (map (reading_of Reading.Roll) (0x4066_6800_0000_0000 ∷ 0x4066_9800_0000_0000 ∷ 0xc066_9800_0000_0000 ∷ []))
      ≡ (Ok (pos 179), 0) ∷ (Ok (pos 181), 6) ∷ (Ok (negsuc 180), 6) ∷ []
  -- rolls 179.25, 179.75 and 180.0 load 27, -27 and -27
  pub loaded : map loaded_roll (map (reading_of Reading.Roll) (0x4066_6800_0000_0000 ∷ 0x4066_7800_0000_0000 ∷ 0x4066_8000_0000_0000 ∷ [])) ≡ pos 27 ∷ negsuc 26 ∷ negsuc 26 ∷ []
  -- 360.0 and 180.0 of other kinds, and of each other's, are themselves: an altitude, an airspeed, a vertical speed, a pitch, a roll and a heading
  pub others : map read_as (reading_of Reading.Altitude 0x4076_8000_0000_0000 ∷ reading_of Reading.Airspeed 0x4076_8000_0000_0000
      ∷ reading_of Reading.VerticalSpeed 0x4066_8000_0000_0000 ∷ reading_of Reading.Pitch 0x4066_8000_0000_0000
      ∷ reading_of Reading.Roll 0x4076_8000_0000_0000 ∷ reading_of Reading.Heading 0x4066_8000_0000_0000 ∷ [])
      ≡ (Ok (pos 360), 0) ∷ (Ok (pos 360), 0) ∷ (Ok (pos 180), 0) ∷ (Ok (pos 180), 6)
      ∷ (Ok (pos 360), 6) ∷ (Ok (pos 180), 0) ∷ []
