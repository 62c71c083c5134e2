-- Frames on a bus area: what a send copies, as 19 bytes. Document 02, 2026-02. An area, and a part of it, is the list of its bytes.
use Rattle.std.specs.Prelude.{Bool, false, ◌&&◌, cond, List, [], ◌∷◌, ◌++◌, ℕ, ◌+◌, ◌*◌, ◌/◌, ◌%◌, eqb, leb, ltb, ℤ, pos, negsuc, ◌+ℤ◌, ◌-ℤ◌, length, take, drop, get_or, Option, Some, None, Result, Ok, Err}
use Rattle.std.specs.Result.{result_and}
use Rattle.refusals.specs.declared.Refusal.{Refusal}
use Rattle.refusals.specs.Refusals.{Verdict}
use Rattle.sides.specs.declared.Side.{Side}
use Rattle.sides.specs.Sides.{number, side_of, at}
use Rattle.modes.specs.declared.ModeSet.{ModeSet}
use Rattle.modes.specs.Every.{flag_number}
use Rattle.modes.specs.Row.{code_of}
use Rattle.codes.specs.Codes.{set_of}
use Rattle.channels.specs.declared.Channel.{Channel}
use Rattle.channels.specs.declared.references.References.{References}
use Rattle.channels.specs.declared.references.Reference.{Reference}
use Rattle.channels.specs.declared.references.Reference.TheVariants.{Heading, Preselected, Held, VerticalSpeed, Ias, Roll, Pitch}
use Rattle.channels.specs.References.{reference_at, zero_references}
use Rattle.channels.specs.Sound.{references_sound}
use Rattle.bench.specs.declared.Bench.{Bench}
use Rattle.bench.specs.Sound.{sound}
use Rattle.frames.specs.declared.Frame.{Frame}

-- ---- the bytes of a frame

-- what is added to a reference, so that it needs no sign
abbrev pub added : Reference → ℕ
added Heading = 0
added Preselected = 8000
added Held = 8000
added VerticalSpeed = 50
added Ias = 0
added Roll = 27
added Pitch = 20

-- an integer as a number without a sign; 0 for one below it
abbrev pub natural : ℤ → ℕ
natural (pos n) = n
natural (negsuc n) = 0

unfoldable pub raised : Reference → References → ℕ
raised n r = natural (reference_at n r +ℤ pos (added n))

-- the two bytes of a number, of which the first is the high one
abbrev pub high : ℕ → ℕ
high n = n / 256 % 256

abbrev pub low : ℕ → ℕ
low n = n % 256

-- the frame of a channel as that of a side: FGB and the version, 1, in two bytes; side, FD and set code; then the references, of which three have one byte
unfoldable pub frame_of : Side → Channel → List ℕ
frame_of s c =
    70 ∷ 71 ∷ 66 ∷ high 1 ∷ low 1
    ∷ number s ∷ flag_number c.fd ∷ code_of c.set
    ∷ high (raised Heading c.references) ∷ low (raised Heading c.references)
    ∷ low (raised VerticalSpeed c.references)
    ∷ low (raised Roll c.references)
    ∷ low (raised Pitch c.references)
    ∷ high (raised Ias c.references) ∷ low (raised Ias c.references)
    ∷ high (raised Preselected c.references) ∷ low (raised Preselected c.references)
    ∷ high (raised Held c.references) ∷ low (raised Held c.references)
    ∷ []

-- ---- writing

-- 19 bytes remain from a start on. Where the start is past the end none does
abbrev pub fits : ℕ → List ℕ → Bool
fits start area = leb (start + 19) (length area)

abbrev pub with_room : ℕ → List ℕ → Result Side Refusal → Result Side Refusal
with_room start area (Ok s) = cond (fits start area) (Ok s) (Err Refusal.NoRoom)
with_room start area (Err refusal) = Err refusal

-- the side whose frame is written, by its number; or the refusal: 1, 2 and 7, tried in this order
unfoldable pub side_written : Bench → ℕ → ℕ → List ℕ → Result Side Refusal
side_written b n start area = cond (sound b) (with_room start area (side_of n)) (Err Refusal.UnsoundBench)

abbrev pub write_verdict : Bench → ℕ → ℕ → List ℕ → Verdict
write_verdict b n start area = result_and (side_written b n start area) (Ok tt)

-- an area with other bytes from a start on, and the rest as it was
abbrev pub laid : ℕ → List ℕ → List ℕ → List ℕ
laid start bytes area = take start area ++ (bytes ++ drop (start + length bytes) area)

-- the area after a write: of the side, what a send of it would copy; refused, the area as it was
abbrev pub area_left : Bench → ℕ → List ℕ → Result Side Refusal → List ℕ
area_left b start area (Ok s) = laid start (frame_of s (at s b.sides)) area
area_left b start area (Err refusal) = area

unfoldable pub area_written : Bench → ℕ → ℕ → List ℕ → List ℕ
area_written b n start area = area_left b start area (side_written b n start area)

-- ---- reading, from a part of the area that begins where the frame does

abbrev pub byte_at : List ℕ → ℕ → ℕ
byte_at part k = get_or part k 0

-- the references of one byte and of two, less what was added
abbrev pub one_byte : List ℕ → ℕ → Reference → ℤ
one_byte part k n = pos (byte_at part k) -ℤ pos (added n)

abbrev pub two_bytes : List ℕ → ℕ → Reference → ℤ
two_bytes part k n = pos (byte_at part k * 256 + byte_at part (k + 1)) -ℤ pos (added n)

-- the mark and the version
unfoldable pub is_marked : List ℕ → Bool
is_marked part = eqb (byte_at part 0) 70 && eqb (byte_at part 1) 71 && eqb (byte_at part 2) 66 && eqb (byte_at part 3) 0 && eqb (byte_at part 4) 1

-- the references, each at its place in the frame
unfoldable pub references_in : List ℕ → References
references_in part = record {
  heading = two_bytes part 8 Heading;
  preselected = two_bytes part 15 Preselected;
  held = two_bytes part 17 Held;
  vertical_speed = one_byte part 10 VerticalSpeed;
  ias = two_bytes part 13 Ias;
  roll = one_byte part 11 Roll;
  pitch = one_byte part 12 Pitch;
}

-- FD is 0 or 1, and each reference is in its range
abbrev pub in_range : List ℕ → Bool
in_range part = leb (byte_at part 6) 1 && references_sound (references_in part)

-- what the fields say, with the side and the set that their bytes name
abbrev pub frame_in : Side → ModeSet → List ℕ → Frame
frame_in s set part = record { side = s; channel = record { fd = eqb (byte_at part 6) 1; set = set; references = references_in part } }

-- 9 where a byte names no side or no set, or another field is out of its range
abbrev pub read_with : Result Side Refusal → Option ModeSet → List ℕ → Result Frame Refusal
read_with (Ok s) (Some set) part = cond (in_range part) (Ok (frame_in s set part)) (Err Refusal.FieldOutOfRange)
read_with (Ok s) None part = Err Refusal.FieldOutOfRange
read_with (Err no_side) set part = Err Refusal.FieldOutOfRange

unfoldable pub fields_read : List ℕ → Result Frame Refusal
fields_read part = read_with (side_of (byte_at part 5)) (set_of (byte_at part 7)) part

-- 7, 8 and 9, tried in this order
unfoldable pub frame_read : List ℕ → Result Frame Refusal
frame_read part = cond (ltb (length part) 19) (Err Refusal.NoRoom) (cond (is_marked part) (fields_read part) (Err Refusal.NoFrame))

unfoldable pub read_at : ℕ → List ℕ → Result Frame Refusal
read_at start area = frame_read (drop start area)

-- what stands beside a refused read, all zeros: a read tells `told no_frame (read_at start area)`
abbrev pub no_frame : Frame
no_frame = record { side = Side.Left; channel = record { fd = false; set = ModeSet.Off; references = zero_references } }
