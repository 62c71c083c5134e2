-- The laws of frames. Document 02, 2026-02. `frame_laws` and `frame_examples` of `proofs/Laws.antt` prove them. That a frame is no send needs no law: a write
-- only looks at its bench, and a read is given none.
use Rattle.std.specs.Prelude.{◌≡◌, true, List, [], ◌∷◌, ◌++◌, ℕ, ◌+◌, ◌<◌, T, pos, negsuc, length, take, drop, get_or, Result, Ok, Err}
use Rattle.refusals.specs.declared.Refusal.{Refusal}
use Rattle.refusals.specs.Refusals.{number_of_refusal}
use Rattle.refusals.specs.Told.{told}
use Rattle.sides.specs.declared.Side.{Side}
use Rattle.sides.specs.Sides.{number, at}
use Rattle.modes.specs.declared.Lateral.{Lateral}
use Rattle.modes.specs.declared.ArmedLateral.{ArmedLateral}
use Rattle.modes.specs.declared.Vertical.{Vertical}
use Rattle.modes.specs.declared.ModeSet.{ModeSet}
use Rattle.modes.specs.Every.{of_parts}
use Rattle.channels.specs.declared.Channel.{Channel}
use Rattle.channels.specs.Sound.{channel_sound}
use Rattle.bench.specs.declared.Bench.{Bench}
use Rattle.bench.specs.Holds.{power_on}
use Rattle.frames.specs.declared.Frame.{Frame}
use Rattle.frames.specs.Frames.{frame_of, write_verdict, area_written, frame_read, read_at, no_frame}

-- all of a list are bytes
abbrev pub Bytes : List ℕ → Type 0
Bytes part = (k : ℕ) → get_or part k 0 < 256

abbrev pub accepted_read : Side → Channel → Result Frame Refusal
accepted_read s c = Ok (record { side = s; channel = c })

-- what is read is what a sound bench could hold, and the part begins with the frame that writing it makes
pub record ItsFrame (part : List ℕ) (f : Frame) : Type 0 where
  pub sound : T (channel_sound f.channel)
  pub bytes : take 19 part ≡ frame_of f.side f.channel

pub record FrameLaws : Type 0 where
  pub long : (s : Side) (c : Channel) → length (frame_of s c) ≡ 19
  -- a frame, whatever follows it, is read as what it was made of
  pub read_back : (s : Side) (c : Channel) (rest : List ℕ) → T (channel_sound c) → frame_read (frame_of s c ++ rest) ≡ accepted_read s c
  -- so what was written is read at its start: the side, and what the bench holds of it
  pub write_read : (b : Bench) (s : Side) (start : ℕ) (area : List ℕ) → write_verdict b (number s) start area ≡ Ok tt
      → read_at start (area_written b (number s) start area) ≡ accepted_read s (at s b.sides)
  -- an accepted read comes from exactly the frame of its answer,
  pub one_frame : (part : List ℕ) → Bytes part → (f : Frame) → frame_read part ≡ Ok f → ItsFrame part f
  -- so that the same comes from the same bytes only
  pub same_bytes : (p q : List ℕ) → Bytes p → Bytes q → (f : Frame) → frame_read p ≡ Ok f → frame_read q ≡ Ok f → take 19 p ≡ take 19 q
  -- a second write of the same changes nothing
  pub twice : (b : Bench) (n start : ℕ) (area : List ℕ) → area_written b n start (area_written b n start area) ≡ area_written b n start area
  -- a write changes no byte before its start or behind the 19, and a refused one none at all
  pub same_length : (b : Bench) (n start : ℕ) (area : List ℕ) → length (area_written b n start area) ≡ length area
  pub before : (b : Bench) (n start : ℕ) (area : List ℕ) → take start (area_written b n start area) ≡ take start area
  pub behind : (b : Bench) (n start : ℕ) (area : List ℕ) → drop (start + 19) (area_written b n start area) ≡ drop (start + 19) area
  pub refused_write : (b : Bench) (n start : ℕ) (area : List ℕ) → (write_verdict b n start area ≡ Ok tt → ⊥) → area_written b n start area ≡ area
  -- a read looks at no byte but its 19: areas that agree there, also at different starts, are read alike
  pub local : (start start' : ℕ) (area area' : List ℕ) → take 19 (drop start area) ≡ take 19 (drop start' area') → read_at start area ≡ read_at start' area'
  -- a refused read is zeros but for its number
  pub refused_read : (part : List ℕ) (r : Refusal) → frame_read part ≡ Err r → told no_frame (frame_read part) ≡ record { refusal = number_of_refusal r; value = no_frame }

-- ---- worked frames

-- LAPPR engaged and NAV armed, FLC engaged and VAPPR armed, and each reference at an end of its range or near it
abbrev pub busy : Channel
busy = record {
  fd = true;
  set = ModeSet.On (of_parts Lateral.Lappr ArmedLateral.Nav Vertical.Flc true);
  references = record { heading = pos 359; preselected = negsuc 7999; held = pos 56000; vertical_speed = negsuc 49; ias = pos 400; roll = pos 27; pitch = negsuc 0 };
}

pub record FrameExamples : Type 0 where
  -- the left side at power-on
  pub start : frame_of Side.Left power_on.sides.left ≡ 70 ∷ 71 ∷ 66 ∷ 0 ∷ 1 ∷ 0 ∷ 0 ∷ 0 ∷ 0 ∷ 0 ∷ 50 ∷ 27 ∷ 20 ∷ 0 ∷ 120 ∷ 31 ∷ 64 ∷ 31 ∷ 64 ∷ []
  -- 359 is 1, 103; 400 is 1, 144; 64,000 is 250, 0
  pub many : frame_of Side.Right busy ≡ 70 ∷ 71 ∷ 66 ∷ 0 ∷ 1 ∷ 1 ∷ 1 ∷ 77 ∷ 1 ∷ 103 ∷ 0 ∷ 54 ∷ 19 ∷ 1 ∷ 144 ∷ 0 ∷ 0 ∷ 250 ∷ 0 ∷ []
