-- Parts of an area: the part from a start on, and the area once the part has changed. Assumes nothing.
use mathlib.Core.Path.{◌≡◌, refl, sym, ap, ◌∙◌}
use mathlib.Core.Bool.{Bool, true, false, not, cond}
use mathlib.Core.List.{List, ◌++◌, append-nil}
use Prim.Native.Nat.{ℕ, ◌+◌, ◌-◌, ◌≤◌}
use native.Mathlib.Omega.{arith}
use borrow.Author.Tests.{lt-ltb, le-ltb, leb-true, leb-false}
use lib.Dec.{ltb}
use lib.ListN.{length, take, drop, length-drop}
use lib.Seq.{take_all, drop-length, drop-drop}
use borrow.Rule.Slice.PartMut.{put_mid, put_same, Post-is}
use Rattle.std.specs.Prelude.{Result, Ok, Err}
use Rattle.std.specs.Result.{result_and}
use Rattle.refusals.specs.declared.Refusal.{Refusal}
use Rattle.refusals.specs.Refusals.{Verdict}
use Rattle.sides.specs.declared.Side.{Side}
use Rattle.sides.specs.Sides.{side_of, at}
use Rattle.channels.specs.declared.Channel.{Channel}
use Rattle.bench.specs.declared.Bench.{Bench}
use Rattle.bench.specs.Sound.{sound}
use Rattle.frames.specs.Frames.{frame_of, fits, laid, side_written, write_verdict, area_left, area_written}

-- the part of an area from a start on, as a slice of it is taken
abbrev pub from : ℕ → List ℕ → List ℕ
from start area = take (length area - start) (drop start area)

pub from_is : (start : ℕ) (area : List ℕ) → from start area ≡ drop start area
from_is start area = take_all (length area - start) (drop start area) (omega (arith, length-drop start area))

-- the part with a frame in front, put back, is the frame laid over the area
pub put_frame : (frame : List ℕ) (start : ℕ) (area : List ℕ) → start ≤ length area →
    put_mid start (length area - start) area (frame ++ drop (length frame) (from start area)) ≡ laid start frame area
put_frame frame start area h =
    ap (λ (rest : List ℕ). take start area ++ ((frame ++ drop (length frame) (from start area)) ++ rest)) (Post-is start (length area) area h ∙ drop-length area)
    ∙ ap (λ (rest : List ℕ). take start area ++ rest) (append-nil (frame ++ drop (length frame) (from start area)))
    ∙ ap (λ (part : List ℕ). take start area ++ (frame ++ drop (length frame) part)) (from_is start area)
    ∙ ap (λ (rest : List ℕ). take start area ++ (frame ++ rest)) (drop-drop (length frame) start area)

-- ---- a write that is not refused with 1 or 2, from what the writer of a part leaves

pub frame_length : (s : Side) (c : Channel) → length (frame_of s c) ≡ 19
unfolding frame_of
frame_length s c = refl

-- fewer than 19 bytes remain where the frame does not fit
room : (start : ℕ) (area : List ℕ) → start ≤ length area → ltb (length (from start area)) 19 ≡ not (fits start area)
room start area h = go (fits start area) refl
  where
    long : length (from start area) ≡ length area - start
    long = ap (λ (l : List ℕ). length l) (from_is start area) ∙ length-drop start area

    go : (t : Bool) → fits start area ≡ t → ltb (length (from start area)) 19 ≡ not t
    go true e = le-ltb (length (from start area)) 19 (let k = leb-true (start + 19) (length area) e in let l = long in omega arith)
    go false e = lt-ltb (length (from start area)) 19 (let k = leb-false (start + 19) (length area) e in let l = long in omega arith)

-- a refused write leaves the area
pub kept : (b : Bench) (n start : ℕ) (area : List ℕ) → (write_verdict b n start area ≡ Ok tt → ⊥) → area_written b n start area ≡ area
unfolding area_written
kept b n start area h = go (side_written b n start area) h
  where
    go : (v : Result Side Refusal) → (◌≡◌ {A = Verdict} (result_and v (Ok tt)) (Ok tt) → ⊥) → area_left b start area v ≡ area
    go (Ok s) h = absurd (h refl)
    go (Err r) h = refl

module _ (b : Bench) (n start : ℕ) (area : List ℕ) (s : Side) (sound-b : sound b ≡ true) (named : side_of n ≡ Ok s) where
  pub by_room : side_written b n start area ≡ cond (fits start area) (Ok s) (Err Refusal.NoRoom)
  unfolding side_written
  by_room = rw (sound-b, named)

  pub area_is : start ≤ length area → (c : Channel) → c ≡ at s b.sides → (last : List ℕ) →
      last ≡ cond (ltb (length (from start area)) 19) (from start area) (frame_of s c ++ drop 19 (from start area)) →
      put_mid start (length area - start) area last ≡ area_written b n start area
  unfolding area_written
  area_is h c same last e =
      ap (λ (l : List ℕ). put_mid start (length area - start) area l) (e ∙ ap (λ (t : Bool). cond t (from start area) (frame_of s c ++ drop 19 (from start area))) (room start area h))
      ∙ go (fits start area)
      ∙ sym (ap (area_left b start area) by_room)
    where
      go : (t : Bool) → put_mid start (length area - start) area (cond (not t) (from start area) (frame_of s c ++ drop 19 (from start area)))
          ≡ area_left b start area (cond t (Ok s) (Err Refusal.NoRoom))
      go true =
          ap (λ (k : ℕ). put_mid start (length area - start) area (frame_of s c ++ drop k (from start area))) (sym (frame_length s c))
          ∙ put_frame (frame_of s c) start area h
          ∙ ap (λ (c : Channel). laid start (frame_of s c) area) same
      go false = put_same start (length area - start) area
