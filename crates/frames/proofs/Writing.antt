-- What a write leaves: the frame at its start, where it is read back, and every other byte. Assumes nothing.
use mathlib.Core.Path.{◌≡◌, refl, sym, ap, ◌∙◌, subst}
use mathlib.Core.Bool.{Bool, true, false, cond}
use mathlib.Core.List.{List, ◌++◌}
use Prim.Native.Nat.{ℕ, ◌+◌, ◌≤◌}
use native.Mathlib.Omega.{arith}
use borrow.Author.Tests.{le-leb, leb-true}
use lib.Dec.{T}
use lib.ListN.{length, take, drop, length-append, length-drop}
use lib.Seq.{drop-drop, take_at, drop_at, length-take-le}
use Rattle.std.specs.Prelude.{Result, Ok, Err}
use Rattle.std.specs.Result.{result_and}
use Rattle.refusals.specs.declared.Refusal.{Refusal}
use Rattle.refusals.specs.Refusals.{Verdict}
use Rattle.sides.specs.declared.Side.{Side}
use Rattle.sides.specs.Sides.{number, side_of, at}
use Rattle.sides.proofs.Laws.{side_laws, of_both}
use Rattle.channels.specs.Sound.{channel_sound}
use Rattle.channels.proofs.Sound.{channel_whole}
use Rattle.bench.specs.declared.Bench.{Bench}
use Rattle.bench.specs.Sound.{sound}
use Rattle.bench.proofs.SoundParts.{parts}
use Rattle.frames.specs.Frames.{frame_of, fits, with_room, side_written, write_verdict, laid, area_left, area_written, frame_read, read_at}
use Rattle.frames.specs.Laws.{accepted_read}
use Rattle.frames.proofs.Areas.{frame_length, kept, by_room}
use Rattle.frames.proofs.Reading.{read_back}

pub record Accepted (b : Bench) (n start : ℕ) (area : List ℕ) : Type 0 where
  pub bench : sound b ≡ true
  pub side : Side
  pub named : side_of n ≡ Ok side
  pub room : start + 19 ≤ length area

pub accepted_write : (b : Bench) (n start : ℕ) (area : List ℕ) → write_verdict b n start area ≡ Ok tt → Accepted b n start area
unfolding side_written
accepted_write b n start area e = go (sound b) (side_of n) (fits start area) refl refl refl e
  where
    go : (t : Bool) (s : Result Side Refusal) (u : Bool) → sound b ≡ t → side_of n ≡ s → fits start area ≡ u →
        ◌≡◌ {A = Verdict} (result_and (cond t (with_room start area s) (Err Refusal.UnsoundBench)) (Ok tt)) (Ok tt) → Accepted b n start area
    go true (Ok s) true p q r e = record { bench = p; side = s; named = q; room = leb-true (start + 19) (length area) r }
    go true (Ok s) false p q r e = absurd (let k : result_and (cond (fits start area) (Ok s) (Err Refusal.NoRoom)) (Ok tt) ≡ Ok tt = e in cc)
    go true (Err x) u p q r e = absurd (cc)
    go false s u p q r e = absurd (cc)

-- the side that is written is the one that is named
write_side : (b : Bench) (n start : ℕ) (area : List ℕ) → (a : Accepted b n start area) → side_written b n start area ≡ Ok a.side
write_side b n start area a = by_room b n start area a.side a.bench a.named ∙ ap (λ (t : Bool). cond t (Ok a.side) (Err Refusal.NoRoom)) (le-leb (start + 19) (length area) a.room)

-- the channel of a side of a sound bench is sound
side_sound : (b : Bench) (s : Side) → sound b ≡ true → T (channel_sound (at s b.sides))
side_sound b s h = subst T (sym (channel_whole (at s b.sides) (of_both (parts b h).sides s))) tt

module _ (bytes : List ℕ) (start : ℕ) (area : List ℕ) (h : start + length bytes ≤ length area) where
  head : length (take start area) ≡ start
  head = length-take-le start area (omega arith)

  take_laid : take start (laid start bytes area) ≡ take start area
  take_laid = take_at (take start area) (bytes ++ drop (start + length bytes) area) start head

  from_laid : drop start (laid start bytes area) ≡ bytes ++ drop (start + length bytes) area
  from_laid = drop_at (take start area) (bytes ++ drop (start + length bytes) area) start head

  drop_laid : drop (start + length bytes) (laid start bytes area) ≡ drop (start + length bytes) area
  drop_laid =
      sym (drop-drop (length bytes) start (laid start bytes area))
      ∙ ap (drop (length bytes)) from_laid
      ∙ drop_at bytes (drop (start + length bytes) area) (length bytes) refl

  pub length_laid : length (laid start bytes area) ≡ length area
  length_laid =
      let all = length-append (take start area) (bytes ++ drop (start + length bytes) area) in
      let rest = length-append bytes (drop (start + length bytes) area) in
      let past = length-drop (start + length bytes) area in
      let first = head in
      omega arith

  laid_twice : laid start bytes (laid start bytes area) ≡ laid start bytes area
  laid_twice = λ i. take_laid i ++ (bytes ++ drop_laid i)

written_accepted : (b : Bench) (n start : ℕ) (area : List ℕ) → (a : Accepted b n start area) → area_written b n start area ≡ laid start (frame_of a.side (at a.side b.sides)) area
unfolding area_written
written_accepted b n start area a = ap (area_left b start area) (write_side b n start area a)

-- a law of the area after a write, where it is refused and where it is accepted
by_write : (P : List ℕ → Type 0) (b : Bench) (n start : ℕ) (area : List ℕ) → (area_written b n start area ≡ area → P area) →
    ((a : Accepted b n start area) → P (laid start (frame_of a.side (at a.side b.sides)) area)) → P (area_written b n start area)
by_write P b n start area p q = go (write_verdict b n start area) refl
  where
    go : (v : Verdict) → write_verdict b n start area ≡ v → P (area_written b n start area)
    go (Ok x) e = let a = accepted_write b n start area e in subst P (sym (written_accepted b n start area a)) (q a)
    go (Err r) e = let k = kept b n start area (λ a. cc) in subst P (sym k) (p k)

module _ (b : Bench) (n start : ℕ) (area : List ℕ) where
  -- the frame of an accepted write, and room for it by its own length
  abbrev frame : Accepted b n start area → List ℕ
  frame a = frame_of a.side (at a.side b.sides)

  frame_room : (a : Accepted b n start area) → start + length (frame a) ≤ length area
  frame_room a = subst (λ (k : ℕ). start + k ≤ length area) (sym (frame_length a.side (at a.side b.sides))) a.room

  pub same_length : length (area_written b n start area) ≡ length area
  same_length = by_write (λ (l : List ℕ). length l ≡ length area) b n start area (λ k. refl) (λ a. length_laid (frame a) start area (frame_room a))

  pub before : take start (area_written b n start area) ≡ take start area
  before = by_write (λ (l : List ℕ). take start l ≡ take start area) b n start area (λ k. refl) (λ a. take_laid (frame a) start area (frame_room a))

  pub behind : drop (start + 19) (area_written b n start area) ≡ drop (start + 19) area
  behind =
      by_write (λ (l : List ℕ). drop (start + 19) l ≡ drop (start + 19) area) b n start area (λ k. refl)
      (λ a.
      subst (λ (k : ℕ). drop (start + k) (laid start (frame a) area) ≡ drop (start + k) area) (frame_length a.side (at a.side b.sides))
      (drop_laid (frame a) start area (frame_room a)))

  pub twice : area_written b n start (area_written b n start area) ≡ area_written b n start area
  twice =
      by_write (λ (l : List ℕ). area_written b n start l ≡ l) b n start area (λ k. k)
      (λ a.
      let again : Accepted b n start (laid start (frame a) area) = record {
        bench = a.bench;
        side = a.side;
        named = a.named;
        room = let l = length_laid (frame a) start area (frame_room a) in let r = a.room in omega arith;
      } in
      written_accepted b n start (laid start (frame a) area) again ∙ laid_twice (frame a) start area (frame_room a))

  -- what is read of an area after an accepted write
  read_accepted : (a : Accepted b n start area) → read_at start (area_written b n start area) ≡ accepted_read a.side (at a.side b.sides)
  unfolding read_at
  read_accepted a =
      ap (λ (l : List ℕ). frame_read (drop start l)) (written_accepted b n start area a)
      ∙ ap frame_read (from_laid (frame a) start area (frame_room a))
      ∙ read_back a.side (at a.side b.sides) (drop (start + length (frame a)) area) (side_sound b a.side a.bench)

pub write_read : (b : Bench) (s : Side) (start : ℕ) (area : List ℕ) → write_verdict b (number s) start area ≡ Ok tt
    → read_at start (area_written b (number s) start area) ≡ accepted_read s (at s b.sides)
write_read b s start area e =
    let a = accepted_write b (number s) start area e in
    let same : a.side ≡ s = let x = a.named in let y = (side_laws.named (number s) s).1 refl in cc in
    subst (λ (t : Side). read_at start (area_written b (number s) start area) ≡ accepted_read t (at t b.sides)) same (read_accepted b (number s) start area a)
