-- What is read of a part: by its first 19 bytes alone, as what a frame was made of, and from one frame only. Assumes nothing.
use mathlib.Core.Path.{◌≡◌, refl, sym, ap, ◌∙◌, subst}
use mathlib.Core.Bool.{Bool, true, false, ◌&&◌, cond}
use mathlib.Core.List.{List, [], ◌∷◌, ◌++◌, append-nil}
use Prim.Native.Nat.{ℕ, zero, suc, ◌+◌, ◌*◌, ◌≤◌}
use native.Mathlib.Omega.{arith}
use borrow.Author.Tests.{eqb-true, le-ltb, ltb-true, ltb-false, leb-true}
use lib.Dec.{T, eqb, leb, ltb}
use lib.IntN.{pos, ◌+ℤ◌}
use lib.ListN.{length, take, drop, length-append, take-append-drop}
use lib.Seq.{take_all, drop-cons, length-take-le}
use Rattle.refusals.proofs.Choices.{and_left, and_right, and_both}
use Rattle.sides.specs.declared.Side.{Side}
use Rattle.sides.specs.Sides.{number, side_of}
use Rattle.sides.proofs.Laws.{side_laws}
use Rattle.modes.specs.declared.ModeSet.{ModeSet}
use Rattle.modes.specs.Sets.{coherent_set}
use Rattle.modes.specs.Every.{flag_number}
use Rattle.std.specs.Prelude.{Option, Some, None, Result, Ok, Err}
use Rattle.refusals.specs.declared.Refusal.{Refusal}
use Rattle.refusals.specs.Refusals.{number_of_refusal}
use Rattle.refusals.specs.Told.{told}
use Rattle.modes.specs.Row.{code_of}
use Rattle.codes.specs.Codes.{set_of}
use Rattle.codes.proofs.Laws.{code_laws, decoded}
use Rattle.channels.specs.declared.Channel.{Channel}
use Rattle.channels.specs.declared.references.Reference.{Reference}
use Rattle.channels.specs.Sound.{references_sound, channel_sound}
use Rattle.channels.proofs.Sound.{ReferencesIn, channel_parts}
use Rattle.frames.specs.declared.Frame.{Frame}
use Rattle.frames.specs.Frames.{added, natural, raised, high, low, frame_of, byte_at, one_byte, two_bytes, is_marked, references_in, in_range, frame_in, read_with, fields_read, frame_read, read_at, no_frame}
use Rattle.frames.specs.Laws.{Bytes, accepted_read, ItsFrame}
use Rattle.frames.proofs.Numbers.{two_back, one_back, lowered_back, kept_low, high_of, low_of}
use Rattle.frames.proofs.Areas.{frame_length}

-- ---- the first bytes of a part

-- n bytes from place k on
abbrev bytes_from : ℕ → ℕ → List ℕ → List ℕ
bytes_from zero k part = []
bytes_from (suc n) k part = byte_at part k ∷ bytes_from n (suc k) part

bytes_from_lem : (n k : ℕ) (part : List ℕ) → k + n ≤ length part → take n (drop k part) ≡ bytes_from n k part
bytes_from_lem zero k part h = refl
bytes_from_lem (suc n) k part h =
    ap (take (suc n)) (drop-cons part k 0 (omega arith)) ∙ ap (λ (bs : List ℕ). byte_at part k ∷ bs) (bytes_from_lem n (suc k) part (omega arith))

first_bytes : (part : List ℕ) → 19 ≤ length part → take 19 part ≡ bytes_from 19 0 part
first_bytes part h = bytes_from_lem 19 0 part h

-- a part of 19 bytes or more is judged by its mark and its fields
judged : (part : List ℕ) → 19 ≤ length part → frame_read part ≡ cond (is_marked part) (fields_read part) (Err Refusal.NoFrame)
unfolding frame_read
judged part h = ap (λ (t : Bool). cond t (Err Refusal.NoRoom) (cond (is_marked part) (fields_read part) (Err Refusal.NoFrame))) (le-ltb (length part) 19 h)

-- and these are in the first 19
module _ (part rest rest' : List ℕ) where
  abbrev front : List ℕ → List ℕ
  front rest = bytes_from 19 0 part ++ rest

  long : (rest : List ℕ) → 19 ≤ length (front rest)
  long rest = let l = length-append (bytes_from 19 0 part) rest in omega arith

  same_mark : is_marked (front rest) ≡ is_marked (front rest')
  unfolding is_marked
  same_mark = refl

  same_lem : (s : Result Side Refusal) (k : Option ModeSet) → read_with s k (front rest) ≡ read_with s k (front rest')
  unfolding references_in
  same_lem (Ok s) (Some set) = refl
  same_lem (Ok s) None = refl
  same_lem (Err r) k = refl

  same_fields : fields_read (front rest) ≡ fields_read (front rest')
  unfolding fields_read
  same_fields = same_lem (side_of (byte_at part 5)) (set_of (byte_at part 7))

  first_judged : frame_read (front rest) ≡ frame_read (front rest')
  first_judged =
      judged (front rest) (long rest)
      ∙ (λ i. cond (same_mark i) (same_fields i) (Err Refusal.NoFrame))
      ∙ sym (judged (front rest') (long rest'))

by_first : (part : List ℕ) → frame_read part ≡ frame_read (take 19 part)
by_first part = go (ltb (length part) 19) refl
  where
    go : (t : Bool) → ltb (length part) 19 ≡ t → frame_read part ≡ frame_read (take 19 part)
    go true e = let l = ltb-true (length part) 19 e in ap frame_read (sym (take_all 19 part (omega arith)))
    go false e =
        let first = first_bytes part (ltb-false (length part) 19 e) in
        ap frame_read (sym (take-append-drop 19 part) ∙ ap (λ (bs : List ℕ). bs ++ drop 19 part) first)
        ∙ first_judged part (drop 19 part) []
        ∙ ap frame_read (append-nil (bytes_from 19 0 part) ∙ sym first)

-- what is read of a part whose first 19 bytes are a frame
pub read_by : (part frame : List ℕ) → 19 ≤ length part → frame ≡ take 19 part → frame_read part ≡ cond (is_marked frame) (fields_read frame) (Err Refusal.NoFrame)
read_by part frame h e =
    let long = ap (λ (bs : List ℕ). length bs) e ∙ length-take-le 19 part h in
    by_first part ∙ ap frame_read (sym e) ∙ judged frame (omega arith)

pub local : (start start' : ℕ) (area area' : List ℕ) → take 19 (drop start area) ≡ take 19 (drop start' area') → read_at start area ≡ read_at start' area'
unfolding read_at
local start start' area area' e = by_first (drop start area) ∙ ap frame_read e ∙ sym (by_first (drop start' area'))

-- ---- a frame is read as what it was made of

references_back : (s : Side) (c : Channel) (rest : List ℕ) → ReferencesIn c.references → references_in (frame_of s c ++ rest) ≡ c.references
unfolding references_in frame_of
references_back s c rest ok =
    let r = c.references in
    let heading = two_back Reference.Heading r (ok.each Reference.Heading) in
    let preselected = two_back Reference.Preselected r (ok.each Reference.Preselected) in
    let held = two_back Reference.Held r (ok.each Reference.Held) in
    let vertical_speed = one_back Reference.VerticalSpeed r tt (ok.each Reference.VerticalSpeed) in
    let ias = two_back Reference.Ias r (ok.each Reference.Ias) in
    let roll = one_back Reference.Roll r tt (ok.each Reference.Roll) in
    let pitch = one_back Reference.Pitch r tt (ok.each Reference.Pitch) in
    λ i. record {
      heading = heading i;
      preselected = preselected i;
      held = held i;
      vertical_speed = vertical_speed i;
      ias = ias i;
      roll = roll i;
      pitch = pitch i;
    }

is_true : (t : Bool) → T t → t ≡ true
is_true true h = refl
is_true false h = absurd h

flag_le : (f : Bool) → leb (flag_number f) 1 ≡ true
flag_le true = refl
flag_le false = refl

flag_back : (f : Bool) → eqb (flag_number f) 1 ≡ f
flag_back true = refl
flag_back false = refl

marked : (s : Side) (c : Channel) (rest : List ℕ) → is_marked (frame_of s c ++ rest) ≡ true
unfolding is_marked frame_of
marked s c rest = refl

-- the fields of a frame, from what is known of each
fields_back : (s : Side) (c : Channel) (rest : List ℕ) → channel_sound c ≡ true → fields_read (frame_of s c ++ rest) ≡ accepted_read s c
unfolding fields_read frame_of channel_sound
fields_back s c rest h =
    let part = frame_of s c ++ rest in
    let coherent = and_left (coherent_set c.set) (references_sound c.references) h in
    let references = references_back s c rest (channel_parts c h).references in
    let sound = ap references_sound references ∙ and_right (coherent_set c.set) (references_sound c.references) h in
    ap (λ (n : Result Side Refusal). read_with n (set_of (code_of c.set)) part) ((side_laws.named (number s) s).1 refl)
    ∙ ap (λ (k : Option ModeSet). read_with (Ok s) k part) (code_laws.set_back c.set (subst T (sym coherent) tt))
    ∙ (λ i. cond (flag_le c.fd i && sound i) (Ok (record { side = s; channel = record { fd = flag_back c.fd i; set = c.set; references = references i } })) (Err Refusal.FieldOutOfRange))

pub read_back : (s : Side) (c : Channel) (rest : List ℕ) → T (channel_sound c) → frame_read (frame_of s c ++ rest) ≡ accepted_read s c
read_back s c rest t =
    let part = frame_of s c ++ rest in
    judged part (let l = length-append (frame_of s c) rest in let n = frame_length s c in omega arith)
    ∙ (λ i. cond (marked s c rest i) (fields_back s c rest (is_true (channel_sound c) t) i) (Err Refusal.NoFrame))

-- ---- an accepted read comes from one frame

-- what an accepted read shows of its part
record Shown (part : List ℕ) (f : Frame) : Type 0 where
  pub long : 19 ≤ length part
  pub mark : is_marked part ≡ true
  pub side : Side
  pub named : side_of (byte_at part 5) ≡ Ok side
  pub set : ModeSet
  pub code : set_of (byte_at part 7) ≡ Some set
  pub ranges : in_range part ≡ true
  pub frame : frame_in side set part ≡ f

shown : (part : List ℕ) (f : Frame) → frame_read part ≡ Ok f → Shown part f
unfolding frame_read fields_read
shown part f e = go (ltb (length part) 19) (is_marked part) (side_of (byte_at part 5)) (set_of (byte_at part 7)) refl refl refl refl e
  where
    with_set : (s : Side) (set : ModeSet) → 19 ≤ length part → is_marked part ≡ true → side_of (byte_at part 5) ≡ Ok s → set_of (byte_at part 7) ≡ Some set →
        (t : Bool) → in_range part ≡ t → cond t (Ok (frame_in s set part)) (Err Refusal.FieldOutOfRange) ≡ Ok f → Shown part f
    with_set s set l m n k false t e = absurd (cc)
    with_set s set l m n k true t e = record { long = l; mark = m; side = s; named = n; set = set; code = k; ranges = t; frame = cc }

    go : (t u : Bool) (s : Result Side Refusal) (k : Option ModeSet) → ltb (length part) 19 ≡ t → is_marked part ≡ u → side_of (byte_at part 5) ≡ s → set_of (byte_at part 7) ≡ k →
        cond t (Err Refusal.NoRoom) (cond u (read_with s k part) (Err Refusal.NoFrame)) ≡ Ok f → Shown part f
    go true u s k p q n r e = absurd (cc)
    go false false s k p q n r e = absurd (cc)
    go false true (Err x) k p q n r e = absurd (cc)
    go false true (Ok s) None p q n r e = absurd (cc)
    go false true (Ok s) (Some set) p q n r e = with_set s set (ltb-false (length part) 19 p) q n r (in_range part) refl e

-- the five bytes in front
record Marked (part : List ℕ) : Type 0 where
  pub f : byte_at part 0 ≡ 70
  pub g : byte_at part 1 ≡ 71
  pub b : byte_at part 2 ≡ 66
  pub high : byte_at part 3 ≡ 0
  pub low : byte_at part 4 ≡ 1

marks : (part : List ℕ) → is_marked part ≡ true → Marked part
unfolding is_marked
marks part h =
    let f = eqb (byte_at part 0) 70 in
    let g = eqb (byte_at part 1) 71 in
    let b = eqb (byte_at part 2) 66 in
    let high = eqb (byte_at part 3) 0 in
    let low = eqb (byte_at part 4) 1 in
    let to_high = and_left (f && g && b && high) low h in
    let to-b = and_left (f && g && b) high to_high in
    let to-g = and_left (f && g) b to-b in
    record {
      f = eqb-true _ 70 (and_left f g to-g);
      g = eqb-true _ 71 (and_right f g to-g);
      b = eqb-true _ 66 (and_right (f && g) b to-b);
      high = eqb-true _ 0 (and_right (f && g && b) high to_high);
      low = eqb-true _ 1 (and_right (f && g && b && high) low h);
    }

flag_of : (n : ℕ) → leb n 1 ≡ true → flag_number (eqb n 1) ≡ n
flag_of zero h = refl
flag_of (suc zero) h = refl
flag_of (suc (suc n)) h = absurd (let l = leb-true (suc (suc n)) 1 h in omega arith)

-- the bytes of what two bytes say, and of what one says
two_of : (part : List ℕ) → Bytes part → (k : ℕ) (n : Reference) → (high (natural (two_bytes part k n +ℤ pos (added n))) ≡ byte_at part k) × (low (natural (two_bytes part k n +ℤ pos (added n))) ≡ byte_at part (k + 1))
two_of part all k n =
    let same = lowered_back (added n) (byte_at part k * 256 + byte_at part (k + 1)) in (
      ap high same ∙ high_of (byte_at part k) (byte_at part (k + 1)) (all k) (all (k + 1)),
      ap low same ∙ low_of (byte_at part k) (byte_at part (k + 1)) (all (k + 1)),
    )

one_of : (part : List ℕ) → Bytes part → (k : ℕ) (n : Reference) → low (natural (one_byte part k n +ℤ pos (added n))) ≡ byte_at part k
one_of part all k n = ap low (lowered_back (added n) (byte_at part k)) ∙ kept_low (byte_at part k) (all k)

-- the frame of what a part says is the part's first 19 bytes
its_bytes : (part : List ℕ) → Bytes part → {f : Frame} → (s : Shown part f) → take 19 part ≡ frame_of s.side (frame_in s.side s.set part).channel
unfolding frame_of references_in raised
its_bytes part all s =
    let m = marks part s.mark in
    let side = (side_laws.named (byte_at part 5) s.side).0 s.named in
    let fd = flag_of (byte_at part 6) (and_left (leb (byte_at part 6) 1) (references_sound (references_in part)) s.ranges) in
    let code = (decoded (byte_at part 7) s.set s.code).1 in
    let heading = two_of part all 8 Reference.Heading in
    let vertical_speed = one_of part all 10 Reference.VerticalSpeed in
    let roll = one_of part all 11 Reference.Roll in
    let pitch = one_of part all 12 Reference.Pitch in
    let ias = two_of part all 13 Reference.Ias in
    let preselected = two_of part all 15 Reference.Preselected in
    let held = two_of part all 17 Reference.Held in
    first_bytes part s.long
    ∙ (λ i.
    m.f i ∷ m.g i ∷ m.b i ∷ m.high i ∷ m.low i ∷ side i ∷ sym fd i ∷ sym code i ∷ sym heading.0 i ∷ sym heading.1 i ∷ sym vertical_speed i
    ∷ sym roll i ∷ sym pitch i ∷ sym ias.0 i ∷ sym ias.1 i ∷ sym preselected.0 i ∷ sym preselected.1 i ∷ sym held.0 i ∷ sym held.1 i ∷ [])

pub one_frame : (part : List ℕ) → Bytes part → (f : Frame) → frame_read part ≡ Ok f → ItsFrame part f
unfolding channel_sound
one_frame part all f e =
    let s = shown part f e in
    let coherent = is_true (coherent_set s.set) (decoded (byte_at part 7) s.set s.code).0 in
    let in_ranges = and_right (leb (byte_at part 6) 1) (references_sound (references_in part)) s.ranges in
    subst (ItsFrame part) s.frame
    (record {
      sound = subst T (sym (and_both (coherent_set s.set) (references_sound (references_in part)) coherent in_ranges)) tt;
      bytes = its_bytes part all s;
    })

pub same_bytes : (p q : List ℕ) → Bytes p → Bytes q → (f : Frame) → frame_read p ≡ Ok f → frame_read q ≡ Ok f → take 19 p ≡ take 19 q
same_bytes p q all all' f e e' = (one_frame p all f e).bytes ∙ sym (one_frame q all' f e').bytes

pub refused_read : (part : List ℕ) (r : Refusal) → frame_read part ≡ Err r → told no_frame (frame_read part) ≡ record { refusal = number_of_refusal r; value = no_frame }
refused_read part r e = ap (told no_frame) e
