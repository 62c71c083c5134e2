-- The laws of specs/Wholes.antt: from the laws of rounding, by what is exchanged and what is not, and by what soundness compares. Assumes nothing.
use mathlib.Core.Path.{◌≡◌, refl, sym, ap, ◌∙◌}
use mathlib.Core.Bool.{Bool, true, false, cond, false≢true}
use Prim.Native.Nat.{ℕ}
use borrow.Author.Tests.{ne_eqb}
use lib.IntN.{ℤ, pos, negsuc}
use lib.Ieee.{Float, of_bits}
use Rattle.std.specs.Prelude.{Result, Ok, Err, is_ok}
use Rattle.refusals.specs.declared.Refusal.{Refusal}
use Rattle.refusals.proofs.Choices.{and_left, and_right, and_both}
use Rattle.refusals.proofs.Numbers.{accepted_is_0, number_0_is_accepted}
use Rattle.rounding.specs.declared.NoWhole.{NoWhole}
use Rattle.rounding.specs.Whole.{magnitude_of, signed_of, is_i32, in_answer, whole_of, same}
use Rattle.rounding.proofs.Laws.{magnitude_nearest, magnitude_only}
use Rattle.feed.specs.declared.Reading.{Reading}
use Rattle.feed.specs.declared.Readings.{Readings}
use Rattle.feed.specs.declared.Wholes.{Wholes}
use Rattle.feed.specs.Ranges.{within, range_of}
use Rattle.feed.specs.Readings.{kind_of, float_of, exchanged, wrapped, as_kind, whole_reading, judged, reading_verdict, number_of, whole_number, wholes_of}
use Rattle.feed.specs.Sound.{valid, kept, readings_sound}
use Rattle.feed.specs.Wholes.{Nearest, WholeInRange, ReadingLaws, ReadingExamples}
use Rattle.feed.proofs.Same.{same_true, same_self}
use Rattle.feed.proofs.Parts.{readings_parts}

-- a number that is not n stays
pub exchanged_other : (n : ℕ) (y z : ℤ) → (z ≡ pos n → ⊥) → exchanged n y z ≡ z
exchanged_other n y (pos k) h = rw (ne_eqb k n (λ e. h (ap pos e)))
exchanged_other n y (negsuc k) h = refl

-- the nearest integer is what the leaf answers
nearest_whole : (x : Float) (z : ℤ) → Nearest x z → whole_of x ≡ in_answer z
unfolding whole_of
nearest_whole x z n = rw (n.float, n.signed, magnitude_only n.digits n.exponent n.size n.nearest)

-- so the whole value is what the kind makes of that,
of_nearest : (r : Reading) (z : ℤ) → Nearest (float_of r) z → whole_reading r ≡ as_kind (kind_of r) (in_answer z)
unfolding whole_reading
of_nearest r z n = ap (as_kind (kind_of r)) (nearest_whole (float_of r) z n)

-- and the same number where the kind lets it stand
stands : (r : Reading) (z : ℤ) → Nearest (float_of r) z → wrapped (kind_of r) z ≡ z → whole_reading r ≡ in_answer z
stands r z n e = of_nearest r z n ∙ go (is_i32 z)
  where
    go : (t : Bool) → as_kind (kind_of r) (cond t (Ok z) (Err NoWhole.Beyond)) ≡ cond t (Ok z) (Err NoWhole.Beyond)
    go true = ap Ok e
    go false = refl

-- what is accepted is a whole value within the range
judged_in : (r : Reading) (w : Result ℤ NoWhole) → whole_reading r ≡ w → is_ok (judged (range_of (kind_of r)) w) ≡ true → WholeInRange r
judged_in r (Err none) e h = absurd (false≢true h)
judged_in r (Ok z) e h = record { value = z; whole = e; inside = inside (within (range_of (kind_of r)) z) h }
  where
    inside : (t : Bool) → is_ok {T = ℤ} {E = Refusal} (cond t (Ok z) (Err Refusal.OutOfRange)) ≡ true → t ≡ true
    inside true h = refl
    inside false h = h

in_judged : (r : Reading) → WholeInRange r → is_ok (judged (range_of (kind_of r)) (whole_reading r)) ≡ true
in_judged r i = rw (i.whole, i.inside)

-- the number kept beside a reading is its whole value rounded afresh
pub kept_number : (r : Reading) (z : ℤ) → kept r z ≡ true → whole_number r ≡ z
kept_number r z h = same_true (whole_number r) z (and_right (valid r) (same (whole_number r) z) h)

-- that is so just where the reading has that whole value, within its range
is_kept : (r : Reading) (z : ℤ) → kept r z ≡ true → (whole_reading r ≡ Ok z) × (within (range_of (kind_of r)) z ≡ true)
unfolding whole_number reading_verdict
is_kept r z h =
    let i = judged_in r (whole_reading r) refl (and_left (valid r) (same (whole_number r) z) h) in
    let value : i.value ≡ z = sym (ap number_of i.whole) ∙ kept_number r z h in
    (i.whole ∙ ap Ok value, sym (ap (within (range_of (kind_of r))) value) ∙ i.inside)

pub may_keep : (r : Reading) (z : ℤ) → (whole_reading r ≡ Ok z) × (within (range_of (kind_of r)) z ≡ true) → kept r z ≡ true
unfolding whole_number reading_verdict
may_keep r z (e, h) =
    and_both (valid r) (same (whole_number r) z) (in_judged r (record { value = z; whole = e; inside = h }))
    (ap (λ (n : ℤ). same n z) (ap number_of e) ∙ same_self z)

-- so what soundness finds beside six readings are their whole values
pub readings_afresh : (w : Readings) (k : Wholes) → readings_sound w k ≡ true → k ≡ wholes_of w
unfolding wholes_of
readings_afresh w k h =
    let p = readings_parts w k h in
    λ i. record {
      altitude = sym (kept_number _ _ p.altitude) i;
      airspeed = sym (kept_number _ _ p.airspeed) i;
      vertical_speed = sym (kept_number _ _ p.vertical_speed) i;
      roll = sym (kept_number _ _ p.roll) i;
      pitch = sym (kept_number _ _ p.pitch) i;
      heading = sym (kept_number _ _ p.heading) i;
    }

pub reading_laws : ReadingLaws
unfolding reading_verdict whole_reading
reading_laws = record {
  north = λ x n. of_nearest (Reading.Heading x) (pos 360) n;
  heading = λ x z n h. stands (Reading.Heading x) z n (exchanged_other 360 (pos 0) z h);
  inverted = λ x n. of_nearest (Reading.Roll x) (pos 180) n;
  roll = λ x z n h. stands (Reading.Roll x) z n (exchanged_other 180 (negsuc 179) z h);
  altitude = λ x z n. stands (Reading.Altitude x) z n refl;
  airspeed = λ x z n. stands (Reading.Airspeed x) z n refl;
  vertical_speed = λ x z n. stands (Reading.VerticalSpeed x) z n refl;
  pitch = λ x z n. stands (Reading.Pitch x) z n refl;
  finite = λ s m e. (signed_of s (magnitude_of m e), record { sign = s; digits = m; exponent = e; size = magnitude_of m e; float = refl; nearest = magnitude_nearest m e; signed = refl });
  not_finite = λ r e. ap (as_kind (kind_of r)) e;
  accepted = λ r. (λ h. judged_in r (whole_reading r) refl (number_0_is_accepted (reading_verdict r) h), λ i. accepted_is_0 (reading_verdict r) (in_judged r i));
  beside = λ r z. (is_kept r z, may_keep r z);
  afresh = readings_afresh;
}

pub reading_examples : ReadingExamples
unfolding whole_reading reading_verdict whole_number whole_of of_bits
reading_examples = record { north = refl; headings = refl; inverted = refl; rolls = refl; loaded = refl; others = refl }
