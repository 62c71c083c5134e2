-- An accepted reading, kept with its whole value, keeps what stands beside it sound. Assumes nothing.
use mathlib.Core.Path.{◌≡◌}
use mathlib.Core.Bool.{Bool, true, false, cond}
use lib.IntN.{ℤ}
use Rattle.std.specs.Prelude.{Result, Ok, Err}
use Rattle.refusals.specs.declared.Refusal.{Refusal}
use Rattle.refusals.proofs.Choices.{and_both}
use Rattle.rounding.specs.Whole.{same}
use Rattle.rounding.specs.declared.NoWhole.{NoWhole}
use Rattle.feed.specs.declared.Reading.{Reading}
use Rattle.feed.specs.declared.Readings.{Readings}
use Rattle.feed.specs.declared.Wholes.{Wholes}
use Rattle.feed.specs.declared.ranges.Range.{Range}
use Rattle.feed.specs.Ranges.{within, range_of}
use Rattle.feed.specs.Readings.{kind_of, judged, number_of, whole_reading, whole_number, reading_verdict, stored, with_whole}
use Rattle.feed.specs.Sound.{valid, kept, readings_sound}
use Rattle.feed.proofs.Same.{same_self}
use Rattle.feed.proofs.Parts.{ReadingsIn, readings_parts, readings_whole}

-- what is accepted as z has the whole value z
judged_value : (g : Range) (w : Result ℤ NoWhole) (z : ℤ) → judged g w ≡ Ok z → number_of w ≡ z
judged_value g (Err none) z e = cc
judged_value g (Ok y) z e = go (within g y) e
  where
    go : (t : Bool) → ◌≡◌ {A = Result ℤ Refusal} (cond t (Ok y) (Err Refusal.OutOfRange)) (Ok z) → y ≡ z
    go true e = cc
    go false e = cc

pub accepted_whole : (r : Reading) (z : ℤ) → reading_verdict r ≡ Ok z → whole_number r ≡ z
unfolding reading_verdict whole_number
accepted_whole r z e = judged_value (range_of (kind_of r)) (whole_reading r) z e

-- so that z may stand beside it
accepted_kept : (r : Reading) (z : ℤ) → reading_verdict r ≡ Ok z → kept r z ≡ true
accepted_kept r z e =
    and_both (valid r) (same (whole_number r) z) (rw e) (rw (accepted_whole r z e) (same_self z))

put_in : (r : Reading) (z : ℤ) (w : Readings) (k : Wholes) → kept r z ≡ true → ReadingsIn w k → ReadingsIn (stored r w) (with_whole (kind_of r) z k)
unfolding stored
put_in (Reading.Altitude x) z w k e h = search
put_in (Reading.Airspeed x) z w k e h = search
put_in (Reading.VerticalSpeed x) z w k e h = search
put_in (Reading.Roll x) z w k e h = search
put_in (Reading.Pitch x) z w k e h = search
put_in (Reading.Heading x) z w k e h = search

pub stored_sound : (r : Reading) (z : ℤ) (w : Readings) (k : Wholes) → reading_verdict r ≡ Ok z → readings_sound w k ≡ true → readings_sound (stored r w) (with_whole (kind_of r) z k) ≡ true
stored_sound r z w k e h = readings_whole _ _ (put_in r z w k (accepted_kept r z e) (readings_parts w k h))
