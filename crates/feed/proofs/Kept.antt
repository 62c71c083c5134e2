-- What stands beside a reading is judged without rounding: the number by its range, and the float by whether the number is its whole value. Assumes nothing.
use mathlib.Core.Path.{◌≡◌, refl, sym, ap, ◌∙◌}
use mathlib.Core.Bool.{Bool, true, false, ◌&&◌, ◌||◌, cond, true≢false}
use Prim.Native.Nat.{ℕ}
use borrow.Author.Tests.{eqb-true}
use lib.Dec.{eqb}
use lib.IntN.{ℤ, pos, negsuc}
use Rattle.std.specs.Prelude.{Result, Ok, Err, is_ok}
use Rattle.refusals.specs.declared.Refusal.{Refusal}
use Rattle.rounding.specs.declared.NoWhole.{NoWhole}
use Rattle.rounding.specs.Whole.{whole_of, same, is_whole}
use Rattle.feed.specs.declared.Kind.{Kind}
use Rattle.feed.specs.declared.Reading.{Reading}
use Rattle.feed.specs.declared.ranges.Range.{Range}
use Rattle.feed.specs.Private.{reads_as}
use Rattle.feed.specs.Ranges.{within, range_of}
use Rattle.feed.specs.Readings.{kind_of, exchanged, wrapped, as_kind, judged, number_of, whole_reading, whole_number, reading_verdict}
use Rattle.feed.specs.Sound.{kept}
use Rattle.feed.proofs.Same.{same_true}

-- no number is kept where there is no whole value
none : (t : Bool) → (t && false) ≡ false
none true = refl
none false = refl

-- what is answered of a whole value that lies within the range, or not
abbrev at : ℤ → Bool → Result ℤ Refusal
at y t = cond t (Ok y) (Err Refusal.OutOfRange)

-- a number is judged where it is kept, since the two are then the same
judged_kept : (g : Range) (y z : ℤ) → (is_ok (at y (within g y)) && same y z) ≡ (within g z && same y z)
judged_kept g y z = go (same y z) refl
  where
    bit : (x : ℤ) (t : Bool) → (is_ok (at x t) && true) ≡ (t && true)
    bit x true = refl
    bit x false = refl

    clear : (t u : Bool) → (is_ok (at y t) && false) ≡ (u && false)
    clear true true = refl
    clear true false = refl
    clear false true = refl
    clear false false = refl

    go : (s : Bool) → same y z ≡ s → (is_ok (at y (within g y)) && s) ≡ (within g z && s)
    go true e = rw (same_true y z e) (bit z (within g z))
    go false e = clear (within g y) (within g z)

-- a flag that is clear adds nothing
plain : (t a b : Bool) → (t && a) ≡ (t && (a || (b && false)))
plain t true b = refl
plain t false true = refl
plain t false false = refl

-- where n, which lies outside the range, is read as v
exchange : (g : Range) (n : ℕ) (v : ℤ) → within g (pos n) ≡ false → (y z : ℤ) → (within g z && same (exchanged n v y) z) ≡ (within g z && (same y z || (same v z && same y (pos n))))
exchange g n v out (negsuc k) z = plain (within g z) (same (negsuc k) z) (same v z)
exchange g n v out (pos k) z = go (eqb k n) refl
  where
    here : (t a b : Bool) → (a ≡ true → t ≡ false) → (t && b) ≡ (t && (a || (b && true)))
    here false a b h = refl
    here true false true h = refl
    here true false false h = refl
    here true true b h = absurd (true≢false (h refl))

    outside : k ≡ n → same (pos k) z ≡ true → within g z ≡ false
    outside e s = rw (← same_true (pos k) z s, e) out

    go : (t : Bool) → eqb k n ≡ t → (within g z && same (cond t v (pos k)) z) ≡ (within g z && (same (pos k) z || (same v z && t)))
    go true e = here (within g z) (same (pos k) z) (same v z) (outside (eqb-true k n e))
    go false e = plain (within g z) (same (pos k) z) (same v z)

-- by what rounding answers; f is whether it is the number that is read otherwise
by_answer : (k : Kind) (z : ℤ) (f : Result ℤ NoWhole → Bool) → ((n : NoWhole) → f (Err n) ≡ false)
    → ((y : ℤ) → (within (range_of k) z && same (wrapped k y) z) ≡ (within (range_of k) z && (same y z || f (Ok y))))
    → (w : Result ℤ NoWhole) → (within (range_of k) z && (is_whole z w || f w)) ≡ (is_ok (judged (range_of k) (as_kind k w)) && same (number_of (as_kind k w)) z)
by_answer k z f never h (Err n) = ap (λ (t : Bool). within (range_of k) z && t) (never n) ∙ none (within (range_of k) z)
by_answer k z f never h (Ok y) = sym (h y) ∙ sym (judged_kept (range_of k) (wrapped k y) z)

-- of a kind that reads every number as itself
itself : (k : Kind) (z : ℤ) → ((y : ℤ) → wrapped k y ≡ y) → (w : Result ℤ NoWhole)
    → (within (range_of k) z && (is_whole z w || false)) ≡ (is_ok (judged (range_of k) (as_kind k w)) && same (number_of (as_kind k w)) z)
itself k z same_number =
    by_answer k z (λ w. false) (λ n. refl) (λ y. ap (λ (n : ℤ). within (range_of k) z && same n z) (same_number y) ∙ plain (within (range_of k) z) (same y z) false)

-- of a kind that reads n, which lies outside its range, as v
otherwise : (k : Kind) (z : ℤ) (n : ℕ) (v : ℤ) → within (range_of k) (pos n) ≡ false → ((y : ℤ) → wrapped k y ≡ exchanged n v y) → (w : Result ℤ NoWhole)
    → (within (range_of k) z && (is_whole z w || (same v z && is_whole (pos n) w))) ≡ (is_ok (judged (range_of k) (as_kind k w)) && same (number_of (as_kind k w)) z)
otherwise k z n v out is =
    by_answer k z (λ w. same v z && is_whole (pos n) w) (λ e. none (same v z)) (λ y. ap (λ (n : ℤ). within (range_of k) z && same n z) (is y) ∙ exchange (range_of k) n v out y z)

pub kept_is : (r : Reading) (z : ℤ) → (within (range_of (kind_of r)) z && reads_as r z) ≡ kept r z
unfolding reading_verdict whole_number whole_reading
kept_is (Reading.Altitude x) z = itself Kind.Altitude z (λ y. refl) (whole_of x)
kept_is (Reading.Airspeed x) z = itself Kind.Airspeed z (λ y. refl) (whole_of x)
kept_is (Reading.VerticalSpeed x) z = itself Kind.VerticalSpeed z (λ y. refl) (whole_of x)
kept_is (Reading.Roll x) z = otherwise Kind.Roll z 180 (negsuc 179) refl (λ y. refl) (whole_of x)
kept_is (Reading.Pitch x) z = itself Kind.Pitch z (λ y. refl) (whole_of x)
kept_is (Reading.Heading x) z = otherwise Kind.Heading z 360 (pos 0) refl (λ y. refl) (whole_of x)

-- the same by what the test of the range tells
by_range : (r : Reading) (z : ℤ) (t : Bool) → within (range_of (kind_of r)) z ≡ t → (t && reads_as r z) ≡ kept r z
by_range r z t h = (λ i. sym h i && reads_as r z) ∙ kept_is r z

pub kept_within : (r : Reading) (z : ℤ) → within (range_of (kind_of r)) z ≡ true → reads_as r z ≡ kept r z
kept_within r z = by_range r z true

pub kept_beyond : (r : Reading) (z : ℤ) → within (range_of (kind_of r)) z ≡ false → false ≡ kept r z
kept_beyond r z = by_range r z false
