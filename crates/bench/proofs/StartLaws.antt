-- The laws of specs/Starts.antt: the cast of a small number is exact, so that its whole value is the number itself; and what holds of the bench at each accepted speed
-- holds of every start. Assumes nothing.
use mathlib.Core.Path.{◌≡◌, refl, sym, ap, ◌∙◌}
use mathlib.Core.Bool.{Bool, true, false, ◌&&◌, cond, false≢true}
use Prim.Native.Nat.{ℕ, ◌*◌, ◌≤◌}
use native.Mathlib.Nat.{mul-one}
use native.Mathlib.Omega.{arith}
use borrow.Author.Tests.{leb-true, le-leb}
use lib.Dec.{leb}
use lib.IntN.{ℤ, pos, negsuc}
use lib.Ieee.{Float, nan, inf, fin, binary64, up, of_bits, of_int}
use lib.Ieee.Exact.{HasValue}
use lib.Ieee.Back.{round_whole}
use Rattle.std.specs.Prelude.{Ok, Err}
use Rattle.refusals.specs.declared.Refusal.{Refusal}
use Rattle.refusals.proofs.Choices.{and_left, and_right, and_both, by_cond}
use Rattle.refusals.specs.Refusals.{refusal_number}
use Rattle.rounding.specs.declared.NoWhole.{NoWhole}
use Rattle.rounding.specs.Whole.{in_answer, whole_of}
use Rattle.rounding.proofs.Laws.{whole_exact}
use Rattle.feed.specs.declared.Kind.{Kind}
use Rattle.feed.specs.declared.Reading.{Reading}
use Rattle.feed.specs.Ranges.{within}
use Rattle.feed.specs.Readings.{as_kind, whole_reading, reading_verdict, whole_number}
use Rattle.feed.specs.Sound.{kept, readings_sound}
use Rattle.feed.proofs.WholeLaws.{may_keep}
use Rattle.channels.specs.Sound.{references_sound, channel_sound}
use Rattle.bench.specs.declared.Bench.{Bench}
use Rattle.bench.specs.declared.starts.Started.{Started}
use Rattle.bench.specs.Independent.{independent_sound}
use Rattle.bench.specs.Sound.{sound}
use Rattle.bench.specs.Holds.{start_channel, start_readings, start_wholes, bench_at, power_on, start_speeds, started}
use Rattle.bench.specs.Starts.{Accepted, StartLaws}

-- ---- the airspeed of a start

pub exact : (n : ℕ) → n ≤ 400 → HasValue (of_int binary64 (pos n)) false n 1
unfolding of_int
exact n h = round_whole binary64 false n (omega arith)

whole_of_lem : (x : Float) (n : ℕ) → HasValue x false n 1 → whole_of x ≡ in_answer (pos n)
whole_of_lem nan n h = elim h [ ]
whole_of_lem (inf s) n h = elim h [ ]
whole_of_lem (fin s m e) n (sign, value) = ap (λ (s : Bool). whole_of (fin s m e)) sign ∙ whole_exact false m e n (sym (mul-one (m * up e)) ∙ value)

-- so the reading is accepted, and the speed is its whole value
airspeed_kept : (n : ℕ) → n ≤ 400 → kept (Reading.Airspeed (of_int binary64 (pos n))) (pos n) ≡ true
unfolding whole_reading
airspeed_kept n h =
    let r = Reading.Airspeed (of_int binary64 (pos n)) in
    let in-answer : leb n 2147483647 ≡ true = le-leb n 2147483647 (omega arith) in
    let in_range = and_both (leb 0 n) (leb n 600) (le-leb 0 n (omega arith)) (le-leb n 600 (omega arith)) in
    may_keep r (pos n)
    (ap (as_kind Kind.Airspeed) (whole_of_lem (of_int binary64 (pos n)) n (exact n h) ∙ ap (λ (t : Bool). cond t (Ok (pos n)) (Err NoWhole.Beyond)) in-answer), in_range)

-- ---- the bench at an accepted speed

least : (n : ℕ) → within start_speeds (pos n) ≡ true → 60 ≤ n
least n h = leb-true 60 n (and_left (leb 60 n) (leb n 400) h)

most : (n : ℕ) → within start_speeds (pos n) ≡ true → n ≤ 400
most n h = leb-true n 400 (and_right (leb 60 n) (leb n 400) h)

channel_sound_lem : (n : ℕ) → within start_speeds (pos n) ≡ true → channel_sound (start_channel (pos n)) ≡ true
unfolding start_channel channel_sound references_sound
channel_sound_lem n h = ap (λ (t : Bool). t && true && true) h

readings_sound_lem : (n : ℕ) → n ≤ 400 → readings_sound (start_readings (pos n)) (start_wholes (pos n)) ≡ true
unfolding readings_sound reading_verdict whole_reading whole_number whole_of of_bits
readings_sound_lem n h = ap (λ (t : Bool). t && true && true && true && true) (airspeed_kept n h)

pub at_sound : (n : ℕ) → within start_speeds (pos n) ≡ true → sound (bench_at (pos n)) ≡ true
unfolding sound independent_sound bench_at
at_sound n h =
    let channel = channel_sound_lem n h in
    let readings = readings_sound_lem n (most n h) in
    λ i. (channel i && channel i) && (channel i && channel i) && readings i && true

-- ---- starts

-- what holds of the bench at each accepted speed holds of every start: a refused one gives the bench at 120
pub by_start : (P : Bench → Type 0) → ((n : ℕ) → within start_speeds (pos n) ≡ true → P (bench_at (pos n))) → (speed : ℤ) → P (started speed).bench
unfolding started power_on
by_start P at (negsuc n) = at 120 refl
by_start P at (pos n) =
    by_cond (λ (s : Started). P s.bench) (within start_speeds (pos n)) (record { outcome = Ok tt; bench = bench_at (pos n) }) (record { outcome = Err Refusal.StartingSpeed; bench = power_on }) (at n) (λ h. at 120 refl)

pub start_sound : (speed : ℤ) → sound (started speed).bench ≡ true
start_sound = by_start (λ (b : Bench). sound b ≡ true) at_sound

pub power_on_sound : sound power_on ≡ true
unfolding power_on
power_on_sound = at_sound 120 refl

-- ---- which speeds are accepted

is_accepted : (speed : ℤ) → within start_speeds speed ≡ true → Accepted speed
is_accepted (pos n) h = record { knots = n; is_speed = refl; at_least = least n h; at_most = most n h }
is_accepted (negsuc n) h = absurd (false≢true h)

in_range : (speed : ℤ) → Accepted speed → within start_speeds speed ≡ true
in_range speed a =
    rw a.is_speed (and_both (leb 60 a.knots) (leb a.knots 400) (le-leb 60 a.knots a.at_least) (le-leb a.knots 400 a.at_most))

outside : (speed : ℤ) → (Accepted speed → ⊥) → within start_speeds speed ≡ false
outside speed n = go (within start_speeds speed) refl
  where
    go : (t : Bool) → within start_speeds speed ≡ t → t ≡ false
    go true e = absurd (n (is_accepted speed e))
    go false e = refl

-- what a start answers, by whether the speed lies within the range
abbrev answers : ℤ → Bool → Started
answers speed t = cond t (record { outcome = Ok tt; bench = bench_at speed }) (record { outcome = Err Refusal.StartingSpeed; bench = power_on })

answered : (speed : ℤ) (t : Bool) → within start_speeds speed ≡ t → started speed ≡ answers speed t
unfolding started
answered speed t e = ap (answers speed) e

no_refusal : (speed : ℤ) → refusal_number (started speed).outcome ≡ 0 → within start_speeds speed ≡ true
no_refusal speed h = go (within start_speeds speed) refl
  where
    go : (t : Bool) → within start_speeds speed ≡ t → t ≡ true
    go true e = refl
    go false e = absurd (let r : refusal_number (started speed).outcome ≡ 10 = ap (λ (s : Started). refusal_number s.outcome) (answered speed false e) in omega arith)

pub start_laws : StartLaws
unfolding started bench_at power_on of_int of_bits
start_laws = record {
  accepted = λ speed. (λ h. is_accepted speed (no_refusal speed h), λ a. ap (λ (s : Started). refusal_number s.outcome) (answered speed true (in_range speed a)));
  refused = λ speed n. ap (λ (s : Started). refusal_number s.outcome) (answered speed false (outside speed n));
  accepted_bench = λ speed a. ap (λ (s : Started). s.bench) (answered speed true (in_range speed a));
  refused_bench = λ speed n. ap (λ (s : Started). s.bench) (answered speed false (outside speed n));
  exact = exact;
  power_on_at_120 = refl;
  power_on_airspeed = refl;
}
