-- What holds of starts: which speeds are accepted, that the reading is exactly the speed, and that power-on is one of them. Document 02, 2026-06.
-- Here are the statements; the proofs are in proofs/StartLaws.antt.
use Rattle.std.specs.Prelude.{◌≡◌, ◌↔◌, false, ℕ, ◌≤◌, ℤ, pos, Ok}
use Rattle.std.specs.Float.{binary64}
use Rattle.std.specs.Float.Ieee.{of_bits}
use Rattle.std.specs.Float.Ieee.Exact.{HasValue}
use Rattle.refusals.specs.Refusals.{refusal_number}
use Rattle.bench.specs.Holds.{bench_at, power_on, started}

-- speed is one of the 341 numbers from 60 to 400
pub record Accepted (speed : ℤ) : Type 0 where
  pub knots : ℕ
  pub is_speed : speed ≡ pos knots
  pub at_least : 60 ≤ knots
  pub at_most : knots ≤ 400

pub record StartLaws : Type 0 where
  -- just the speeds from 60 to 400 are accepted, and the others refused with 10
  pub accepted : (speed : ℤ) → (refusal_number (started speed).outcome ≡ 0) ↔ Accepted speed
  pub refused : (speed : ℤ) → (Accepted speed → ⊥) → refusal_number (started speed).outcome ≡ 10
  -- the bench of an accepted start is the one at its speed, and of a refused one that of power-on
  pub accepted_bench : (speed : ℤ) → Accepted speed → (started speed).bench ≡ bench_at speed
  pub refused_bench : (speed : ℤ) → (Accepted speed → ⊥) → (started speed).bench ≡ power_on
  -- the airspeed of the bench at a speed is a finite float, not negative, whose exact value is this number over 1
  pub exact : (n : ℕ) → n ≤ 400 → HasValue (bench_at (pos n)).readings.airspeed false n 1
  -- power-on is the start at 120 knots, and its airspeed the float 120.0
  pub power_on_at_120 : started (pos 120) ≡ record { outcome = Ok tt; bench = power_on }
  pub power_on_airspeed : power_on.readings.airspeed ≡ of_bits binary64 0x405e_0000_0000_0000
