-- What is left of a number when binary digits are dropped one at a time, and how it rounds. Assumes nothing.
use mathlib.Core.Path.{◌≡◌, sym}
use mathlib.Core.Bool.{Bool, true, false, ◌||◌}
use Prim.Native.Nat.{ℕ, zero, suc, ◌+◌, ◌*◌, ◌/◌, ◌%◌, ◌^◌, ◌<◌}
use native.Mathlib.Nat.{pow-succ', mod-lt, mul_comm, div-div-eq-div-mul, div-eq_of_lt, mod-eq_of_lt}
use native.Mathlib.Numerals.{add-one}
use native.Mathlib.Omega.{arith}
use lib.Dec.{eqb}
use lib.Arith.{mod-mul}
use lib.Ieee.Nearest.{closest}
use Rattle.rounding.proofs.Fraction.{by_compare}

-- How the remainder r lies to the divisor p: by the last digit dropped, and by whether a digit before it was 1
abbrev pub Lies : Bool → Bool → ℕ → ℕ → Type 0
Lies false false r p = r ≡ 0
Lies false true r p = (0 < r) × (r * 2 < p)
Lies true false r p = (0 < r) × (r * 2 ≡ p)
Lies true true r p = p < r * 2

-- one digit d more, above the remainder r
lies_up : (d r p : ℕ) (h s : Bool) → d < 2 → r < p → Lies h s r p → Lies (eqb d 1) (h || s) (d * p + r) (2 * p)
lies_up zero r p false false b k l = omega arith
lies_up zero r p false true b k l = (omega arith, omega arith)
lies_up zero r p true false b k l = (omega arith, omega arith)
lies_up zero r p true true b k l = (omega arith, omega arith)
lies_up (suc zero) r p false false b k l = (omega arith, omega arith)
lies_up (suc zero) r p false true b k l = omega arith
lies_up (suc zero) r p true false b k l = omega arith
lies_up (suc zero) r p true true b k l = omega arith
lies_up (suc (suc d)) r p h s b k l = absurd (omega arith)

-- kept, half and rest are what is left of m when the digits below p are dropped
pub record Dropped (kept : ℕ) (half rest : Bool) (m p : ℕ) : Type 0 where
  pub above : 0 < p
  pub whole : kept ≡ m / p
  pub remainder : Lies half rest (m % p) p

-- none are dropped yet
pub dropped_none : (m : ℕ) → Dropped m false false m (2 ^ 0)
dropped_none m = record { above = omega arith; whole = omega arith; remainder = omega arith }

-- one digit more
pub dropped_more : {k : ℕ} {h s : Bool} {m : ℕ} (n : ℕ) → Dropped k h s m (2 ^ n) → Dropped (k / 2) (eqb (k % 2) 1) (h || s) m (2 ^ (n + 1))
dropped_more {k} {h} {s} {m} n d = rw (add-one, pow-succ' 2 n) (go (2 ^ n) d)
  where
    go : (p : ℕ) → Dropped k h s m p → Dropped (k / 2) (eqb (k % 2) 1) (h || s) m (2 * p)
    go p d =
        let P = d.above in
        let e : k % 2 * p + m % p ≡ m % (2 * p) = rw d.whole (sym (mod-mul m {m = 2} {c = p} (omega arith) P)) in
        record {
          above = omega arith;
          whole = rw (d.whole, div-div-eq-div-mul m p 2, mul_comm p 2);
          remainder = rw (← e) (lies_up (k % 2) (m % p) p h s (omega arith) (mod-lt m P) d.remainder);
        }

-- ---- rounding

-- a number below half of the divisor rounds to 0
pub closest_zero : (a b : ℕ) → a * 2 < b → closest a b ≡ 0
closest_zero a b h =
    let l : a < b = omega arith in
    let r = mod-eq_of_lt l in
    by_compare (λ (q : ℕ). q ≡ 0) (a / b) (a % b * 2) b (λ k. div-eq_of_lt l) (λ k. absurd (omega arith)) (λ k. absurd (omega arith))
