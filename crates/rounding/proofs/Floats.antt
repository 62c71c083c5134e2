-- The whole value of the float that a bit pattern is read as, by the pattern's exponent field x, with the digits t. Assumes nothing.
use mathlib.Core.Path.{◌≡◌, refl, sym, ap, ◌∙◌}
use mathlib.Core.Bool.{Bool, true, false, cond, false≢true}
use Prim.Native.Nat.{ℕ, zero, suc, ◌+◌, ◌-◌, ◌*◌, ◌/◌, ◌%◌, ◌^◌, ◌≤◌, ◌<◌, compare}
use native.Mathlib.Nat.{le_trans, lt_of_lt_of_le, mod-lt, mul_assoc, mul-le-mul, le-add_right, le-div_iff_mul-le}
use native.Mathlib.Omega.{arith}
use borrow.Author.Tests.{eq-eqb, ne_eqb, lt-leb}
use lib.Dec.{T, leb, eqb}
use lib.Pow.{pow-add, pow_pos, pow_mono, shl_lt}
use lib.Ieee.{Float, nan, inf, fin, binary64, up, down, of_fields, of_bits, to_bits, fits, is_nan}
use lib.Ieee.Fits.{down_pos}
use lib.Ieee.Bits.{of_bits-to_bits}
use lib.Ieee.Exact.{HasValue, odd_sign}
use lib.Ieee.Nearest.{closest, closest_same, nearest-ge}
use Rattle.std.specs.Prelude.{Ok, Err}
use Rattle.rounding.specs.declared.NoWhole.TheVariants.{NotFinite, Beyond}
use Rattle.rounding.specs.Whole.{signed_of, in_answer, whole_of}
use Rattle.rounding.proofs.Digits.{closest_zero}

-- a finite value of size a / c
of_value : (x : Float) (s : Bool) (a c : ℕ) → 0 < c → HasValue x s a c → whole_of x ≡ in_answer (signed_of s (closest a c))
unfolding whole_of
of_value nan s a c h v = absurd v
of_value (inf t) s a c h v = absurd v
of_value (fin t m e) s a c h v =
    ap (λ (k : Bool). in_answer (signed_of k (closest (m * up e) (down e)))) v.0
    ∙ ap (λ (q : ℕ). in_answer (signed_of s q)) (closest_same (m * up e) (down e) a c (down_pos e) h v.1)

-- ---- what the fields are read as

either : (b s : Bool) → whole_of (cond b (inf s) nan) ≡ Err NotFinite
unfolding whole_of
either true s = refl
either false s = refl

ones_fields : (s : Bool) (x t : ℕ) → x ≡ 2047 → whole_of (of_fields binary64 s x t) ≡ Err NotFinite
unfolding of_fields
ones_fields s zero t h = absurd (let z : 0 ≡ 2047 = h in omega arith)
ones_fields s (suc x) t h = rw (eq-eqb (suc x) 2047 h) (either (eqb t 0) s)

-- the digits with the leading one, which a field of 0 has not
abbrev lead : ℕ → ℕ → ℕ
lead zero t = t
lead (suc x) t = 4503599627370496 + t

fields_value : (s : Bool) (x t : ℕ) → (x ≡ 2047 → ⊥) → HasValue (of_fields binary64 s x t) s (lead x t * 2 ^ (x - 1)) (2 ^ 1074)
unfolding of_fields
fields_value s zero t h = odd_sign 53 s t 0 1074
fields_value s (suc x) t h =
    let e : suc x - 1 ≡ x = omega arith in
    rw (ne_eqb (suc x) 2047 h, e) (odd_sign 53 s (4503599627370496 + t) x 1074)

lead_lt : (x t : ℕ) → t < 4503599627370496 → lead x t < 2 ^ 53
lead_lt zero t h = omega arith
lead_lt (suc x) t h = omega arith

-- ---- by the field

small : (x t : ℕ) → t < 4503599627370496 → x < 1022 → closest (lead x t * 2 ^ (x - 1)) (2 ^ 1074) ≡ 0
small x t h k =
    let e : 53 + (x - 1) ≤ 1073 = omega arith in
    closest_zero (lead x t * 2 ^ (x - 1)) (2 ^ 1074) (twice (lead x t * 2 ^ (x - 1)) (2 ^ 1073) (lt_of_lt_of_le (shl_lt 53 (x - 1) (lead_lt x t h)) (pow_mono e)))
  where
    twice : (a p : ℕ) → a < p → a * 2 < p * 2
    twice a p h = omega arith

large : (x t : ℕ) → 1075 ≤ x → 4503599627370496 ≤ closest (lead x t * 2 ^ (x - 1)) (2 ^ 1074)
large zero t k = absurd (let z : 1075 ≤ 0 = k in omega arith)
large (suc x) t k =
    let a = (4503599627370496 + t) * 2 ^ (suc x - 1) in
    let e : 1074 ≤ suc x - 1 = omega arith in
    le_trans ((le-div_iff_mul-le (pow_pos 1074)).1 (mul-le-mul (le-add_right 4503599627370496 t) (pow_mono e)))
    (nearest-ge (a / 2 ^ 1074) (compare (a % 2 ^ 1074 * 2) (2 ^ 1074)))

middle : (x t : ℕ) → 1022 ≤ x → x < 1075 → closest (lead x t * 2 ^ (x - 1)) (2 ^ 1074) ≡ closest (4503599627370496 + t) (2 ^ (1075 - x))
middle zero t h k = absurd (let z : 1022 ≤ 0 = h in omega arith)
middle (suc x) t h k =
    let m = 4503599627370496 + t in
    let e : suc x - 1 + (1075 - suc x) ≡ 1074 = omega arith in
    closest_same (m * 2 ^ (suc x - 1)) (2 ^ 1074) m (2 ^ (1075 - suc x)) (pow_pos 1074) (pow_pos (1075 - suc x))
    (mul_assoc m (2 ^ (suc x - 1)) (2 ^ (1075 - suc x)) ∙ ap (λ (k : ℕ). m * k) (sym (pow-add 2 (suc x - 1) (1075 - suc x)) ∙ ap (λ (k : ℕ). 2 ^ k) e))

zero_signed : (s : Bool) → in_answer (signed_of s 0) ≡ Ok (signed_of false 0)
zero_signed true = refl
zero_signed false = refl

other : (x k : ℕ) → x < k → k ≤ 2047 → x ≡ 2047 → ⊥
other x k l h e = omega arith

-- ---- of a pattern b

module _ (b : ℕ) where
  abbrev pub sign : Bool
  sign = leb 9223372036854775808 b

  abbrev pub field : ℕ
  field = b % 9223372036854775808 / 4503599627370496

  abbrev pub digits : ℕ
  digits = b % 4503599627370496

  read : of_bits binary64 b ≡ of_fields binary64 sign field digits
  unfolding of_bits
  read = refl

  value : (field ≡ 2047 → ⊥) → whole_of (of_bits binary64 b) ≡ in_answer (signed_of sign (closest (lead field digits * 2 ^ (field - 1)) (2 ^ 1074)))
  value h = ap whole_of read ∙ of_value _ sign (lead field digits * 2 ^ (field - 1)) (2 ^ 1074) (pow_pos 1074) (fields_value sign field digits h)

  pub bits_ones : field ≡ 2047 → Err NotFinite ≡ whole_of (of_bits binary64 b)
  bits_ones h = sym (ap whole_of read ∙ ones_fields sign field digits h)

  pub bits_large : (field ≡ 2047 → ⊥) → 1075 ≤ field → Err Beyond ≡ whole_of (of_bits binary64 b)
  bits_large h k = sym (value h ∙ beyond sign (closest (lead field digits * 2 ^ (field - 1)) (2 ^ 1074)) (large field digits k))
    where
      beyond : (s : Bool) (q : ℕ) → 4503599627370496 ≤ q → in_answer (signed_of s q) ≡ Err Beyond
      beyond false q h = rw (lt-leb q 2147483647 (omega arith))
      beyond true zero h = absurd (omega arith)
      beyond true (suc q) h = rw (lt-leb q 2147483647 (omega arith))

  pub bits_small : field < 1022 → Ok (signed_of false 0) ≡ whole_of (of_bits binary64 b)
  bits_small h = sym (value (other field 1022 h (omega arith)) ∙ ap (λ (q : ℕ). in_answer (signed_of sign q)) (small field digits (mod-lt b (pow_pos 52)) h) ∙ zero_signed sign)

  pub bits_middle : 1022 ≤ field → field < 1075 → in_answer (signed_of sign (closest (4503599627370496 + digits) (2 ^ (1075 - field)))) ≡ whole_of (of_bits binary64 b)
  bits_middle h k = sym (value (other field 1075 k (omega arith)) ∙ ap (λ (q : ℕ). in_answer (signed_of sign q)) (middle field digits h k))

-- ---- of a float

pub nan_whole : (x : Float) → is_nan x ≡ true → Err NotFinite ≡ whole_of x
unfolding whole_of is_nan
nan_whole nan h = refl
nan_whole (inf s) h = refl
nan_whole (fin s m e) h = absurd (false≢true h)

pub float_whole : (x : Float) → T (fits binary64 x) → whole_of (of_bits binary64 (to_bits binary64 x)) ≡ whole_of x
float_whole x h = ap whole_of (of_bits-to_bits binary64 x h)
