-- `round`, in whose terms the contract of `value` speaks, gives the float nearest to a fraction: no other float is nearer. Assumes nothing.
use Rattle.std.proofs.Common.{◌≡◌, ℕ, zero, suc, ◌+◌, ◌-◌, ◌*◌, ◌/◌, ◌%◌, ◌^◌, ◌<◌, ◌≤◌, Bool, false, ◌&&◌, T, eqb, ltb, leb, ℤ, pos, negsuc, sym, refl, ap, ◌∙◌, le_trans, le_of_eq, add-zero, le_of_lt, mul-le-mul_right, mod-lt, mul_assoc, suc-mul, mul_comm, add-mul, mul-pos, lt_of_not-le, div-add-mod', le-div_iff_mul-le, zero-mul, mul-one, mul_right_comm, not-le_of_lt, le_of_mul-le-mul_right, mul_left_comm, arith, ltb→lt, leb→le, pow_pos, pow_mono, pow-add, shl_lt}
use native.Mathlib.Nat.{mul-sub}
use native.Mathlib.Decide.{dec_le}
use lib.Pow.{pow-lt}
use lib.Ieee.{fin, Format, prec, emax, low, up, down, size, round, fits}
use lib.Ieee.Digits.{size_reaches, back}
use lib.Ieee.Fits.{two, two-le_pos, and_l, and_r}
use lib.Ieee.Exact.{HasValue}
use lib.Ieee.Nearest.{closest}
use lib.Ieee.Order.{drop, kept}
use Rattle.rounding.proofs.Fraction.{by_compare}
use Rattle.numerals.specs.Laws.{apart}
use lib.Ieee.Scale.{grid, round_val, round_under}

apart_mul : (a b c : ℕ) → apart a b * c ≡ apart (a * c) (b * c)
apart_mul a b c = add-mul (a - b) (b - a) c ∙ ap (λ (x : ℕ). x + (b - a) * c) (minus a b) ∙ ap (λ (x : ℕ). (a * c - b * c) + x) (minus b a)
  where
    minus : (x y : ℕ) → (x - y) * c ≡ x * c - y * c
    minus x y = mul_comm (x - y) c ∙ mul-sub c x y ∙ ap (λ (z : ℕ). z - c * y) (mul_comm c x) ∙ ap (λ (z : ℕ). x * c - z) (mul_comm c y)

-- ---- the whole number nearest to a / b

-- a is w * b + r, and v * b any other multiple of b
module _ (w r a b v : ℕ) (d : w * b + r ≡ a) (l : r < b) where
  -- it lies at w * b or below, or at (w + 1) * b or above
  side : (P : Type 0) → (v * b ≤ w * b → P) → (w * b + b ≤ v * b → P) → P
  side P low high = elim (dec_le v w) [
    | yes h ↦ low (mul-le-mul_right b h)
    | no h ↦ high (le_trans (le_of_eq (sym (suc-mul w b))) (mul-le-mul_right b (lt_of_not-le h)))
  ]

  at_less : r * 2 < b → apart (w * b) a ≤ apart (v * b) a
  at_less h = side (apart (w * b) a ≤ apart (v * b) a) (λ k. omega arith) (λ k. omega arith)

  at_more : b ≤ r * 2 → apart (suc w * b) a ≤ apart (v * b) a
  at_more h = let s = suc-mul w b in side (apart (suc w * b) a ≤ apart (v * b) a) (λ k. omega arith) (λ k. omega arith)

  at_same : r * 2 ≡ b → apart ((w + w % 2) * b) a ≤ apart (v * b) a
  at_same h = go (w % 2) refl
    where
      go : (k : ℕ) → w % 2 ≡ k → apart ((w + k) * b) a ≤ apart (v * b) a
      go zero e = let z = add-zero w in rw z (side (apart (w * b) a ≤ apart (v * b) a) (λ k. omega arith) (λ k. omega arith))
      go (suc zero) e = let s = suc-mul w b in side (apart ((w + 1) * b) a ≤ apart (v * b) a) (λ k. omega arith) (λ k. omega arith)
      go (suc (suc k)) e = absurd (omega arith)

closest_near : (a b v : ℕ) → 0 < b → apart (closest a b * b) a ≤ apart (v * b) a
closest_near a b v B =
    let d = div-add-mod' a b in
    let l = mod-lt a B in
    by_compare (λ (q : ℕ). apart (q * b) a ≤ apart (v * b) a) (a / b) (a % b * 2) b
    (at_less (a / b) (a % b) a b v d l) (at_same (a / b) (a % b) a b v d l) (λ h. at_more (a / b) (a % b) a b v d l (le_of_lt h))

-- ---- In units of the format's smallest value: n / c rounded to p digits, against any k * 2 ^ j with k of p digits.

in_use : (z p : ℕ) → 0 < p → 0 < z - p → p - 1 + (z - p) < z
in_use z p P h = omega arith

room : (p j k : ℕ) → 0 < p → j < k → p + j ≤ p - 1 + k
room p j k P h = omega arith

module _ (p n c : ℕ) (P : 0 < p) (C : 0 < c) where
  abbrev dropped : ℕ
  dropped = drop p n c

  abbrev unit : ℕ
  unit = c * 2 ^ dropped

  near_multiple : (v : ℕ) → apart (kept p n c * 2 ^ dropped * c) n ≤ apart (v * 2 ^ dropped * c) n
  near_multiple v =
      let swap : (x : ℕ) → x * unit ≡ x * 2 ^ dropped * c = λ x. simp (mul_assoc, mul_comm, mul_left_comm) in
      rw (swap (kept p n c), swap v) at (closest_near n unit v (mul-pos C (pow_pos dropped)))

  -- as fine a number as the result, or a finer one: that lies below all that drop digits
  pub near_units : (k j : ℕ) → k < 2 ^ p → apart (kept p n c * 2 ^ dropped * c) n ≤ apart (k * 2 ^ j * c) n
  near_units k j h = elim (dec_le dropped j) [
    | yes l ↦
        let e : k * 2 ^ (j - dropped) * 2 ^ dropped ≡ k * 2 ^ j = rw (mul_assoc, ← pow-add 2 (j - dropped) dropped, back j dropped l) in
        rw e at (near_multiple (k * 2 ^ (j - dropped)))
    | no l ↦
        let g : j < dropped = lt_of_not-le l in
        let e = pow-add 2 (p - 1) dropped in
        let a : 2 ^ (p - 1) * 2 ^ dropped ≤ n / c = rw (← e) (size_reaches (n / c) (p - 1 + dropped) (in_use (size (n / c)) p P (above j dropped g))) in
        let b : k * 2 ^ j ≤ 2 ^ (p - 1) * 2 ^ dropped = rw (← e) (le_trans (le_of_lt (shl_lt p j h)) (pow_mono (room p j dropped P g))) in
        further (k * 2 ^ j * c) (2 ^ (p - 1) * 2 ^ dropped * c) (kept p n c * 2 ^ dropped * c) (near_multiple (2 ^ (p - 1)))
        (mul-le-mul_right c b) ((le-div_iff_mul-le C).0 a)
  ]
    where
      above : (x y : ℕ) → x < y → 0 < y
      above x y h = omega arith

      further : (x y z : ℕ) → apart z n ≤ apart y n → x ≤ y → y ≤ n → apart z n ≤ apart x n
      further x y z h l m = omega arith

parts : (f : Format) (t : Bool) (k : ℕ) (e : ℤ) → T (fits f (fin t (suc k) e)) → (suc k < 2 ^ prec f) × (down e ≤ 2 ^ low f)
unfolding fits
parts f t k e h =
    let x = eqb (suc k % 2) 1 in
    let y = ltb (suc k) (2 ^ prec f) in
    let z = leb (down e) (2 ^ low f) in
    let q = and_l (x && y && z) (ltb (suc k * up e) (2 ^ suc (emax f) * down e)) h in
    (ltb→lt (suc k) (2 ^ prec f) (and_r x y (and_l (x && y) z q)), leb→le (down e) (2 ^ low f) (and_r (x && y) z q))

power_le : (x y : ℕ) → 2 ^ x ≤ 2 ^ y → x ≤ y
power_le x y h = elim (dec_le x y) [
  | yes l ↦ l
  | no l ↦ absurd (not-le_of_lt (pow-lt (lt_of_not-le l)) h)
]

-- a float of the format f is a whole number k * 2 ^ j of units
as_units : (f : Format) (t : Bool) (k : ℕ) (e : ℤ) → T (fits f (fin t k e)) → (k < 2 ^ prec f) × ((j : ℕ) × (k * up e * 2 ^ low f ≡ k * 2 ^ j * down e))
as_units f t zero e h = (pow_pos (prec f), (0, simp zero-mul))
as_units f t (suc k) (pos a) h = ((parts f t k (pos a) h).0, (a + low f, simp (mul-one, pow-add, mul_assoc)))
as_units f t (suc k) (negsuc a) h =
    let q = parts f t k (negsuc a) h in
    (q.0, (low f - suc a, split (suc k) (low f) (suc a) (power_le (suc a) (low f) q.1)))
  where
    split : (m l x : ℕ) → x ≤ l → m * 1 * 2 ^ l ≡ m * 2 ^ (l - x) * 2 ^ x
    split m l x h = rw (mul-one, mul_assoc, ← pow-add 2 (l - x) x, back l x h)

-- ---- of floats

-- A float x that is a whole number of 1 / l and lies at most as far from n / p as y does: |x - n / p| over a common denominator.
cross : (m u d k v g x y n p l : ℕ) → 0 < l → m * u * l ≡ x * d → k * v * l ≡ y * g →
    apart (x * p) (n * l) ≤ apart (y * p) (n * l) → apart (m * u * p) (n * d) * g ≤ apart (k * v * p) (n * g) * d
cross m u d k v g x y n p l L e f h =
    let a : apart (m * u * p) (n * d) * l ≡ apart (x * p) (n * l) * d = scaled (m * u) d x e in
    let b : apart (k * v * p) (n * g) * l ≡ apart (y * p) (n * l) * g = scaled (k * v) g y f in
    le_of_mul-le-mul_right
    (le_trans (le_of_eq (mul_right_comm (apart (m * u * p) (n * d)) g l ∙ ap (λ (z : ℕ). z * g) a))
    (le_trans (mul-le-mul_right g (mul-le-mul_right d h))
    (le_of_eq (mul_right_comm (apart (y * p) (n * l)) d g ∙ ap (λ (z : ℕ). z * d) (sym b) ∙ mul_right_comm (apart (k * v * p) (n * g)) l d)))) L
  where
    scaled : (a b c : ℕ) → a * l ≡ c * b → apart (a * p) (n * b) * l ≡ apart (c * p) (n * l) * b
    scaled a b c e =
        apart_mul (a * p) (n * b) l
        ∙ ap (λ (z : ℕ). apart z (n * b * l)) (mul_right_comm a p l ∙ ap (λ (z : ℕ). z * p) e ∙ mul_right_comm c b p)
        ∙ ap (λ (z : ℕ). apart (c * p * b) z) (mul_right_comm n b l)
        ∙ sym (apart_mul (c * p) (n * l) b)

-- Of all floats none is nearer to n / p than `round` gives. The size of `fin s m e` is m * up e / down e.
pub none_nearer : (f : Format) (n p : ℕ) → 0 < p → (s : Bool) (m : ℕ) (e : ℤ) → round f false n p ≡ fin s m e →
    (t : Bool) (k : ℕ) (d : ℤ) → T (fits f (fin t k d)) →
    apart (m * up e * p) (n * down e) * down d ≤ apart (k * up d * p) (n * down d) * down e
none_nearer f n p B s m e is t k d h =
    let v : HasValue (fin s m e) false (grid f n p) (2 ^ low f) = rw is at (round_val f n p (round_under f n p (rw is tt))) in
    let u = as_units f t k d h in
    cross m (up e) (down e) k (up d) (down d) (grid f n p) (k * 2 ^ u.1.0) n p (2 ^ low f) (pow_pos (low f)) v.1 u.1.1
    (near_units (prec f) (n * 2 ^ low f) p (two-le_pos (prec f) (two f)) B k u.1.0 u.0)
