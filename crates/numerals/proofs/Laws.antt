-- The laws of specs/Laws.antt: a decimal is below 10 ^ 15, so that its float does not overflow, and `round` gives the nearest float. Assumes nothing.
use Rattle.std.proofs.Common.{◌≡◌, ℕ, ◌+◌, ◌-◌, ◌*◌, ◌/◌, ◌%◌, ◌^◌, ◌<◌, ◌≤◌, Bool, true, false, cond, not, ◌&&◌, ◌||◌, ltb, leb, List, ◌++◌, length, refl, subst, le_trans, lt_of_le_of_lt, mul-le-mul, div-le_self, arith, pow_mono, pow-add, shl_lt, ltb-true, Some, None}
use mathlib.Core.Bool.{and-eq-true_iff}
use Prim.Native.Nat.{compare}
use native.Mathlib.Nat.{div-div-eq-div-mul}
use lib.Pow.{pow-lt}
use lib.Ieee.{Float, nan, inf, fin, binary64, size, neg, round}
use lib.Ieee.Digits.{size-le}
use lib.Ieee.Fits.{nearest-le, kept-lt}
use lib.Ieee.Exact.{HasValue}
use lib.Ieee.Order.{drop, kept}
use lib.Ieee.Scale.{grid, overflow, round_val}
use Rattle.numerals.specs.Digits.{is_numeral, numeral_value}
use Rattle.numerals.specs.Values.{has_point, before, behind, is_decimal, decimal_as}
use Rattle.numerals.proofs.Division.{power_above, neg_round}
use Rattle.numerals.specs.Laws.{IsNearestFloat, ValueLaws}
use Rattle.numerals.proofs.Nearest.{none_nearer}

-- ---- below 10 ^ 15 nothing overflows

kept_le : (p n c : ℕ) → kept p n c ≤ 2 ^ p
kept_le p n c =
    let u = c * 2 ^ drop p n c in
    le_trans (nearest-le (n / u) (compare (n % u * 2) u)) (subst (λ (x : ℕ). x < 2 ^ p) (div-div-eq-div-mul n c (2 ^ drop p n c)) (kept-lt p (n / c)))

few : (n p : ℕ) → n < 10 ^ 15 → drop 53 (n * 2 ^ 1074) p ≤ 1071
few n p h =
    let l : n < 2 ^ 50 = omega arith in
    let z = size-le (n * 2 ^ 1074 / p) (50 + 1074) (lt_of_le_of_lt (div-le_self (n * 2 ^ 1074) p) (shl_lt 50 1074 l)) in
    less (size (n * 2 ^ 1074 / p)) z
  where
    less : (x : ℕ) → x ≤ 1124 → x - 53 ≤ 1071
    less x h = omega arith

below : (n p : ℕ) → n < 10 ^ 15 → grid binary64 n p < overflow binary64
below n p h =
    lt_of_le_of_lt (mul-le-mul (kept_le 53 (n * 2 ^ 1074) p) (pow_mono (few n p h)))
    (subst (λ (x : ℕ). x < 2 ^ 2098) (pow-add 2 53 1071) (pow-lt {i = 53 + 1071} {j = 2098} (omega arith)))

-- ---- the float

of_value : (n p a c : ℕ) → 0 < p → (x : Float) → round binary64 false n p ≡ x → HasValue x false a c → IsNearestFloat x n p
of_value n p a c B nan e v = absurd v
of_value n p a c B (inf s) e v = absurd v
of_value n p a c B (fin s m d) e v = none_nearer binary64 n p B s m d e

other_sign : (x : Float) (n p : ℕ) → IsNearestFloat x n p → IsNearestFloat (neg x) n p
unfolding neg
other_sign nan n p h = h
other_sign (inf s) n p h = h
other_sign (fin s m e) n p h = h

plain : (n p : ℕ) → n < 10 ^ 15 → 0 < p → IsNearestFloat (round binary64 false n p) n p
plain n p h B = of_value n p (grid binary64 n p) (2 ^ 1074) B (round binary64 false n p) refl (round_val binary64 n p (below n p h))

rounded : (s : Bool) (n p : ℕ) → n < 10 ^ 15 → 0 < p → IsNearestFloat (round binary64 s n p) n p
rounded false n p h B = plain n p h B
rounded true n p h B = subst (λ (x : Float). IsNearestFloat x n p) (neg_round binary64 n p) (other_sign (round binary64 false n p) n p (plain n p h B))

-- ---- a decimal, with the number of all its digits and 10 to the power of those behind the point

module _ (s : Bool) (w : List ℕ) where
  abbrev n : ℕ
  n = numeral_value 10 (before w ++ behind w)

  abbrev p : ℕ
  p = 10 ^ length (behind w)

  small : is_decimal w ≡ true → n < 10 ^ 15
  small h =
      let c = ltb n (10 ^ 15) in
      let b = leb (length (behind w)) 15 in
      let a = not (has_point w) || is_numeral 10 (behind w) in
      ltb-true n (10 ^ 15) ((and-eq-true_iff b c).0 ((and-eq-true_iff a (b && c)).0 ((and-eq-true_iff (is_numeral 10 (before w)) (a && (b && c))).0 h).1).1).1

  decimal_nearest : (x : Float) → decimal_as s w ≡ Some x → IsNearestFloat x n p
  unfolding decimal_as
  decimal_nearest x e = go (is_decimal w) refl e
    where
      go : (t : Bool) → is_decimal w ≡ t → cond t (Some (round binary64 s n p)) None ≡ Some x → IsNearestFloat x n p
      go false h e = absurd (let z : ◌≡◌ {A = ℕ} 0 1 = cc in omega arith)
      go true h e =
          let f : round binary64 s n p ≡ x = cc in
          subst (λ (y : Float). IsNearestFloat y n p) f (rounded s n p (small h) (power_above (length (behind w))))

pub value_laws : ValueLaws
value_laws = record { decimal_nearest = decimal_nearest }
