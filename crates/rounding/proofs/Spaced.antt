-- A fraction rounded to a float, and compared with an integer v between 2 ^ 52 and 2 ^ 53: they are equal just where v is the integer nearest
-- to the fraction, a tie to the even one. Assumes nothing.
use mathlib.Core.Path.{◌≡◌, refl, sym, ap, ◌∙◌, subst}
use mathlib.Core.Bool.{Bool, true, false, cond, ◌&&◌, true≢false}
use Prim.Native.Nat.{ℕ, suc, ◌+◌, ◌-◌, ◌*◌, ◌/◌, ◌^◌, ◌≤◌, ◌<◌}
use native.Mathlib.Nat.{mul-pos, mul-le-mul_right, mul-lt-mul_of_pos_right, eq_of_mul-eq-mul_right, le-div_iff_mul-le, div-lt_iff_lt-mul, lt_of_lt_of_le, lt_of_le_of_lt, lt_of_not-le, not-le_of_lt}
use native.Mathlib.Omega.{arith}
use borrow.Author.Tests.{eq-eqb, ne_eqb, eqb-true, ltb-true, ltb-false}
use lib.Dec.{T, ltb, eqb, eqb→eq, ltb→lt}
use lib.Pow.{pow_pos, pow_mono}
use lib.Ieee.{Float, Format, nan, inf, fin, binary32, binary64, prec, low, emax, up, down, size, odd, units, round, eq}
use lib.Ieee.Back.{round_whole}
use lib.Ieee.Digits.{size-lt, size-le}
use lib.Ieee.Exact.{HasValue, odd_sign, units_val}
use lib.Ieee.Fits.{and_l, and_r, core, down_pos, round_is}
use lib.Ieee.Nearest.{closest, closest_same, closest_mono}
use lib.Ieee.Order.{round_mono}
use lib.Ieee.Positive.{positive, positive_of_value, values_of_le}
use Rattle.std.proofs.lemmas.Float.{le_trans, le_of_eq, eq_flip}
use Rattle.rounding.proofs.Fraction.{closest_is, only_one}

-- ---- from 2 ^ 52 up to 2 ^ 53 floats are 1 apart, so that a fraction is rounded to an integer

size-gt : (n j : ℕ) → 2 ^ j ≤ n → j < size n
size-gt n j h = lt_of_not-le (λ (g : size n ≤ j). not-le_of_lt (lt_of_lt_of_le (size-lt n) (pow_mono g)) h)

scaled_down : (z : Float) (n l : ℕ) → 0 < l → HasValue z false (n * l) l → HasValue z false n 1
scaled_down nan n l p v = absurd v
scaled_down (inf s) n l p v = absurd v
scaled_down (fin s m e) n l p v = (v.0, eq_of_mul-eq-mul_right l p (m * up e * 1) (n * down e) (omega (arith, v.1)))

numbers : (f : Format) → (2 ^ (prec f - 1 + low f) ≡ 2 ^ (prec f - 1) * 2 ^ low f) × (2 ^ (prec f + low f) ≡ 2 ^ prec f * 2 ^ low f)
    × (2 ^ prec f * 2 ^ low f < 2 ^ (low f + suc (emax f))) × (suc (prec f - 1 + low f) ≡ prec f + low f)
numbers binary32 = (refl, refl, ltb→lt _ _ tt, refl)
numbers binary64 = (refl, refl, ltb→lt _ _ tt, refl)

pub spaced : (f : Format) (a d : ℕ) → 0 < d → 2 ^ (prec f - 1) * d ≤ a → a < 2 ^ prec f * d → closest a d ≤ 2 ^ prec f → HasValue (round f false a d) false (closest a d) 1
spaced f a d D lo hi most =
    let c = closest a d in
    let L = 2 ^ low f in
    let N = numbers f in
    let lo' : 2 ^ (prec f - 1 + low f) * d ≤ a * L = omega (arith, mul-le-mul_right L lo, ap (λ (k : ℕ). k * d) N.0) in
    let hi' : a * L < 2 ^ (prec f + low f) * d = omega (arith, mul-lt-mul_of_pos_right hi (pow_pos (low f)), ap (λ (k : ℕ). k * d) N.1) in
    let k : size (a * L / d) - prec f ≡ low f =
    omega (arith, N.3, size-gt (a * L / d) (prec f - 1 + low f) ((le-div_iff_mul-le D).1 lo'), size-le (a * L / d) (prec f + low f) ((div-lt_iff_lt-mul D).1 hi')) in
    let kept : closest (a * L) (d * L) ≡ c = closest_same (a * L) (d * L) a d (mul-pos D (pow_pos (low f))) D (omega arith) in
    let y : round f false a d ≡ units f false c (low f) = round_is f false a d ∙ ap (core f false (a * L) d) k ∙ ap (λ (q : ℕ). units f false q (low f)) kept in
    scaled_down (round f false a d) c L (pow_pos (low f))
    (subst (λ (z : Float). HasValue z false (c * L) L) (sym y) (units_val f false c (low f) (lt_of_le_of_lt (mul-le-mul_right L most) N.2)))

-- ---- a float compared with W, which is v

pub not_true : (b : Bool) → (T b → ⊥) → b ≡ false
not_true true h = absurd (h tt)
not_true false h = refl

pub alike : (a b c d : ℕ) → (a ≡ b → c ≡ d) → (c ≡ d → a ≡ b) → eqb a b ≡ eqb c d
alike a b c d f g = go (eqb c d) refl
  where
    go : (t : Bool) → eqb c d ≡ t → eqb a b ≡ t
    go true e = eq-eqb a b (g (eqb-true c d e))
    go false e = ne_eqb a b (λ (p : a ≡ b). true≢false (sym (eq-eqb c d (f p)) ∙ e))

-- two integers are compared as such
by_values : (y z : Float) (k n : ℕ) → HasValue y false k 1 → HasValue z false n 1 → eq y z ≡ eqb k n
unfolding eq
by_values nan z k n v w = absurd v
by_values (inf s) z k n v w = absurd v
by_values (fin s m e) nan k n v w = absurd w
by_values (fin s m e) (inf t) k n v w = absurd w
by_values (fin true m e) (fin t j d) k n v w = absurd (true≢false v.0)
by_values (fin false m e) (fin true j d) k n v w = absurd (true≢false w.0)
by_values (fin false m e) (fin false j d) k n v w =
    let p : m * up e * down d ≡ k * (down e * down d) = omega (arith, ap (λ (x : ℕ). x * down d) v.1) in
    let q : j * up d * down e ≡ n * (down e * down d) = omega (arith, ap (λ (x : ℕ). x * down e) w.1) in
    let l = mul-pos (down_pos e) (down_pos d) in
    and_true _ ∙ (λ i. eqb (p i) (q i)) ∙ alike _ _ k n (eq_of_mul-eq-mul_right _ l k n) (ap (λ (x : ℕ). x * (down e * down d)))
  where
    and_true : (b : Bool) → (b && true) ≡ b
    and_true true = refl
    and_true false = refl

-- a value below zero, or zero with the sign, and one above zero
opposite : (y z : Float) (a c n : ℕ) → HasValue y true a c → HasValue z false n 1 → 0 < n → eq y z ≡ false
unfolding eq
opposite nan z a c n v w l = absurd v
opposite (inf s) z a c n v w l = absurd v
opposite (fin s m e) nan a c n v w l = absurd w
opposite (fin s m e) (inf t) a c n v w l = absurd w
opposite (fin false m e) (fin t j d) a c n v w l = absurd (true≢false (sym v.0))
opposite (fin true m e) (fin true j d) a c n v w l = absurd (true≢false w.0)
opposite (fin true m e) (fin false j d) a c n v w l =
    let p : 0 < j * up d * down e = mul-pos (omega (arith, w.1, mul-pos l (down_pos d))) (down_pos e) in
    apart (m * up e * down d) (j * up d * down e) p
  where
    apart : (x y : ℕ) → 0 < y → (eqb x y && eqb x 0) ≡ false
    apart x y l = not_true _ (λ t. omega (arith, eqb→eq x y (and_l _ _ t), eqb→eq x 0 (and_r _ _ t)))

infinite : (z : Float) (n : ℕ) → HasValue z false n 1 → (s : Bool) → eq (inf s) z ≡ false
unfolding eq
infinite nan n w s = absurd w
infinite (inf t) n w s = absurd w
infinite (fin t j d) n w s = refl

pub closest_one : (n : ℕ) → closest n 1 ≡ n
closest_one n = only_one (closest n 1) n n 1 (omega arith) (closest_is n 1 (omega arith))
    (record { not_above = omega arith; not_below = omega arith; even_above = λ t. absurd (omega arith); even_below = λ t. absurd (omega arith) })

pub closest_most : (a c n : ℕ) → 0 < c → a ≤ n * c → closest a c ≤ n
closest_most a c n C h = omega (arith, closest_one n, closest_mono a c n 1 C (omega arith) (omega arith))

pub closest_least : (a c n : ℕ) → 0 < c → n * c ≤ a → n ≤ closest a c
closest_least a c n C h = omega (arith, closest_one n, closest_mono n 1 a c (omega arith) C (omega arith))

module _ (W : Float) (v : ℕ) (w : HasValue W false v 1) (A : 2 ^ 52 < v) (B : v < 2 ^ 53) where
  is_positive : T (positive W)
  is_positive = positive_of_value W v 1 w (omega arith)

  low_false : (a c : ℕ) → 0 < c → a ≤ 2 ^ 52 * c → eq (round binary64 false a c) W ≡ false
  low_false a c C h = not_true _ (λ (t : T (eq (round binary64 false a c) W)).
      let b = round_whole binary64 false (2 ^ 52) (omega arith) in
      let l = le_trans _ _ _ (le_of_eq _ _ (eq_flip _ _ t)) (round_mono binary64 a c (2 ^ 52) 1 C (omega arith) (omega arith)) in
      let k = values_of_le W (round binary64 false (2 ^ 52) 1) v 1 (2 ^ 52) 1 is_positive (positive_of_value _ _ 1 b (omega arith)) w b l in
      omega arith)

  high_false : (a c : ℕ) → 0 < c → 2 ^ 53 * c ≤ a → eq (round binary64 false a c) W ≡ false
  high_false a c C h = not_true _ (λ (t : T (eq (round binary64 false a c) W)).
      let b = round_whole binary64 false (2 ^ 53) (omega arith) in
      let l = le_trans _ _ _ (round_mono binary64 (2 ^ 53) 1 a c (omega arith) C (omega arith)) (le_of_eq _ _ t) in
      let k = values_of_le (round binary64 false (2 ^ 53) 1) W (2 ^ 53) 1 v 1 (positive_of_value _ _ 1 b (omega arith)) is_positive b w l in
      omega arith)

  -- a / c, rounded, is W just where the nearest integer is v
  pub is_nearest : (a c : ℕ) → 0 < c → eq (round binary64 false a c) W ≡ eqb (closest a c) v
  is_nearest a c C = go (ltb a (2 ^ 52 * c)) (ltb a (2 ^ 53 * c)) refl refl
    where
      go : (s t : Bool) → ltb a (2 ^ 52 * c) ≡ s → ltb a (2 ^ 53 * c) ≡ t → eq (round binary64 false a c) W ≡ eqb (closest a c) v
      go true t h k =
          let l = ltb-true _ _ h in
          low_false a c C (omega arith) ∙ sym (ne_eqb _ v (λ e. omega (arith, closest_most a c (2 ^ 52) C (omega arith))))
      go false true h k =
          let l = ltb-true _ _ k in
          by_values _ W (closest a c) v (spaced binary64 a c C (ltb-false _ _ h) l (closest_most a c (2 ^ 53) C (omega arith))) w
      go false false h k =
          let l = ltb-false _ _ k in
          high_false a c C l ∙ sym (ne_eqb _ v (λ e. omega (arith, closest_least a c (2 ^ 53) C l)))

  pub inf_false : (s : Bool) → eq (inf s) W ≡ false
  inf_false s = infinite W v w s

  -- what is rounded with the sign is not above zero, and W is
  pub minus_false : (a c : ℕ) → eq (round binary64 true a c) W ≡ false
  unfolding units
  minus_false a c = ap (λ (y : Float). eq y W) (round_is binary64 true a c) ∙ go _ _ _
    where
      go : (t : Bool) (q k : ℕ) → eq (cond t (odd 54 true q k 1074) (inf true)) W ≡ false
      go true q k = opposite (odd 54 true q k 1074) W _ _ v (odd_sign 54 true q k 1074) w (omega arith)
      go false q k = inf_false true
