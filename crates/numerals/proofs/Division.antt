-- N / 10 ^ k by one division of two exact floats is the float nearest to the fraction. Assumes nothing.
use Rattle.std.proofs.Common.{◌≡◌, ℕ, zero, suc, ◌+◌, ◌*◌, ◌^◌, ◌<◌, ◌≤◌, Bool, true, false, cond, ltb, pos, sym, refl, ap, ◌∙◌, mul_assoc, mul_comm, mul-pos, zero-mul, mul-one, mul_left_comm, arith, ne_eqb}
use native.Mathlib.Nat.{pow-le-pow_right, one-le-pow}
use lib.Ieee.{Float, nan, inf, fin, Format, binary64, prec, emax, low, up, down, odd, units, round, neg, div, of_int}
use lib.Ieee.Fits.{up_pos, down_pos, round_is}
use lib.Ieee.Exact.{HasValue}
use lib.Ieee.Back.{round_whole}
use lib.Ieee.Scale.{round_same}

pub power_above : (k : ℕ) → 0 < 10 ^ k
power_above k = one-le-pow k 10 (omega arith)

pub power_below : (k : ℕ) → k ≤ 15 → 10 ^ k ≤ 10 ^ 15
power_below k h = pow-le-pow_right (omega arith) h

-- a whole number of at most 2 ^ 53 is a float
exact : (n : ℕ) → n ≤ 2 ^ 53 → HasValue (of_int binary64 (pos n)) false n 1
unfolding of_int
exact n h = round_whole binary64 false n h

cross : (x y a b p q : ℕ) → x * 1 ≡ a * p → y * 1 ≡ b * q → x * q * b ≡ a * (y * p)
cross x y a b p q e f =
    let g : x ≡ a * p = sym (mul-one x) ∙ e in
    let h : y ≡ b * q = sym (mul-one y) ∙ f in
    rw (g, h) (simp (mul_assoc, mul_comm, mul_left_comm))

some : (n y b q : ℕ) → 0 < b → 0 < q → n * y * 1 ≡ b * q → n ≡ 0 → ⊥
some n y b q B Q e z =
    let l : 0 < b * q = mul-pos B Q in
    let o : n * y * 1 ≡ 0 = ap (λ (k : ℕ). k * y * 1) z ∙ ap (λ (k : ℕ). k * 1) (zero-mul y) in
    omega arith

quotient : (x y : Float) (a b : ℕ) → 0 < b → HasValue x false a 1 → HasValue y false b 1 → div binary64 x y ≡ round binary64 false a b
unfolding div
quotient nan y a b B h k = absurd h
quotient (inf s) y a b B h k = absurd h
quotient (fin s m e) nan a b B h k = absurd k
quotient (fin s m e) (inf t) a b B h k = absurd k
quotient (fin s m e) (fin t n d) a b B h k =
    let z : n ≡ 0 → ⊥ = some n (up d) b (down d) B (down_pos d) k.1 in
    rw (ne_eqb n 0 z, h.0, k.0)
    (round_same binary64 false (m * up e * down d) (n * up d * down e) a b (mul-pos (mul-pos (let l : 0 < n = omega arith in l) (up_pos d)) (down_pos e)) B
    (cross (m * up e) (n * up d) a b (down e) (down d) h.1 k.1))

-- n / p of two numbers that are exact floats
pub division : (n p : ℕ) → n ≤ 2 ^ 53 → 0 < p → p ≤ 2 ^ 53 → div binary64 (of_int binary64 (pos n)) (of_int binary64 (pos p)) ≡ round binary64 false n p
division n p h B k = quotient (of_int binary64 (pos n)) (of_int binary64 (pos p)) n p B (exact n h) (exact p k)

-- ---- the sign

neg_odd : (d q k l : ℕ) → neg (odd d false q k l) ≡ odd d true q k l
unfolding neg odd
neg_odd d zero k l = refl
neg_odd d (suc q) k l = refl

neg_units : (f : Format) (q k : ℕ) → neg (units f false q k) ≡ units f true q k
unfolding neg units
neg_units f q k = go (ltb (q * 2 ^ k) (2 ^ (low f + suc (emax f))))
  where
    go : (t : Bool) → neg (cond t (odd (suc (prec f)) false q k (low f)) (inf false)) ≡ cond t (odd (suc (prec f)) true q k (low f)) (inf true)
    go true = neg_odd (suc (prec f)) q k (low f)
    go false = refl

pub neg_round : (f : Format) (n p : ℕ) → neg (round f false n p) ≡ round f true n p
neg_round f n p = ap neg (round_is f false n p) ∙ neg_units f _ _ ∙ sym (round_is f true n p)
