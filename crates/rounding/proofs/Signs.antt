-- An integer as a sign and a magnitude: its order and its bounds. Assumes nothing.
use mathlib.Core.Path.{◌≡◌, refl, sym}
use mathlib.Core.Bool.{Bool, true, false, ◌&&◌, false≢true}
use Prim.Native.Nat.{ℕ, zero, suc, ◌*◌, ◌≤◌, ◌<◌}
use native.Mathlib.Nat.{mul-pos}
use native.Mathlib.Omega.{arith}
use borrow.Author.Tests.{leb-true, le-leb}
use lib.IntN.{ℤ, pos, negsuc, neg_ℤ, nat_abs, ◌*ℤ◌, pos-ne-negsuc}
use lib.Signed.{le_z}
use mir.Syntax.{w32}
use mir.Val.{SFits}
use Rattle.rounding.specs.Whole.{signed_of, is_i32}

-- ---- the order

pub le_neg : (x y : ℕ) → le_z (neg_ℤ (pos x)) (neg_ℤ (pos y)) ≡ true → y ≤ x
le_neg x zero h = omega arith
le_neg zero (suc y) h = absurd (false≢true h)
le_neg (suc x) (suc y) h = let l = leb-true y x h in omega arith

pub neg_le : (x y : ℕ) → y ≤ x → le_z (neg_ℤ (pos x)) (neg_ℤ (pos y)) ≡ true
neg_le zero zero h = refl
neg_le zero (suc y) h = absurd (omega arith)
neg_le (suc x) zero h = refl
neg_le (suc x) (suc y) h = le-leb y x (omega arith)

pub pos_le_neg : (x y : ℕ) → le_z (pos x) (neg_ℤ (pos y)) ≡ true → (x ≡ 0) × (y ≡ 0)
pos_le_neg x zero h = (let l = leb-true x 0 h in omega arith, refl)
pos_le_neg x (suc y) h = absurd (false≢true h)

pub neg_le_pos : (x y : ℕ) → le_z (neg_ℤ (pos x)) (pos y) ≡ true
neg_le_pos zero y = le-leb 0 y (omega arith)
neg_le_pos (suc x) y = refl

-- ---- x with the sign s is z times b

pub abs_signed : (s : Bool) (q : ℕ) → nat_abs (signed_of s q) ≡ q
abs_signed false q = refl
abs_signed true zero = refl
abs_signed true (suc q) = refl

pub abs_mul : (z : ℤ) (b : ℕ) → nat_abs (z *ℤ pos b) ≡ nat_abs z * b
abs_mul (pos n) b = refl
abs_mul (negsuc n) b = abs_signed true (suc n * b)

unlike : (x k : ℕ) → 0 < x → neg_ℤ (pos x) ≡ pos k → ⊥
unlike zero k l h = omega arith
unlike (suc x) k l h = pos-ne-negsuc k x (sym h)

pub sign_of : (s : Bool) (x b : ℕ) (z : ℤ) → 0 < b → signed_of s x ≡ z *ℤ pos b → x ≡ nat_abs z * b → signed_of s (nat_abs z) ≡ z
sign_of false x b (pos n) B h e = refl
sign_of false x b (negsuc n) B h e = absurd (unlike (suc n * b) x (mul-pos (omega arith) B) (sym h))
sign_of true x b (pos zero) B h e = refl
sign_of true x b (pos (suc n)) B h e = absurd (unlike x (suc n * b) (let l = mul-pos {m = suc n} (omega arith) B in omega arith) h)
sign_of true x b (negsuc n) B h e = refl

-- ---- the answer's integers are those of 32 bits

pub between_fits : (a b : ℕ) (z : ℤ) → a < 2147483648 → b < 2147483648 → (le_z (negsuc a) z && le_z z (pos b)) ≡ true → SFits w32 z
between_fits a b (pos n) k l h = record { sfits = let m = leb-true n b h in omega arith }
between_fits a b (negsuc n) k l h = record { sfits = let m = leb-true n a (first (le_z (negsuc a) (negsuc n)) h) in omega arith }
  where
    first : (t : Bool) → (t && true) ≡ true → t ≡ true
    first true h = h
    first false h = h

pub i32_fits : (z : ℤ) → is_i32 z ≡ true → SFits w32 z
i32_fits z h = between_fits 2147483647 2147483647 z (omega arith) (omega arith) h
