-- The laws of `specs/Laws.antt`, each as a lemma for callers too. The magnitude's come from those of `closest` (`proofs/Fraction.antt`),
-- the signed ones from these by cases of the sign (`proofs/Signs.antt`). Assumes nothing.
use mathlib.Core.Path.{◌≡◌, refl, sym, ap, ◌∙◌}
use mathlib.Core.Bool.{Bool, true, false, cond}
use Prim.Native.Nat.{ℕ, zero, suc, ◌*◌, ◌≤◌}
use native.Mathlib.Nat.{zero-mul, mul-pos}
use native.Mathlib.Omega.{arith}
use borrow.Author.Tests.{leb-true, le-leb}
use lib.IntN.{ℤ, pos, nat_abs, ◌*ℤ◌}
use lib.Signed.{le_z}
use lib.Ieee.{Float, nan, inf, fin, up, down}
use lib.Ieee.Fits.{down_pos}
use lib.Ieee.Nearest.{closest_mono}
use mir.Syntax.{w32}
use mir.Val.{SFits}
use Rattle.std.specs.Prelude.{Ok, Err}
use Rattle.rounding.specs.declared.NoWhole.TheVariants.{Beyond}
use Rattle.rounding.specs.Whole.{magnitude_of, signed_of, is_i32, in_answer, whole_of}
use Rattle.rounding.specs.Fraction.{IsNearest}
use Rattle.rounding.specs.Laws.{WholeLaws}
use Rattle.rounding.proofs.Fraction.{closest_is, only_one}
use Rattle.rounding.proofs.Signs.{le_neg, neg_le, pos_le_neg, neg_le_pos, abs_signed, abs_mul, sign_of, i32_fits}

pub magnitude_nearest : (m : ℕ) (e : ℤ) → IsNearest (magnitude_of m e) (m * up e) (down e)
magnitude_nearest m e = closest_is (m * up e) (down e) (down_pos e)

pub magnitude_only : (m : ℕ) (e : ℤ) (q : ℕ) → IsNearest q (m * up e) (down e) → q ≡ magnitude_of m e
magnitude_only m e q h = only_one q (magnitude_of m e) (m * up e) (down e) (down_pos e) h (magnitude_nearest m e)

pub magnitude_exact : (m : ℕ) (e : ℤ) (n : ℕ) → m * up e ≡ n * down e → magnitude_of m e ≡ n
magnitude_exact m e n h =
    let b = down_pos e in
    sym (magnitude_only m e n
    (record { not_above = omega arith; not_below = omega arith; even_above = λ t. absurd (omega arith); even_below = λ t. absurd (omega arith) }))

pub whole_exact : (s : Bool) (m : ℕ) (e : ℤ) (n : ℕ) → m * up e ≡ n * down e → whole_of (fin s m e) ≡ in_answer (signed_of s n)
unfolding whole_of
whole_exact s m e n h = ap (λ (q : ℕ). in_answer (signed_of s q)) (magnitude_exact m e n h)

pub whole_integer : (s : Bool) (m : ℕ) (e z : ℤ) → signed_of s (m * up e) ≡ z *ℤ pos (down e) → is_i32 z ≡ true → whole_of (fin s m e) ≡ Ok z
whole_integer s m e z h f =
    let n : m * up e ≡ nat_abs z * down e = sym (abs_signed s (m * up e)) ∙ ap nat_abs h ∙ abs_mul z (down e) in
    let v : in_answer z ≡ Ok z = rw f in
    whole_exact s m e (nat_abs z) n ∙ ap in_answer (sign_of s (m * up e) (down e) z (down_pos e) h n) ∙ v

pub whole_zero : (s : Bool) (e : ℤ) → whole_of (fin s 0 e) ≡ Ok (pos 0)
whole_zero s e = whole_exact s 0 e 0 (zero-mul (up e) ∙ sym (zero-mul (down e))) ∙ same s
  where
    same : (s : Bool) → in_answer (signed_of s 0) ≡ Ok (pos 0)
    same false = refl
    same true = refl

pub whole_in : (x : Float) (z : ℤ) → whole_of x ≡ Ok z → is_i32 z ≡ true
unfolding whole_of
whole_in nan z h = absurd (let c : ◌≡◌ {A = ℕ} 0 1 = cc in omega arith)
whole_in (inf s) z h = absurd (let c : ◌≡◌ {A = ℕ} 0 1 = cc in omega arith)
whole_in (fin s m e) z h = go (signed_of s (magnitude_of m e)) (is_i32 (signed_of s (magnitude_of m e))) refl h
  where
    go : (w : ℤ) (t : Bool) → is_i32 w ≡ t → cond t (Ok w) (Err Beyond) ≡ Ok z → is_i32 z ≡ true
    go w true e h = let f : w ≡ z = cc in rw (← f) e
    go w false e h = absurd (let c : ◌≡◌ {A = ℕ} 0 1 = cc in omega arith)

pub whole_fits : (x : Float) (z : ℤ) → whole_of x ≡ Ok z → SFits w32 z
whole_fits x z h = i32_fits z (whole_in x z h)

mag_mono : (m n : ℕ) (e d : ℤ) → m * up e * down d ≤ n * up d * down e → magnitude_of m e ≤ magnitude_of n d
mag_mono m n e d h = closest_mono (m * up e) (down e) (n * up d) (down d) (down_pos e) (down_pos d) h

mag_zero : (m : ℕ) (e d : ℤ) → m * up e * down d ≡ 0 → magnitude_of m e ≡ 0
mag_zero m e d h = magnitude_exact m e 0 (go (m * up e) h ∙ sym (zero-mul (down e)))
  where
    go : (k : ℕ) → k * down d ≡ 0 → k ≡ 0
    go zero h = refl
    go (suc k) h = absurd (let l = mul-pos {m = suc k} (omega arith) (down_pos d) in omega arith)

pub whole_mono : (s t : Bool) (m n : ℕ) (e d : ℤ) →
    le_z (signed_of s (m * up e * down d)) (signed_of t (n * up d * down e)) ≡ true →
    le_z (signed_of s (magnitude_of m e)) (signed_of t (magnitude_of n d)) ≡ true
whole_mono false false m n e d h = le-leb (magnitude_of m e) (magnitude_of n d) (mag_mono m n e d (leb-true (m * up e * down d) (n * up d * down e) h))
whole_mono true false m n e d h = neg_le_pos (magnitude_of m e) (magnitude_of n d)
whole_mono true true m n e d h = neg_le (magnitude_of m e) (magnitude_of n d) (mag_mono n m d e (le_neg (m * up e * down d) (n * up d * down e) h))
whole_mono false true m n e d h =
    let z = pos_le_neg (m * up e * down d) (n * up d * down e) h in
    rw (mag_zero m e d z.0, mag_zero n d e z.1)

pub whole_laws : WholeLaws
whole_laws = record {
  magnitude_nearest = magnitude_nearest;
  magnitude_only = magnitude_only;
  whole_exact = whole_exact;
  whole_integer = whole_integer;
  whole_zero = whole_zero;
  whole_in = whole_in;
  whole_fits = whole_fits;
  whole_mono = whole_mono;
}
