-- A float and an integer, each added to X, are equal just where the integer is the float's whole value. X is an even integer M far enough
-- from 2 ^ 52 and from 2 ^ 53. Then the integer's sum is exact, and the float's is rounded to the integer nearest to it, which M moves along
-- with the whole value (`proofs/Spaced.antt`). Assumes nothing.
use mathlib.Core.Path.{◌≡◌, refl, sym, ap, ◌∙◌, subst}
use mathlib.Core.Bool.{Bool, true, false, cond, true≢false}
use Prim.Native.Nat.{ℕ, zero, suc, ◌+◌, ◌-◌, ◌*◌, ◌%◌, ◌^◌, ◌≤◌, ◌<◌}
use native.Mathlib.Nat.{mul-one, add-mul, mul-le-mul_right, le_of_lt}
use native.Mathlib.Omega.{arith}
use borrow.Author.Tests.{ne_eqb, lt-ltb, le-ltb, le-leb, ltb-true, ltb-false}
use lib.Dec.{T, ltb, eqb, eqb→eq}
use lib.IntN.{ℤ, pos, negsuc, nat_abs}
use lib.Ieee.{Float, nan, inf, fin, binary64, up, down, round, sum, add, eq, of_int}
use lib.Ieee.Back.{round_whole}
use lib.Ieee.Exact.{HasValue}
use lib.Ieee.Fits.{down_pos}
use lib.Ieee.Nearest.{closest, closest_same}
use mir.Syntax.{w32}
use mir.Val.{SFits}
use Rattle.std.specs.Prelude.{Ok, Err}
use Rattle.rounding.specs.declared.NoWhole.TheVariants.{Beyond}
use Rattle.rounding.specs.Fraction.{IsNearest}
use Rattle.rounding.specs.Whole.{magnitude_of, signed_of, is_i32, in_answer, whole_of, same, is_whole}
use Rattle.rounding.proofs.Fraction.{closest_is, only_one}
use Rattle.rounding.proofs.Spaced.{spaced, not_true, alike, closest_one, closest_most, closest_least, is_nearest, inf_false, minus_false}

-- ---- a number with a sign, added to another

-- a added to b, or taken off it
abbrev placed : Bool → ℕ → ℕ → ℕ
placed false a b = b + a
placed true a b = b - a

sum_within : (s : Bool) (a b c : ℕ) → (s ≡ true → a ≤ b) → sum binary64 s a false b c ≡ round binary64 false (placed s a b) c
unfolding sum
sum_within false a b c h = ap (λ (k : ℕ). round binary64 false k c) (omega arith)
sum_within true a b c h = go (ltb a b) refl
  where
    go : (t : Bool) → ltb a b ≡ t → sum binary64 true a false b c ≡ round binary64 false (b - a) c
    go true e = rw e refl
    go false e =
        let l = ltb-false a b e in
        let k = h refl in
        let z : a - b ≡ b - a = omega arith in
        rw (e, le-ltb b a (omega arith), z) refl

sum_beyond : (a b c : ℕ) → b < a → sum binary64 true a false b c ≡ round binary64 true (a - b) c
unfolding sum
sum_beyond a b c h = rw (le-ltb a b (omega arith), lt-ltb b a h) refl

-- ---- an integer of 32 bits

abbrev is_minus : ℤ → Bool
is_minus (pos n) = false
is_minus (negsuc n) = true

size_fits : (z : ℤ) → SFits w32 z → nat_abs z ≤ 2 ^ 31
size_fits (pos n) f = omega (arith, f.sfits)
size_fits (negsuc n) f = omega (arith, f.sfits)

int_value : (z : ℤ) → nat_abs z ≤ 2 ^ 31 → HasValue (of_int binary64 z) (is_minus z) (nat_abs z) 1
unfolding of_int
int_value (pos n) h = round_whole binary64 false n (omega arith)
int_value (negsuc n) h = round_whole binary64 true (suc n) (omega arith)

held : (y z : ℤ) → SFits w32 z → T (same y z) → is_i32 y ≡ true
held (pos k) (pos n) f t = le-leb k 2147483647 (omega (arith, eqb→eq k n t, f.sfits))
held (pos k) (negsuc n) f t = absurd t
held (negsuc k) (pos n) f t = absurd t
held (negsuc k) (negsuc n) f t = rw (le-leb k 2147483647 (omega (arith, eqb→eq k n t, f.sfits))) refl

-- a number that no answer holds is not z
answered : (z y : ℤ) → SFits w32 z → is_whole z (in_answer y) ≡ same y z
answered z y f = go (is_i32 y) refl
  where
    go : (t : Bool) → is_i32 y ≡ t → is_whole z (cond t (Ok y) (Err Beyond)) ≡ same y z
    go true e = refl
    go false e = sym (not_true (same y z) (λ t. true≢false (sym (held y z f t) ∙ e)))

-- ---- sums with an even integer M far enough from 2 ^ 52 and from 2 ^ 53

module _ (M : ℕ) (even : M % 2 ≡ 0) (low : 2 ^ 52 + 2 ^ 31 < M) (high : M + 2 ^ 31 < 2 ^ 53) where
  -- M moves the nearest integer along
  moved_up : (q a c : ℕ) → 0 < c → IsNearest q a c → IsNearest (M + q) (M * c + a) c
  moved_up q a c C h =
      let d = add-mul M q c in
      let u = h.not_above in
      let l = h.not_below in
      record {
        not_above = omega arith;
        not_below = omega arith;
        even_above = λ t. let k = h.even_above (omega arith) in omega arith;
        even_below = λ t. let k = h.even_below (omega arith) in omega arith;
      }

  moved_down : (p q a c : ℕ) → 0 < c → p + q ≡ M → a ≤ M * c → IsNearest q a c → IsNearest p (M * c - a) c
  moved_down p q a c C e g h =
      let d : p * c + q * c ≡ M * c = sym (add-mul p q c) ∙ ap (λ (k : ℕ). k * c) e in
      let u = h.not_above in
      let l = h.not_below in
      record {
        not_above = omega arith;
        not_below = omega arith;
        even_above = λ t. let k = h.even_below (omega arith) in omega arith;
        even_below = λ t. let k = h.even_above (omega arith) in omega arith;
      }

  closest_placed : (s : Bool) (a c : ℕ) → 0 < c → (s ≡ true → a ≤ M * c) → closest (placed s a (M * c)) c ≡ placed s (closest a c) M
  closest_placed false a c C h = only_one _ _ (M * c + a) c C (closest_is _ c C) (moved_up (closest a c) a c C (closest_is a c C))
  closest_placed true a c C h =
      let q = closest_most a c M C (h refl) in
      only_one _ _ (M * c - a) c C (closest_is _ c C) (moved_down (M - closest a c) (closest a c) a c C (omega arith) (h refl) (closest_is a c C))

  same_placed : (s : Bool) (q : ℕ) (z : ℤ) → (s ≡ true → q ≤ M) → nat_abs z ≤ 2 ^ 31 → eqb (placed s q M) (placed (is_minus z) (nat_abs z) M) ≡ same (signed_of s q) z
  same_placed false q (pos n) h k = alike (M + q) (M + n) q n (λ e. omega arith) (λ e. omega arith)
  same_placed false q (negsuc n) h k = ne_eqb (M + q) (M - suc n) (λ e. omega arith)
  same_placed true zero (pos n) h k = alike (M - 0) (M + n) 0 n (λ e. omega arith) (λ e. omega arith)
  same_placed true (suc q) (pos n) h k = ne_eqb (M - suc q) (M + n) (λ e. omega arith)
  same_placed true zero (negsuc n) h k = ne_eqb (M - 0) (M - suc n) (λ e. omega arith)
  same_placed true (suc q) (negsuc n) h k = let l = h refl in alike (M - suc q) (M - suc n) q n (λ e. omega arith) (λ e. omega arith)

  same_far : (q : ℕ) (z : ℤ) → M ≤ q → nat_abs z ≤ 2 ^ 31 → same (signed_of true q) z ≡ false
  same_far zero z h k = absurd (omega arith)
  same_far (suc q) (pos n) h k = refl
  same_far (suc q) (negsuc n) h k = ne_eqb q n (λ e. omega arith)

  -- a / c is k, of 31 bits, and so the sum lies from 2 ^ 52 up to 2 ^ 53
  close : (s : Bool) (k a c : ℕ) → k ≤ 2 ^ 31 → 0 < c → a * 1 ≡ k * c → (s ≡ true → a ≤ M * c) × ((2 ^ 52 * c ≤ placed s a (M * c)) × (placed s a (M * c) < 2 ^ 53 * c))
  close s k a c K C e =
      let l = mul-le-mul_right c K in
      let m : (2 ^ 52 + 2 ^ 31) * c ≤ M * c = mul-le-mul_right c (omega arith) in
      let n : M * c ≤ (2 ^ 53 - 2 ^ 31 - 1) * c = mul-le-mul_right c (omega arith) in
      (λ t. omega arith, go s l m n)
    where
      go : (s : Bool) → k * c ≤ 2 ^ 31 * c → (2 ^ 52 + 2 ^ 31) * c ≤ M * c → M * c ≤ (2 ^ 53 - 2 ^ 31 - 1) * c → (2 ^ 52 * c ≤ placed s a (M * c)) × (placed s a (M * c) < 2 ^ 53 * c)
      go false l m n = (omega arith, omega arith)
      go true l m n = (omega arith, omega arith)

  module _ (X : Float) (j h : ℕ) (is : X ≡ fin false j (pos h)) (size : j * 2 ^ h ≡ M) where
    sum_of : (s : Bool) (m : ℕ) (e : ℤ) → add binary64 (fin s m e) X ≡ sum binary64 s (m * up e) false (M * down e) (down e)
    unfolding add
    sum_of s m e = ap (add binary64 (fin s m e)) is ∙ (λ i. sum binary64 s (mul-one (m * up e) i) false (size i * down e) (mul-one (down e) i))

    sum_rounded : (s : Bool) (m : ℕ) (e : ℤ) → (s ≡ true → m * up e ≤ M * down e) → add binary64 (fin s m e) X ≡ round binary64 false (placed s (m * up e) (M * down e)) (down e)
    sum_rounded s m e b = sum_of s m e ∙ sum_within s (m * up e) (M * down e) (down e) b

    -- an integer's sum is exact
    exact : (y : Float) (t : Bool) (k : ℕ) → k ≤ 2 ^ 31 → HasValue y t k 1 → HasValue (add binary64 y X) false (placed t k M) 1
    exact nan t k K v = absurd v
    exact (inf s) t k K v = absurd v
    exact (fin s m e) t k K v =
        let c = down e in
        let C = down_pos e in
        let a = placed t (m * up e) (M * c) in
        let b = close t k (m * up e) c K C v.1 in
        let q : closest (m * up e) c ≡ k = closest_same (m * up e) c k 1 C (omega arith) v.1 ∙ closest_one k in
        let n : closest a c ≡ placed t k M = closest_placed t (m * up e) c C b.0 ∙ ap (λ (i : ℕ). placed t i M) q in
        let r : add binary64 (fin s m e) X ≡ round binary64 false a c = ap (λ (u : Bool). add binary64 (fin u m e) X) v.0 ∙ sum_rounded t m e b.0 in
        subst (λ (u : Float). HasValue u false (placed t k M) 1) (sym r)
        (subst (λ (i : ℕ). HasValue (round binary64 false a c) false i 1) n (spaced binary64 a c C b.1.0 b.1.1 (closest_most a c (2 ^ 53) C (le_of_lt b.1.1))))

    -- W is the sum of z and X
    module _ (z : ℤ) (f : SFits w32 z) (W : Float) (w : HasValue W false (placed (is_minus z) (nat_abs z) M) 1) where
      between : (s : Bool) (n : ℕ) → n ≤ 2 ^ 31 → (2 ^ 52 < placed s n M) × (placed s n M < 2 ^ 53)
      between true n k = (omega arith, omega arith)
      between false n k = (omega arith, omega arith)

      B : (2 ^ 52 < placed (is_minus z) (nat_abs z) M) × (placed (is_minus z) (nat_abs z) M < 2 ^ 53)
      B = between (is_minus z) (nat_abs z) (size_fits z f)

      within : (s : Bool) (m : ℕ) (e : ℤ) → (s ≡ true → m * up e ≤ M * down e) → eq (add binary64 (fin s m e) X) W ≡ same (signed_of s (magnitude_of m e)) z
      within s m e b =
          let C = down_pos e in
          ap (λ (y : Float). eq y W) (sum_rounded s m e b) ∙ is_nearest W _ w B.0 B.1 (placed s (m * up e) (M * down e)) (down e) C
          ∙ ap (λ (q : ℕ). eqb q (placed (is_minus z) (nat_abs z) M)) (closest_placed s (m * up e) (down e) C b)
          ∙ same_placed s (magnitude_of m e) z (λ t. closest_most (m * up e) (down e) M C (b t)) (size_fits z f)

      -- the sum is below zero, and the whole value far below every z
      beyond : (m : ℕ) (e : ℤ) → M * down e < m * up e → eq (add binary64 (fin true m e) X) W ≡ same (signed_of true (magnitude_of m e)) z
      beyond m e l =
          let q = closest_least (m * up e) (down e) M (down_pos e) (omega arith) in
          ap (λ (y : Float). eq y W) (sum_of true m e ∙ sum_beyond (m * up e) (M * down e) (down e) l) ∙ minus_false W _ w B.0 B.1 (m * up e - M * down e) (down e)
          ∙ sym (same_far (magnitude_of m e) z q (size_fits z f))

      finite : (s : Bool) (m : ℕ) (e : ℤ) → eq (add binary64 (fin s m e) X) W ≡ same (signed_of s (magnitude_of m e)) z
      finite false m e = within false m e (λ t. absurd (true≢false (sym t)))
      finite true m e = go (ltb (M * down e) (m * up e)) refl
        where
          go : (t : Bool) → ltb (M * down e) (m * up e) ≡ t → eq (add binary64 (fin true m e) X) W ≡ same (signed_of true (magnitude_of m e)) z
          go true k = beyond m e (ltb-true _ _ k)
          go false k = within true m e (λ t. ltb-false _ _ k)

      by_float : (x : Float) → eq (add binary64 x X) W ≡ is_whole z (whole_of x)
      unfolding add eq whole_of
      by_float nan = refl
      by_float (inf s) = ap (λ (u : Float). eq (add binary64 (inf s) u) W) is ∙ inf_false W _ w B.0 B.1 s
      by_float (fin s m e) = finite s m e ∙ sym (answered z (signed_of s (magnitude_of m e)) f)

    pub sums : (x y : Float) (z : ℤ) → SFits w32 z → y ≡ of_int binary64 z → eq (add binary64 x X) (add binary64 y X) ≡ is_whole z (whole_of x)
    sums x y z f e =
        let v = subst (λ (u : Float). HasValue u (is_minus z) (nat_abs z) 1) (sym e) (int_value z (size_fits z f)) in
        by_float z f (add binary64 y X) (exact y (is_minus z) (nat_abs z) (size_fits z f) v) x
