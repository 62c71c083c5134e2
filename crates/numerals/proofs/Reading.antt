-- Digits read one after the other make the number that they stand for. Assumes nothing.
use Rattle.std.proofs.Common.{◌≡◌, ℕ, suc, ◌+◌, ◌*◌, ◌^◌, ◌<◌, ◌≤◌, Bool, true, false, cond, ◌&&◌, ltb, leb, List, [], ◌∷◌, length, refl, add-zero, pow-suc, mul-one, le-mul_of_pos_right, arith, le-leb, leb-false, leb-true, Option, Some, None}
use mathlib.Core.Bool.{and-eq-true_iff}
use native.Mathlib.Nat.{pow-zero, one-le-pow}
use borrow.Author.Tests.{lt-leb}
use Rattle.std.specs.Option.{option_and_then, option_map}
use Rattle.numerals.specs.Digits.{digit_of, all_digits, numeral_value}
use Rattle.numerals.specs.Private.{at_most, read_on}

-- ---- all digits

-- what f makes of a number that a test picks
pub then_picked : {X : Type 0} (t : Bool) (n : ℕ) (f : ℕ → Option X) → option_and_then f (cond t (Some n) None) ≡ cond t (f n) None
then_picked true n f = refl
then_picked false n f = refl

pub map_picked : {X : Type 0} (t : Bool) (n : ℕ) (f : ℕ → X) → option_map f (cond t (Some n) None) ≡ cond t (Some (f n)) None
map_picked true n f = refl
map_picked false n f = refl

-- v with a digit d and then n digits behind it, of the number r
regroup : (base v d n r : ℕ) → v * base ^ suc n + (d * base ^ n + r) ≡ (v * base + d) * base ^ n + r
regroup base v d n r = rw (pow-suc base n) (omega arith)

over : (most : ℕ) (t : Bool) (x : ℕ) → most < x → None ≡ at_most most t x
over most false x h = refl
over most true x h = rw (lt-leb x most h)

pub read_is : (base most v : ℕ) (w : List ℕ) → 0 < base → v ≤ most →
    read_on base most v w ≡ at_most most (all_digits base w) (v * base ^ length w + numeral_value base w)
unfolding read_on all_digits numeral_value
read_is base most v [] B h = rw (pow-zero base, mul-one v, add-zero v, le-leb v most h)
read_is base most v (b ∷ w) B h =
    rw (regroup base v (digit_of b) (length w) (numeral_value base w))
    (go (v * base + digit_of b) (ltb (digit_of b) base) (leb (v * base + digit_of b) most) refl (read_is base most (v * base + digit_of b) w B))
  where
    all : ℕ → ℕ
    all n = n * base ^ length w + numeral_value base w

    go : (n : ℕ) (t u : Bool) → leb n most ≡ u → (n ≤ most → read_on base most n w ≡ at_most most (all_digits base w) (all n)) →
        option_and_then (λ m. read_on base most m w) (cond (t && u) (Some n) None) ≡ at_most most (t && all_digits base w) (all n)
    go n false u e f = refl
    go n true true e f = f (leb-true n most e)
    go n true false e f =
        let l : n ≤ n * base ^ length w = le-mul_of_pos_right n (one-le-pow (length w) base B) in
        let m = leb-false n most e in
        over most (all_digits base w) (all n) (omega arith)

-- ---- what an answer tells

pub at_most_tells : (most : ℕ) (t : Bool) (x n : ℕ) → at_most most t x ≡ Some n → n ≤ most
at_most_tells most t x n e = go (t && leb x most) refl e
  where
    go : (u : Bool) → (t && leb x most) ≡ u → cond u (Some x) None ≡ Some n → n ≤ most
    go true f e = let l = leb-true x most ((and-eq-true_iff t (leb x most)).0 f).1 in let g : x ≡ n = cc in omega arith
    go false f e = absurd (let z : ◌≡◌ {A = ℕ} 0 1 = cc in omega arith)

pub read_fits : (base most v n : ℕ) (w : List ℕ) → 0 < base → v ≤ most → read_on base most v w ≡ Some n → n ≤ most
read_fits base most v n w B h e = at_most_tells most (all_digits base w) (v * base ^ length w + numeral_value base w) n (rw (read_is base most v w B h) at e)
