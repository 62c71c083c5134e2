-- Decimals: the digits before the point and behind it, read one after the other, are those of one number. Assumes nothing.
use Rattle.std.proofs.Common.{◌≡◌, ℕ, suc, ◌+◌, ◌-◌, ◌*◌, ◌^◌, ◌<◌, ◌≤◌, Bool, true, false, cond, ◌&&◌, eqb, ltb, leb, position, unwrap_or, List, [], ◌∷◌, ◌++◌, length, take, drop, sym, refl, ap, ◌∙◌, append-nil, lt_of_not-le, le-mul_of_pos_right, add-one, arith, length-append, drop_of_length-le, take_all, pow-add, le-ltb, lt-ltb, le-leb, leb-false, leb-true, Option, Some, None}
use mathlib.Core.Bool.{and-false}
use native.Mathlib.Decide.{dec_le}
use borrow.Author.Tests.{lt-leb}
use lib.Dec.{leb-suc-suc}
use lib.Ieee.{Float, binary64, neg, round}
use Rattle.words.specs.Words.{place_of, up_to}
use Rattle.words.proofs.Runs.{first_or_all, to_the_end}
use Rattle.std.specs.Option.{option_map}
use Rattle.numerals.specs.Digits.{all_digits, is_numeral, numeral_value}
use Rattle.numerals.specs.Values.{before, behind, is_decimal, decimal_as}
use Rattle.numerals.specs.Private.{whole_decimal, fraction_of, pointed_of}
use Rattle.numerals.proofs.Reading.{then_picked, map_picked, read_is}
use Rattle.numerals.proofs.Numerals.{number_is}
use Rattle.numerals.proofs.Division.{power_above, neg_round}

-- ---- two runs of digits, one behind the other

joined : (base : ℕ) (w v : List ℕ) → numeral_value base (w ++ v) ≡ numeral_value base w * base ^ length v + numeral_value base v
unfolding numeral_value
joined base [] v = omega arith
joined base (b ∷ w) v = rw (joined base w v, length-append w v, pow-add base (length w) (length v)) (omega arith)

-- ---- what is read

-- the largest number of 15 digits
abbrev top : ℕ
top = 999999999999999

-- the float nearest to x / 10 ^ k
abbrev float : ℕ → ℕ → Option Float
float x k = Some (round binary64 false x (10 ^ k))

-- one to 15 digits w behind a point, where x is the number of all digits
abbrev behind_point : List ℕ → ℕ → Bool
behind_point w x = is_numeral 10 w && (leb (length w) 15 && leb x top)

fraction_is : (n : ℕ) (w : List ℕ) → n ≤ top →
    fraction_of n w ≡ cond (behind_point w (n * 10 ^ length w + numeral_value 10 w)) (float (n * 10 ^ length w + numeral_value 10 w) (length w)) None
unfolding fraction_of is_numeral
fraction_is n [] h = refl
fraction_is n (b ∷ w) h =
    let k = suc (length w) in
    let x = n * 10 ^ k + numeral_value 10 (b ∷ w) in
    rw (le-leb 1 k (omega arith)) (elim (dec_le k 15) [
      | yes l ↦ rw (le-leb k 15 l, read_is 10 top n (b ∷ w) (omega arith) h) (map_picked (all_digits 10 (b ∷ w) && leb x top) x (λ y. round binary64 false y (10 ^ k)))
      | no l ↦ rw (lt-leb k 15 (lt_of_not-le l), and-false (all_digits 10 (b ∷ w)))
    ])

-- too large a number before the point makes too large a number of all digits
pointed_is : (w v : List ℕ) →
    pointed_of w v ≡ cond (is_numeral 10 w && behind_point v (numeral_value 10 (w ++ v))) (float (numeral_value 10 (w ++ v)) (length v)) None
pointed_is w v =
    rw (number_is top w, then_picked (is_numeral 10 w && leb n top) n (λ x. fraction_of x v), joined 10 w v) (go (is_numeral 10 w) (leb n top) refl)
  where
    n : ℕ
    n = numeral_value 10 w

    all : ℕ
    all = n * 10 ^ length v + numeral_value 10 v

    go : (t u : Bool) → leb n top ≡ u → cond (t && u) (fraction_of n v) None ≡ cond (t && behind_point v all) (float all (length v)) None
    go false u e = refl
    go true true e = fraction_is n v (leb-true n top e)
    go true false e =
        let l : n ≤ n * 10 ^ length v = le-mul_of_pos_right n (power_above (length v)) in
        let m = leb-false n top e in
        rw (lt-leb all top (omega arith), and-false (leb (length v) 15), and-false (is_numeral 10 v))

-- ---- the whole decimal

limit : (x : ℕ) → leb x top ≡ ltb x (10 ^ 15)
limit x = sym (leb-suc-suc x top)

-- where `position` finds no point, and where it finds one at p
pub no_point_is : (w : List ℕ) → None ≡ position (λ b. eqb b 46) w → whole_decimal w ≡ decimal_as false w
unfolding decimal_as up_to
no_point_is w h =
    let n = length w in
    let e : n ≡ place_of 46 w = ap (λ (o : Option ℕ). unwrap_or o n) h ∙ first_or_all (λ b. eqb b 46) w in
    rw (number_is top w, map_picked (is_numeral 10 w && leb (numeral_value 10 w) top) (numeral_value 10 w) (λ x. round binary64 false x (10 ^ 0)))
    (rw (← e, take_all n w (omega arith), drop_of_length-le w {i = suc n} (omega arith), append-nil w, le-ltb n n (omega arith), limit (numeral_value 10 w)))

pub point_is : (w : List ℕ) (p : ℕ) → Some p ≡ position (λ b. eqb b 46) w → p < length w →
    pointed_of (take p w) (take (length w - (p + 1)) (drop (p + 1) w)) ≡ decimal_as false w
unfolding decimal_as up_to
point_is w p h l =
    let e : p ≡ place_of 46 w = ap (λ (o : Option ℕ). unwrap_or o (length w)) h ∙ first_or_all (λ b. eqb b 46) w in
    rw (to_the_end (p + 1) w, add-one p, pointed_is (take p w) (drop (suc p) w), limit (numeral_value 10 (take p w ++ drop (suc p) w)))
    (rw (← e, lt-ltb p (length w) l))

-- ---- the sign

pub negated_is : (w : List ℕ) → option_map neg (decimal_as false w) ≡ decimal_as true w
unfolding decimal_as
negated_is w = go (is_decimal w) (numeral_value 10 (before w ++ behind w)) (10 ^ length (behind w))
  where
    go : (t : Bool) (n p : ℕ) → option_map neg (cond t (Some (round binary64 false n p)) None) ≡ cond t (Some (round binary64 true n p)) None
    go true n p = ap Some (neg_round binary64 n p)
    go false n p = refl

pub none_signed : (s : Bool) (w : List ℕ) → None ≡ decimal_as false w → None ≡ decimal_as s w
none_signed false w e = e
none_signed true w e = ap (option_map neg) e ∙ negated_is w
