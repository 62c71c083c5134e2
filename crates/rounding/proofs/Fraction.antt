-- `closest` of Rattle.std.specs.Float.Ieee.Nearest is the one natural number that `IsNearest` describes: by how the division's remainder lies to a half,
-- and as two such numbers cannot differ. Assumes nothing.
use mathlib.Core.Path.{◌≡◌, refl, subst}
use mathlib.Core.Bool.{not}
use Prim.Native.Nat.{ℕ, zero, suc, ◌+◌, ◌*◌, ◌/◌, ◌%◌, ◌≤◌, ◌<◌, compare, Ordering}
use native.Mathlib.Nat.{mod-lt, mul-le-mul_right, le_of_mul-le-mul_right, div-add-mod', suc-mul}
use native.Mathlib.Omega.{arith}
use lib.Arith.{lt_of_le-ne}
use lib.Dec.{T, is_le, compare_is_eq, eqb, leb→le, nleb→lt, eqb→eq, eqb_refl}
use lib.Ieee.{nearest}
use lib.Ieee.Nearest.{closest}
use Rattle.rounding.specs.Fraction.{IsNearest}

-- a property of `nearest`, by the three ways in which a and b compare
pub by_compare : (P : ℕ → Type 0) (q a b : ℕ) → (a < b → P q) → (a ≡ b → P (q + q % 2)) → (b < a → P (suc q)) → P (nearest q (compare a b))
by_compare P q a b less same more =
    go (compare a b) (leb→le a b) (nleb→lt a b) (eqb→eq a b) (λ (e : a ≡ b). subst (λ (x : ℕ). T (eqb a x)) e (eqb_refl a))
  where
    go : (o : Ordering) → (T (is_le o) → a ≤ b) → (T (not (is_le o)) → b < a) → (T (compare_is_eq o) → a ≡ b) → (a ≡ b → T (compare_is_eq o)) → P (nearest q o)
    go Ordering.lt h k e n = less (lt_of_le-ne (h tt) n)
    go Ordering.eq h k e n = same (e tt)
    go Ordering.gt h k e n = more (k tt)

-- a is w * b + r
module _ (w r a b : ℕ) (B : 0 < b) (d : w * b + r ≡ a) (l : r < b) where
  at_less : r * 2 < b → IsNearest w a b
  at_less h = record { not_above = omega arith; not_below = omega arith; even_above = λ e. absurd (omega arith); even_below = λ e. absurd (omega arith) }

  at_more : b < r * 2 → IsNearest (suc w) a b
  at_more h =
      let s = suc-mul w b in
      record { not_above = omega arith; not_below = omega arith; even_above = λ e. absurd (omega arith); even_below = λ e. absurd (omega arith) }

  at_same : r * 2 ≡ b → IsNearest (w + w % 2) a b
  at_same h = go (w % 2) refl
    where
      go : (k : ℕ) → w % 2 ≡ k → IsNearest (w + k) a b
      go zero e = record { not_above = omega arith; not_below = omega arith; even_above = λ f. omega arith; even_below = λ f. omega arith }
      go (suc zero) e =
          let s = suc-mul w b in
          record { not_above = omega arith; not_below = omega arith; even_above = λ f. omega arith; even_below = λ f. omega arith }
      go (suc (suc k)) e = absurd (omega arith)

pub closest_is : (a b : ℕ) → 0 < b → IsNearest (closest a b) a b
closest_is a b B =
    let d = div-add-mod' a b in
    let l = mod-lt a B in
    by_compare (λ (q : ℕ). IsNearest q a b) (a / b) (a % b * 2) b
    (at_less (a / b) (a % b) a b B d l) (at_same (a / b) (a % b) a b B d l) (at_more (a / b) (a % b) a b B d l)

apart : (p q a b : ℕ) → 0 < b → IsNearest p a b → IsNearest q a b → p < q → ⊥
apart p q a b B h k l =
    let s = suc-mul p b in
    let x : suc p * b ≤ q * b = mul-le-mul_right b l in
    let y : q * b ≤ suc p * b = let u = h.not_below in let v = k.not_above in omega arith in
    let z : q ≤ suc p = le_of_mul-le-mul_right y B in
    let u = h.even_below (let m = h.not_below in let n = k.not_above in omega arith) in
    let v = k.even_above (let m = h.not_below in let n = k.not_above in omega arith) in
    omega arith

pub only_one : (p q a b : ℕ) → 0 < b → IsNearest p a b → IsNearest q a b → p ≡ q
only_one p q a b B h k = go (apart p q a b B h k) (apart q p a b B k h)
  where
    go : (p < q → ⊥) → (q < p → ⊥) → p ≡ q
    go x y = omega arith
