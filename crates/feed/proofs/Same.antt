-- The test of two numbers for being the same: what it tells. Assumes nothing.
use mathlib.Core.Path.{◌≡◌, refl, ap}
use mathlib.Core.Bool.{true, false≢true}
use lib.IntN.{ℤ, pos, negsuc}
use borrow.Author.Tests.{eqb-true, eq-eqb}
use Rattle.rounding.specs.Whole.{same}

pub same_true : (x y : ℤ) → same x y ≡ true → x ≡ y
same_true (pos x) (pos y) h = ap pos (eqb-true x y h)
same_true (pos x) (negsuc y) h = absurd (false≢true h)
same_true (negsuc x) (pos y) h = absurd (false≢true h)
same_true (negsuc x) (negsuc y) h = ap negsuc (eqb-true x y h)

pub same_self : (x : ℤ) → same x x ≡ true
same_self (pos x) = eq-eqb x x refl
same_self (negsuc x) = eq-eqb x x refl
