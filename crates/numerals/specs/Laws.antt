-- What a reader of specs/Values.antt may rely on: `value_laws` of proofs/Laws.antt proves it.
use Rattle.std.specs.Prelude.{◌≡◌, ℕ, ◌+◌, ◌-◌, ◌*◌, ◌^◌, ◌≤◌, Bool, T, List, ◌++◌, length, ℤ, Float, Some}
use Rattle.std.specs.Float.{nan, inf, fin, binary64}
use Rattle.std.specs.Float.Ieee.{up, down, fits}
use Rattle.numerals.specs.Digits.{numeral_value}
use Rattle.numerals.specs.Values.{before, behind, decimal_as}

-- how far two numbers are apart
abbrev pub apart : ℕ → ℕ → ℕ
apart a b = (a - b) + (b - a)

-- The float x is finite, and no float is nearer in size to n / p. The size of `fin s m e` is m * up e / down e; both distances are over one denominator.
abbrev pub IsNearestFloat : Float → ℕ → ℕ → Type 0
IsNearestFloat nan n p = ⊥
IsNearestFloat (inf s) n p = ⊥
IsNearestFloat (fin s m e) n p =
    (t : Bool) (k : ℕ) (d : ℤ) → T (fits binary64 (fin t k d)) → apart (m * up e * p) (n * down e) * down d ≤ apart (k * up d * p) (n * down d) * down e

pub record ValueLaws : Type 0 where
  -- a decimal's float is finite, and of all floats none is nearer to the number of all digits over 10 for each digit behind the point
  pub decimal_nearest : (s : Bool) (w : List ℕ) (x : Float) → decimal_as s w ≡ Some x →
      IsNearestFloat x (numeral_value 10 (before w ++ behind w)) (10 ^ length (behind w))
