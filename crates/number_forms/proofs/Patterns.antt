-- For `from_pattern`: a pattern above that of infinity, the sign aside, is a NaN's, and no other is. Assumes nothing.
use Rattle.std.proofs.Common.{◌≡◌, ℕ, ◌%◌, ◌<◌, ◌≤◌, true, not, T, refl, sym, ◌∙◌, lt-ltb, le-ltb}
use Rattle.std.proofs.lemmas.Bool.{false≢true}
use lib.Ieee.{Float, nan, inf, fin, binary64, of_bits, nan_bits, is_nan}
use lib.Ieee.Bits.{nan_bits_is, nan_bits_above}

is_nan_lem : (x : Float) → is_nan x ≡ true → nan ≡ x
unfolding is_nan
is_nan_lem nan h = refl
is_nan_lem (inf s) h = absurd (false≢true h)
is_nan_lem (fin s m e) h = absurd (false≢true h)

-- what `f64::NAN` is, by its pattern
no_number : of_bits binary64 0x7ff8_0000_0000_0000 ≡ nan
unfolding of_bits
no_number = refl

pub pattern_above : (b : ℕ) → 0x7ff0_0000_0000_0000 < b % 0x8000_0000_0000_0000 → of_bits binary64 0x7ff8_0000_0000_0000 ≡ of_bits binary64 b
pattern_above b h = no_number ∙ is_nan_lem (of_bits binary64 b) (sym (nan_bits_is binary64 b) ∙ nan_bits_above binary64 b ∙ lt-ltb _ _ h)

pub pattern_not_above : (b : ℕ) → b % 0x8000_0000_0000_0000 ≤ 0x7ff0_0000_0000_0000 → T (not (nan_bits binary64 b))
pattern_not_above b h = rw (nan_bits_above binary64 b, le-ltb _ _ h) tt
