-- The whole values of the bench sheet (document 01, 'Bench sheet', cases 1 to 3) as one claim, and those at the edges as another.
-- Each float is read from its 64 bits; the comment gives it in decimal.
use Rattle.std.specs.Prelude.{◌≡◌, pos, negsuc, Ok, Err}
use Rattle.std.specs.Float.{binary64}
use Rattle.std.specs.Float.Ieee.{of_bits}
use Rattle.rounding.specs.declared.NoWhole.TheVariants.{NotFinite, Beyond}
use Rattle.rounding.specs.Whole.{whole_of}

pub record SheetWhole : Type 0 where
  -- case 1: 12.5, 13.5, -0.5
  pub tie_12 : whole_of (of_bits binary64 0x4029_0000_0000_0000) ≡ Ok (pos 12)
  pub tie_13 : whole_of (of_bits binary64 0x402b_0000_0000_0000) ≡ Ok (pos 14)
  pub minus_half : whole_of (of_bits binary64 0xbfe0_0000_0000_0000) ≡ Ok (pos 0)
  -- case 2: 359.25, 359.5
  pub heading_in : whole_of (of_bits binary64 0x4076_7400_0000_0000) ≡ Ok (pos 359)
  pub heading_out : whole_of (of_bits binary64 0x4076_7800_0000_0000) ≡ Ok (pos 360)
  -- case 3: 56000.5, 56001
  pub altitude_in : whole_of (of_bits binary64 0x40eb_5810_0000_0000) ≡ Ok (pos 56000)
  pub altitude_out : whole_of (of_bits binary64 0x40eb_5820_0000_0000) ≡ Ok (pos 56001)

pub record Edges : Type 0 where
  -- 5e-324, the smallest positive double, and -0.0
  pub smallest : whole_of (of_bits binary64 0x0000_0000_0000_0001) ≡ Ok (pos 0)
  pub minus_zero : whole_of (of_bits binary64 0x8000_0000_0000_0000) ≡ Ok (pos 0)
  -- 2147483647.0, then 2147483647.5, which ties to 2147483648
  pub top : whole_of (of_bits binary64 0x41df_ffff_ffc0_0000) ≡ Ok (pos 2147483647)
  pub above_top : whole_of (of_bits binary64 0x41df_ffff_ffe0_0000) ≡ Err Beyond
  -- -2147483648.0, then -2147483648.5, which ties to -2147483648, then -2147483649.0
  pub bottom : whole_of (of_bits binary64 0xc1e0_0000_0000_0000) ≡ Ok (negsuc 2147483647)
  pub bottom_tie : whole_of (of_bits binary64 0xc1e0_0000_0010_0000) ≡ Ok (negsuc 2147483647)
  pub below_bottom : whole_of (of_bits binary64 0xc1e0_0000_0020_0000) ≡ Err Beyond
  -- 1.7976931348623157e308, the largest finite double
  pub largest : whole_of (of_bits binary64 0x7fef_ffff_ffff_ffff) ≡ Err Beyond
  -- the infinities, and not a number
  pub infinite : whole_of (of_bits binary64 0x7ff0_0000_0000_0000) ≡ Err NotFinite
  pub minus_infinite : whole_of (of_bits binary64 0xfff0_0000_0000_0000) ≡ Err NotFinite
  pub not_a_number : whole_of (of_bits binary64 0x7ff8_0000_0000_0000) ≡ Err NotFinite
