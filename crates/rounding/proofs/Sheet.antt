-- The whole values of specs/Sheet.antt, each by computing it. Assumes nothing.
use mathlib.Core.Path.{refl}
use lib.Ieee.{of_bits}
use Rattle.rounding.specs.Whole.{whole_of}
use Rattle.rounding.specs.Sheet.{SheetWhole, Edges}

pub sheet_whole : SheetWhole
unfolding whole_of of_bits
sheet_whole = record {
  tie_12 = refl;
  tie_13 = refl;
  minus_half = refl;
  heading_in = refl;
  heading_out = refl;
  altitude_in = refl;
  altitude_out = refl;
}

pub edges : Edges
unfolding whole_of of_bits
edges = record {
  smallest = refl;
  minus_zero = refl;
  top = refl;
  above_top = refl;
  bottom = refl;
  bottom_tie = refl;
  below_bottom = refl;
  largest = refl;
  infinite = refl;
  minus_infinite = refl;
  not_a_number = refl;
}
