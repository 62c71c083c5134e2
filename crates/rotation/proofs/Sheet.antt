-- The sums of specs/Sheet.antt, each by computing it. Assumes nothing.
use mathlib.Core.Path.{refl}
use Rattle.rotation.specs.Sheet.{SheetKnobs}

pub sheet_knobs : SheetKnobs
sheet_knobs = record { up = refl; down = refl; half = refl; half_back = refl; heading = refl; vertical_speed = refl }
