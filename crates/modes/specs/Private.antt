-- What the private functions of this crate compute, by their own cases. This is no part of the promise: the contracts of the public functions cite Sets, Numbers
-- and Events, and computing over all sets shows that these agree with them.
use Rattle.std.specs.Prelude.{Bool, true, false, ℕ, ◌+◌, ◌*◌, ◌-◌}
use Rattle.modes.specs.declared.Lateral.{Lateral}
use Rattle.modes.specs.declared.Vertical.{Vertical}
use Rattle.modes.specs.declared.ArmedLateral.{ArmedLateral}
use Rattle.modes.specs.declared.Modes.{Modes}
use Rattle.modes.specs.Every.{armed_number, flag_number}
use Rattle.modes.specs.Numbers.{vertical_number}

-- ---- single modes

abbrev pub is_nav : Lateral → Bool
is_nav Lateral.Roll = false
is_nav Lateral.Hdg = false
is_nav Lateral.Nav = true
is_nav Lateral.Lappr = false
is_nav Lateral.Lga = false

abbrev pub is_lappr : Lateral → Bool
is_lappr Lateral.Roll = false
is_lappr Lateral.Hdg = false
is_lappr Lateral.Nav = false
is_lappr Lateral.Lappr = true
is_lappr Lateral.Lga = false

-- ---- a set's place in the code's table

-- the engaged lateral mode's place in the order of the laws
abbrev pub lateral_place : Lateral → ℕ
lateral_place Lateral.Roll = 0
lateral_place Lateral.Hdg = 1
lateral_place Lateral.Nav = 2
lateral_place Lateral.Lappr = 3
lateral_place Lateral.Lga = 4

abbrev pub vertical_place : Vertical → ℕ
vertical_place v = vertical_number v - 1

abbrev pub place_of : Modes → ℕ
place_of m = ((lateral_place m.lateral * 3 + armed_number m.armed) * 8 + vertical_place m.vertical) * 2 + flag_number m.vappr_armed

-- ---- the parts of the armed sum and of the lamps, which the code joins by their bits

abbrev pub altsel_number : Vertical → ℕ
altsel_number Vertical.Pitch = 4
altsel_number Vertical.Vs = 4
altsel_number Vertical.Flc = 4
altsel_number Vertical.Alt = 0
altsel_number Vertical.AltselCapture = 0
altsel_number Vertical.AltselTrack = 0
altsel_number Vertical.Vappr = 0
altsel_number Vertical.Vga = 4

abbrev pub lateral_lamp : Lateral → ℕ
lateral_lamp Lateral.Roll = 0
lateral_lamp Lateral.Hdg = 1
lateral_lamp Lateral.Nav = 2
lateral_lamp Lateral.Lappr = 4
lateral_lamp Lateral.Lga = 0

abbrev pub armed_lamp : ArmedLateral → ℕ
armed_lamp ArmedLateral.Neither = 0
armed_lamp ArmedLateral.Nav = 2
armed_lamp ArmedLateral.Lappr = 4

abbrev pub vertical_lamp : Vertical → ℕ
vertical_lamp Vertical.Pitch = 0
vertical_lamp Vertical.Vs = 8
vertical_lamp Vertical.Flc = 16
vertical_lamp Vertical.Alt = 32
vertical_lamp Vertical.AltselCapture = 0
vertical_lamp Vertical.AltselTrack = 0
vertical_lamp Vertical.Vappr = 0
vertical_lamp Vertical.Vga = 0
