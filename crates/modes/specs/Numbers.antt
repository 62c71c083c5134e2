-- The numbers that a display shows of a set. Document 01, 'Display'.
use Rattle.std.specs.Prelude.{Bool, not, cond, ℕ, ◌+◌, eqb, Option, Some, None}
use Rattle.modes.specs.declared.Lateral.{Lateral}
use Rattle.modes.specs.declared.ArmedLateral.{ArmedLateral}
use Rattle.modes.specs.declared.Vertical.{Vertical}
use Rattle.modes.specs.declared.ModeSet.{ModeSet}
use Rattle.modes.specs.Sets.{NAV, LAPPR, ALTSEL, VAPPR, HDG, VS, FLC, ALT, engaged, armed, cleared}

abbrev pub lateral_number : Lateral → ℕ
lateral_number Lateral.Roll = 1
lateral_number Lateral.Hdg = 2
lateral_number Lateral.Nav = 3
lateral_number Lateral.Lappr = 4
lateral_number Lateral.Lga = 5

abbrev pub vertical_number : Vertical → ℕ
vertical_number Vertical.Pitch = 1
vertical_number Vertical.Vs = 2
vertical_number Vertical.Flc = 3
vertical_number Vertical.Alt = 4
vertical_number Vertical.AltselCapture = 5
vertical_number Vertical.AltselTrack = 6
vertical_number Vertical.Vappr = 7
vertical_number Vertical.Vga = 8

-- the mode of a number, if one has it
abbrev pub lateral_of : ℕ → Option Lateral
lateral_of n =
    cond (eqb n 1) (Some Lateral.Roll)
    (cond (eqb n 2) (Some Lateral.Hdg)
    (cond (eqb n 3) (Some Lateral.Nav)
    (cond (eqb n 4) (Some Lateral.Lappr)
    (cond (eqb n 5) (Some Lateral.Lga)
    None))))

abbrev pub armed_of : ℕ → Option ArmedLateral
armed_of n =
    cond (eqb n 0) (Some ArmedLateral.Neither)
    (cond (eqb n 1) (Some ArmedLateral.Nav)
    (cond (eqb n 2) (Some ArmedLateral.Lappr)
    None))

abbrev pub vertical_of : ℕ → Option Vertical
vertical_of n =
    cond (eqb n 1) (Some Vertical.Pitch)
    (cond (eqb n 2) (Some Vertical.Vs)
    (cond (eqb n 3) (Some Vertical.Flc)
    (cond (eqb n 4) (Some Vertical.Alt)
    (cond (eqb n 5) (Some Vertical.AltselCapture)
    (cond (eqb n 6) (Some Vertical.AltselTrack)
    (cond (eqb n 7) (Some Vertical.Vappr)
    (cond (eqb n 8) (Some Vertical.Vga)
    None)))))))

-- the lateral law: that of the engaged lateral mode, and 0 where the set is Off
abbrev pub lateral_law : ModeSet → ℕ
lateral_law ModeSet.Off = 0
lateral_law (ModeSet.On m) = lateral_number m.lateral

-- the vertical law: that of the engaged vertical mode, and 0 where the set is Off
abbrev pub vertical_law : ModeSet → ℕ
vertical_law ModeSet.Off = 0
vertical_law (ModeSet.On m) = vertical_number m.vertical

-- n if t holds, as a part of a sum
abbrev pub worth : Bool → ℕ → ℕ
worth t n = cond t n 0

-- the armed sum
unfoldable pub armed_sum : ModeSet → ℕ
armed_sum ModeSet.Off = 0
armed_sum (ModeSet.On m) = worth (armed NAV m) 1 + worth (armed LAPPR m) 2 + worth (armed ALTSEL m) 4 + worth (armed VAPPR m) 8

-- the mode lamps: those of NAV and APPR show a mode that is armed or engaged, the others only an engaged one
unfoldable pub mode_lamps : ModeSet → ℕ
mode_lamps ModeSet.Off = 0
mode_lamps (ModeSet.On m) =
    worth (engaged HDG m) 1 + worth (not (cleared NAV m)) 2 + worth (not (cleared LAPPR m)) 4 + worth (engaged VS m) 8
    + worth (engaged FLC m) 16 + worth (engaged ALT m) 32
