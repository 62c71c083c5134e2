-- Modes by the numbers of their laws, and the armed lateral mode by its number. Document 01, 'Display'.
use Rattle.std.specs.Prelude.{Bool, cond, ℕ, eqb}
use Rattle.modes.specs.declared.Lateral.{Lateral}
use Rattle.modes.specs.declared.ArmedLateral.{ArmedLateral}
use Rattle.modes.specs.declared.Vertical.{Vertical}
use Rattle.modes.specs.declared.Modes.{Modes}

abbrev pub lateral_by : ℕ → Lateral
lateral_by n =
    cond (eqb n 1) Lateral.Roll (cond (eqb n 2) Lateral.Hdg (cond (eqb n 3) Lateral.Nav (cond (eqb n 4) Lateral.Lappr Lateral.Lga)))

-- 0 arms nothing, 1 NAV and any other number LAPPR
abbrev pub armed_by : ℕ → ArmedLateral
armed_by n = cond (eqb n 0) ArmedLateral.Neither (cond (eqb n 1) ArmedLateral.Nav ArmedLateral.Lappr)

abbrev pub vertical_by : ℕ → Vertical
vertical_by n =
    cond (eqb n 1) Vertical.Pitch
    (cond (eqb n 2) Vertical.Vs
    (cond (eqb n 3) Vertical.Flc
    (cond (eqb n 4) Vertical.Alt
    (cond (eqb n 5) Vertical.AltselCapture
    (cond (eqb n 6) Vertical.AltselTrack
    (cond (eqb n 7) Vertical.Vappr
    Vertical.Vga))))))

-- the modes of three such numbers, with VAPPR armed or not
abbrev pub modes_by : ℕ → ℕ → ℕ → Bool → Modes
modes_by lateral armed vertical vappr = record { lateral = lateral_by lateral; armed = armed_by armed; vertical = vertical_by vertical; vappr_armed = vappr }
