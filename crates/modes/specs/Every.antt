-- The values that sets are made of, in the order of their numbers, and tests over the 240 representable On sets.
use Rattle.std.specs.Prelude.{Bool, true, false, ◌&&◌, List, [], ◌∷◌, ℕ, eqb}
use Rattle.modes.specs.declared.Lateral.{Lateral}
use Rattle.modes.specs.declared.Vertical.{Vertical}
use Rattle.modes.specs.declared.ArmedLateral.{ArmedLateral}
use Rattle.modes.specs.declared.Modes.{Modes}
use Rattle.modes.specs.declared.ModeSet.{ModeSet}
use Rattle.modes.specs.Finite.{every, total}
use Rattle.modes.specs.Numbers.{lateral_number, vertical_number, worth}

abbrev pub both_flags : List Bool
both_flags = false ∷ true ∷ []

abbrev pub every_lateral : List Lateral
every_lateral = Lateral.Roll ∷ Lateral.Hdg ∷ Lateral.Nav ∷ Lateral.Lappr ∷ Lateral.Lga ∷ []

abbrev pub every_armed : List ArmedLateral
every_armed = ArmedLateral.Neither ∷ ArmedLateral.Nav ∷ ArmedLateral.Lappr ∷ []

abbrev pub every_vertical : List Vertical
every_vertical =
    Vertical.Pitch ∷ Vertical.Vs ∷ Vertical.Flc ∷ Vertical.Alt ∷ Vertical.AltselCapture ∷ Vertical.AltselTrack ∷ Vertical.Vappr ∷ Vertical.Vga ∷ []

abbrev pub of_parts : Lateral → ArmedLateral → Vertical → Bool → Modes
of_parts l a v f = record { lateral = l; armed = a; vertical = v; vappr_armed = f }

abbrev pub every_modes : (Modes → Bool) → Bool
every_modes p = every (λ l. every (λ a. every (λ v. every (λ f. p (of_parts l a v f)) both_flags) every_vertical) every_armed) every_lateral

-- over the sets that may be Off
abbrev pub every_set : (ModeSet → Bool) → Bool
every_set p = p ModeSet.Off && every_modes (λ m. p (ModeSet.On m))

-- how many On sets pass a test
abbrev pub count_modes : (Modes → Bool) → ℕ
count_modes p =
    total (λ l. total (λ a. total (λ v. total (λ f. worth (p (of_parts l a v f)) 1) both_flags) every_vertical) every_armed) every_lateral

-- an armed lateral mode's part of the armed sum
abbrev pub armed_number : ArmedLateral → ℕ
armed_number ArmedLateral.Neither = 0
armed_number ArmedLateral.Nav = 1
armed_number ArmedLateral.Lappr = 2

abbrev pub flag_number : Bool → ℕ
flag_number f = worth f 1

abbrev pub same_flag : Bool → Bool → Bool
same_flag f g = eqb (flag_number f) (flag_number g)

-- equal in all four parts
abbrev pub same_modes : Modes → Modes → Bool
same_modes m n =
    eqb (lateral_number m.lateral) (lateral_number n.lateral) && (eqb (armed_number m.armed) (armed_number n.armed)
    && (eqb (vertical_number m.vertical) (vertical_number n.vertical) && same_flag m.vappr_armed n.vappr_armed))
