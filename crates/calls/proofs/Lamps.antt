-- Lamps are worth 383 at most: the mode lamps 63, AP 64 and PF 256. Assumes nothing.
use mathlib.Core.Bool.{Bool, true, false, cond}
use Prim.Native.Nat.{ℕ, ◌≤◌}
use native.Mathlib.Omega.{arith}
use lib.Dec.{eqb, leb, leb→le}
use Rattle.modes.specs.declared.ModeSet.{ModeSet}
use Rattle.modes.proofs.Every.{at_modes}
use Rattle.modes.specs.Sets.{engaged, armed, cleared}
use Rattle.modes.specs.Numbers.{mode_lamps}
use Rattle.calls.specs.Displays.{pf_lamp}

pub mode_lamps_le : (s : ModeSet) → mode_lamps s ≤ 63
unfolding mode_lamps cleared armed engaged
mode_lamps_le ModeSet.Off = omega arith
mode_lamps_le (ModeSet.On m) = leb→le (mode_lamps (ModeSet.On m)) 63 (at_modes (λ m. leb (mode_lamps (ModeSet.On m)) 63) tt m)

pub pf_lamp_le : (pf : ℕ) → pf_lamp pf ≤ 256
pf_lamp_le pf = go (eqb pf 0)
  where
    go : (t : Bool) → cond t 128 256 ≤ 256
    go true = omega arith
    go false = omega arith
