-- The clicks of a rotation are few enough to be the same number at 32 bits. Assumes nothing.
use mathlib.Core.Path.{◌≡◌}
use Prim.Native.Nat.{◌<◌}
use native.Mathlib.Omega.{arith}
use lib.IntN.{ℤ}
use lib.Signed.{mag}
use mir.Syntax.{w32}
use mir.Val.{to_z, of_z}
use Rattle.rotation.proofs.Signed.{same32}

pub same_clicks : (z : ℤ) → mag z < 128 → to_z w32 (of_z w32 z) ≡ z
same_clicks z h = same32 z (record { sfits = omega arith })
