-- What an accepted display leaves. Assumes nothing.
use mathlib.Core.Path.{◌≡◌, refl, sym}
use mathlib.Core.Bool.{true}
use Prim.Native.Nat.{ℕ}
use Rattle.std.specs.Prelude.{Result, Ok, Err}
use Rattle.refusals.specs.declared.Refusal.{Refusal}
use Rattle.refusals.specs.Refusals.{result_map}
use Rattle.sides.specs.declared.Side.{Side}
use Rattle.sides.specs.Sides.{side_of}
use Rattle.bench.specs.declared.Bench.{Bench}
use Rattle.bench.specs.declared.call.Call.{Call}
use Rattle.bench.specs.Sound.{sound}
use Rattle.bench.proofs.Independent.{sound_stays}
use Rattle.rules.specs.Calls.{show, asked, left_by}

-- a display leaves a sound bench, in which there is nothing to end
pub display_stays : (b : Bench) (s : ℕ) → sound b ≡ true → b ≡ left_by b (asked (Call.Display s))
display_stays b s h = go (side_of s)
  where
    go : (r : Result Side Refusal) → b ≡ left_by b (result_map show r)
    go (Ok x) = sym (sound_stays b h)
    go (Err refusal) = refl
