-- Independent operation on a sound bench: what ends it has nothing to end. Assumes nothing.
use mathlib.Core.Path.{◌≡◌, refl, sym}
use mathlib.Core.Bool.{Bool, true, false, ◌&&◌}
use Rattle.modes.specs.Sets.{implies}
use Rattle.bench.specs.declared.Bench.{Bench}
use Rattle.bench.specs.Independent.{both_approach, independent_sound, with_operation, ended}
use Rattle.bench.specs.Sound.{sound}
use Rattle.bench.proofs.SoundParts.{independent_part}

-- put to what it is already, it leaves the bench as it is
pub same_operation : (b : Bench) (t : Bool) → b.shared.independent ≡ t → with_operation t b ≡ b
same_operation b t e = λ i. with_operation (sym e i) b

-- without the pairs it is off
pub sound_off : (b : Bench) → sound b ≡ true → both_approach b ≡ false → b.shared.independent ≡ false
unfolding independent_sound
sound_off b h e = without b.shared.independent (rw e at (independent_part b h))
  where
    without : (t : Bool) → implies t false ≡ true → t ≡ false
    without true k = cc
    without false k = refl

pub sound_stays : (b : Bench) → sound b ≡ true → ended b ≡ b
unfolding ended independent_sound
sound_stays b h = same_operation b (b.shared.independent && both_approach b) (sym (kept b.shared.independent (both_approach b) (independent_part b h)))
  where
    kept : (t u : Bool) → implies t u ≡ true → (t && u) ≡ t
    kept true u k = k
    kept false u k = refl

-- and what it leaves is sound in independent operation, whatever it was given
pub ended_holds : (b : Bench) → independent_sound (ended b) ≡ true
unfolding ended independent_sound both_approach
ended_holds b = implied b.shared.independent (both_approach b)
  where
    implied : (t u : Bool) → implies (t && u) u ≡ true
    implied true true = refl
    implied true false = refl
    implied false u = refl
