-- Independent operation: both sides fly an approach, and both act. Document 02, 2026-03; `acts` of Acting says what it means for a call.
use Rattle.std.specs.Prelude.{Bool, true, ◌&&◌, cond}
use Rattle.modes.specs.Sets.{implies, approach_engaged}
use Rattle.bench.specs.declared.Bench.{Bench}

-- both sides have LAPPR and VAPPR engaged
unfoldable pub both_approach : Bench → Bool
both_approach b = approach_engaged b.sides.left.set && approach_engaged b.sides.right.set

-- a sound bench has it on only where both sides have both modes
unfoldable pub independent_sound : Bench → Bool
independent_sound b = implies b.shared.independent (both_approach b)

-- the bench with it on or off, and all else as it was
abbrev pub with_operation : Bool → Bench → Bench
with_operation x b = record b { shared = record b.shared { independent = x } }

-- event 20: it is on where both sides have both modes; elsewhere the bench stays as it is
unfoldable pub begun : Bench → Bench
begun b = cond (both_approach b) (with_operation true b) b

-- after an accepted call it is on only where it was and both sides still have both modes
unfoldable pub ended : Bench → Bench
ended b = with_operation (b.shared.independent && both_approach b) b
