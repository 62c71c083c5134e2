-- The way back from set codes, which are places in the row of coherent sets. Document 02, 2026-02.
use Rattle.std.specs.Prelude.{ℕ, Option}
use Rattle.std.specs.List.{slice_get}
use Rattle.modes.specs.declared.ModeSet.{ModeSet}
use Rattle.modes.specs.Row.{coded_sets}

-- the set of a code, and none past the list's end
unfoldable pub set_of : ℕ → Option ModeSet
set_of n = slice_get coded_sets n
