-- There are 108 coded sets, and a set is what its laws and its armed sum show: computed at once, over all sets. Assumes nothing.
use mathlib.Core.Path.{◌≡◌, refl, ap}
use Prim.Native.Nat.{ℕ}
use lib.Dec.{T}
use lib.ListN.{length}
use Rattle.modes.specs.declared.ModeSet.{ModeSet}
use Rattle.modes.specs.Sets.{engaged, armed, cleared, once, coherent}
use Rattle.modes.specs.Numbers.{lateral_law, vertical_law, armed_sum}
use Rattle.modes.specs.Row.{coded_sets, same_set}
use Rattle.modes.proofs.Every.{at_sets, same_modes_lem}
use Rattle.codes.specs.Poster.{lateral_in, armed_sum_in, vertical_in}
use Rattle.codes.specs.Private.{set_shown}

pub count : length coded_sets ≡ 108
unfolding coded_sets coherent once cleared armed engaged
count = refl

pub same_set_lem : (s t : ModeSet) → T (same_set s t) → s ≡ t
same_set_lem ModeSet.Off ModeSet.Off h = refl
same_set_lem ModeSet.Off (ModeSet.On n) h = absurd h
same_set_lem (ModeSet.On m) ModeSet.Off h = absurd h
same_set_lem (ModeSet.On m) (ModeSet.On n) h = ap ModeSet.On (same_modes_lem m n h)

-- the set that a number shows
abbrev pub set_in : ℕ → ModeSet
set_in n = set_shown (lateral_in n) (vertical_in n) (armed_sum_in n)

-- every set is the one that its laws and its armed sum show
pub by_laws : (s : ModeSet) → set_shown (lateral_law s) (vertical_law s) (armed_sum s) ≡ s
unfolding armed_sum armed engaged
by_laws s = same_set_lem _ s (at_sets (λ s. same_set (set_shown (lateral_law s) (vertical_law s) (armed_sum s)) s) tt s)
