-- What the private functions of this crate compute, by their own cases. This is no part of the promise: the contracts of the public functions cite Codes and Numbers,
-- and computing over all sets and over all codes shows that these agree with them.
use Rattle.std.specs.Prelude.{cond, ℕ, ◌%◌, eqb, leb}
use Rattle.modes.specs.declared.ModeSet.{ModeSet}
use Rattle.codes.specs.Numbers.{modes_by}

-- from a code to its set, by two laws and an armed sum
abbrev pub set_shown : ℕ → ℕ → ℕ → ModeSet
set_shown lateral vertical armed = cond (eqb lateral 0) ModeSet.Off (ModeSet.On (modes_by lateral (armed % 4) vertical (leb 8 armed)))
