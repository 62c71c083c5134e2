-- What the theorems on sound benches say. Document 01, 'Who can be turned away' and 'Display'.
use Rattle.std.specs.Prelude.{◌≡◌, ◌↔◌, true, ◌≤◌, ℤ}
use Rattle.modes.specs.declared.ModeSet.{ModeSet}
use Rattle.modes.specs.Numbers.{lateral_law, vertical_law}
use Rattle.bench.specs.declared.Bench.{Bench}
use Rattle.bench.specs.declared.call.Call.{Call}
use Rattle.bench.specs.Holds.{started}
use Rattle.bench.specs.Sound.{sound}
use Rattle.rules.specs.Calls.{next}

-- the bench of every start is sound, also that of a refused one, and of a sound bench every call, accepted or refused, makes a sound one
pub record KeepsSound : Type 0 where
  pub start : (speed : ℤ) → sound (started speed).bench ≡ true
  pub call : (b : Bench) (c : Call) → sound b ≡ true → sound (next b c) ≡ true

-- a set's laws are within 0 to 5 and 0 to 8, and 0 exactly if it is Off
pub record LawsInRange (s : ModeSet) : Type 0 where
  pub lateral : lateral_law s ≤ 5
  pub vertical : vertical_law s ≤ 8
  pub lateral_off : (lateral_law s ≡ 0) ↔ (s ≡ ModeSet.Off)
  pub vertical_off : (vertical_law s ≡ 0) ↔ (s ≡ ModeSet.Off)
