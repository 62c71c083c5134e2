-- What a side shows. Document 01, 'Display'.
use Rattle.std.specs.Prelude.{false, cond, ℕ, ◌+◌, eqb}
use Rattle.modes.specs.Numbers.{lateral_law, vertical_law, armed_sum, mode_lamps, worth}
use Rattle.sides.specs.declared.Side.{Side}
use Rattle.sides.specs.Sides.{at}
use Rattle.channels.specs.References.{zero_references}
use Rattle.bench.specs.declared.Bench.{Bench}
use Rattle.calls.specs.declared.reply.Display.{Display}

-- the lamp of PF: 128 while left has it, 256 while right has it
abbrev pub pf_lamp : ℕ → ℕ
pf_lamp pf = cond (eqb pf 0) 128 256

-- the mode lamps of a side, then AP 64 and the lamp of PF
unfoldable pub lamps : Bench → Side → ℕ
lamps b s = mode_lamps (at s b.sides).set + worth b.shared.ap 64 + pf_lamp b.shared.pf

unfoldable pub shown : Bench → Side → Display
shown b s = record {
  fd = (at s b.sides).fd;
  lateral = lateral_law (at s b.sides).set;
  vertical = vertical_law (at s b.sides).set;
  armed = armed_sum (at s b.sides).set;
  references = (at s b.sides).references;
  lamps = lamps b s;
}

-- what a refused display shows: every number is 0
abbrev pub blank : Display
blank = record {
  fd = false;
  lateral = 0;
  vertical = 0;
  armed = 0;
  references = zero_references;
  lamps = 0;
}
