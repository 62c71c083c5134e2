-- What private functions of this crate compute. This is no part of the promise: the contracts of the public functions cite the other files.
use Rattle.std.specs.Prelude.{Bool, cond}
use Rattle.sides.specs.declared.Side.{Side}
use Rattle.sides.specs.Sides.{at, with_at}
use Rattle.channels.specs.declared.Channel.{Channel}
use Rattle.channels.specs.declared.Inputs.{Inputs}
use Rattle.bench.specs.declared.Bench.{Bench}
use Rattle.bench.specs.Acting.{acts, inputs}

-- a side's rule, made on side s if that acts
abbrev pub made_on : (Inputs → Channel → Channel) → Bool → Side → Bench → Bench
made_on rule flag s b = record b { sides = with_at s (cond (acts b s) (rule (inputs flag b s) (at s b.sides)) (at s b.sides)) b.sides }
