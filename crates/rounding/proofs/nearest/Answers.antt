-- `rounding::nearest` meets its contract: a round drops one digit more (`proofs/Digits.antt`); at the end the two flags tell how the
-- remainder lies to a half, so that each arm rounds as `closest` does. Assumes nothing.
use Rattle.rounding.proofs.Digits.{dropped_more}
use Rattle.rounding.proofs.nearest.Goals as goal

pub loop-preserved : goal.loop-preserved
loop-preserved c = dropped_more c.loop.counter c.loop.invariant
