-- `SoundBench::turn` leaves a sound bench.
use Rattle.bench.specs.declared.call.Call.{Call}
use Rattle.soundness.proofs.Kept.{left_is_sound}
use Rattle.calls.proofs.sound.SoundBench.turn.Goals as goal

pub invariant_of-self : goal.invariant_of-self
invariant_of-self c = left_is_sound c.self.inside.bench _ (Call.Turn c.args.knob c.args.new) c.turn.ensures.bench c.self.invariant
