-- `SoundBench::send` leaves a sound bench.
use Rattle.bench.specs.declared.call.Call.{Call}
use Rattle.soundness.proofs.Kept.{left_is_sound}
use Rattle.calls.proofs.sound.SoundBench.send.Goals as goal

pub invariant_of-self : goal.invariant_of-self
invariant_of-self c = left_is_sound c.self.inside.bench _ (Call.Send c.args.side) c.send.ensures.bench c.self.invariant
