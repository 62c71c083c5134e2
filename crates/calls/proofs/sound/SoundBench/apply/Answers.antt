-- `SoundBench::apply` leaves a sound bench.
use Rattle.soundness.proofs.Kept.{left_is_sound}
use Rattle.calls.proofs.sound.SoundBench.apply.Goals as goal

pub invariant_of-self : goal.invariant_of-self
invariant_of-self c = left_is_sound c.self.inside.bench _ c.args.call (c.apply.ensures.bench c.self.invariant) c.self.invariant
