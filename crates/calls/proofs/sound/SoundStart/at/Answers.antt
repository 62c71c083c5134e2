-- `SoundStart::at` gives a sound bench, also where it is refused.
use Rattle.bench.proofs.StartLaws.{start_sound}
use Rattle.calls.proofs.sound.SoundStart.at.Goals as goal

pub invariant_of-result : goal.invariant_of-result
invariant_of-result c = rw c.start-start.ensures (start_sound _)
