-- `sound::power_on` is sound.
use Rattle.bench.proofs.StartLaws.{power_on_sound}
use Rattle.calls.proofs.sound.power_on.Goals as goal

pub invariant_of-result : goal.invariant_of-result
invariant_of-result c = rw c.power_on.ensures power_on_sound
