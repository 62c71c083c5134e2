-- Sound benches: those that refusal 1 does not name. Document 01, 'Who can be turned away'; document 02 adds independent operation (2026-03) and whole values (2026-05).
use Rattle.std.specs.Prelude.{Bool, ◌&&◌, leb}
use Rattle.sides.specs.declared.Pair.{Pair}
use Rattle.feed.specs.Sound.{readings_sound}
use Rattle.channels.specs.declared.Channel.{Channel}
use Rattle.channels.specs.Sound.{channel_sound}
use Rattle.bench.specs.declared.Bench.{Bench}
use Rattle.bench.specs.Independent.{independent_sound}

abbrev pub both_sound : Pair Channel → Bool
both_sound p = channel_sound p.left && channel_sound p.right

unfoldable pub sound : Bench → Bool
sound b = leb b.shared.pf 1 && both_sound b.sides && both_sound b.inboxes && readings_sound b.readings b.wholes && independent_sound b
