-- Soundness by its parts: what a sound bench says of PF, of each channel, of the readings and of independent operation, and the way back. Assumes nothing.
use mathlib.Core.Path.{◌≡◌}
use mathlib.Core.Bool.{Bool, true, ◌&&◌}
use lib.Dec.{leb}
use Rattle.refusals.proofs.Choices.{and_left, and_right, and_both}
use Rattle.sides.specs.declared.Pair.{Pair}
use Rattle.sides.specs.Sides.{Both}
use Rattle.feed.specs.Sound.{readings_sound}
use Rattle.channels.specs.declared.Channel.{Channel}
use Rattle.channels.proofs.Sound.{ChannelIn, channel_parts, channel_whole}
use Rattle.bench.specs.declared.Bench.{Bench}
use Rattle.bench.specs.Independent.{independent_sound}
use Rattle.bench.specs.Sound.{both_sound, sound}

-- a bench that is sound but for independent operation: a call passes through such benches before it ends that
pub record PartsIn (b : Bench) : Type 0 where
  pub pf : leb b.shared.pf 1 ≡ true
  pub sides : Both ChannelIn b.sides
  pub inboxes : Both ChannelIn b.inboxes
  pub readings : readings_sound b.readings b.wholes ≡ true

both_parts : (p : Pair Channel) → both_sound p ≡ true → Both ChannelIn p
both_parts p h = search (and_left, and_right, channel_parts)

both_whole : (p : Pair Channel) → Both ChannelIn p → both_sound p ≡ true
both_whole p h = search (and_both, channel_whole)

pub parts : (b : Bench) → sound b ≡ true → PartsIn b
unfolding sound
parts b h = search (and_left, and_right, both_parts) depth 9

pub readings_part : (b : Bench) → sound b ≡ true → readings_sound b.readings b.wholes ≡ true
readings_part b h = (parts b h).readings

pub independent_part : (b : Bench) → sound b ≡ true → independent_sound b ≡ true
unfolding sound
independent_part b h = search (and_left, and_right) depth 9

pub whole : (b : Bench) → PartsIn b → independent_sound b ≡ true → sound b ≡ true
unfolding sound
whole b h k = search (and_both, both_whole) depth 9
