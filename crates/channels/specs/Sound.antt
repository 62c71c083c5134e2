-- Sound channels. Document 01, 'Who can be turned away'.
use Rattle.std.specs.Prelude.{Bool, ◌&&◌}
use Rattle.modes.specs.Sets.{coherent_set}
use Rattle.feed.specs.Ranges.{within}
use Rattle.channels.specs.declared.Channel.{Channel}
use Rattle.channels.specs.declared.references.References.{References}
use Rattle.channels.specs.declared.references.Reference.{Reference}
use Rattle.channels.specs.References.{range_of, reference_at}

-- a reference is within its range
abbrev pub in_range : Reference → References → Bool
in_range n r = within (range_of n) (reference_at n r)

unfoldable pub references_sound : References → Bool
references_sound r =
    in_range Reference.Heading r && in_range Reference.Preselected r && in_range Reference.Held r && in_range Reference.VerticalSpeed r
    && in_range Reference.Ias r && in_range Reference.Roll r && in_range Reference.Pitch r

-- a coherent set, and every reference within its range
unfoldable pub channel_sound : Channel → Bool
channel_sound c = coherent_set c.set && references_sound c.references
