-- Entry: what a mode loads when it engages. Document 01, 'Event words'; document 02, 2026-05, by which it is a whole value that the bench keeps. Laws.antt says that this is
-- the rounded reading of document 01.
use Rattle.std.specs.Prelude.{Bool, not, ◌&&◌, cond, ℤ}
use Rattle.modes.specs.declared.ModeSet.{ModeSet}
use Rattle.modes.specs.Sets.{Mode, ROLL, PITCH, VS, FLC, ALT, engaged_in}
use Rattle.feed.specs.declared.Wholes.{Wholes}
use Rattle.feed.specs.Ranges.{clamped}
use Rattle.channels.specs.declared.Channel.{Channel}
use Rattle.channels.specs.declared.references.References.{References}
use Rattle.channels.specs.declared.references.Reference.{Reference}
use Rattle.channels.specs.References.{range_of, with_reference}

-- x is engaged in a side's new set and was not in its old one
abbrev pub newly : Mode → ModeSet → ModeSet → Bool
newly x before after = engaged_in x after && not (engaged_in x before)

-- a reference takes a whole value, clamped to its range
unfoldable pub loaded : Reference → ℤ → References → References
loaded n whole r = with_reference n (clamped (range_of n) whole) r

-- what a mode that may be newly engaged loads
abbrev pub loads : Mode → Reference → ℤ → ModeSet → ModeSet → References → References
loads x n whole before after r = cond (newly x before after) (loaded n whole r) r

-- the five modes that load a reference, each from the whole value of its kind
unfoldable pub entry : Wholes → ModeSet → ModeSet → References → References
entry k before after r =
    loads ALT Reference.Held k.altitude before after
    (loads FLC Reference.Ias k.airspeed before after
    (loads VS Reference.VerticalSpeed k.vertical_speed before after
    (loads PITCH Reference.Pitch k.pitch before after
    (loads ROLL Reference.Roll k.roll before after r))))

-- a channel takes another set, with entry
unfoldable pub enter : Wholes → ModeSet → Channel → Channel
enter k after c = record c { set = after; references = entry k c.set after c.references }
