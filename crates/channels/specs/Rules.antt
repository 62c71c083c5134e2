-- What an event and a refresh make of one side's channel. Document 01, 'Event words' and 'Sends, refreshes, knobs'. The first step, in which a side asks for another side's flight
-- director, is a rule of the whole bench: crate `rules`.
use Rattle.std.specs.Prelude.{Bool, ◌||◌, cond}
use Rattle.modes.specs.declared.ModeSet.{ModeSet}
use Rattle.modes.specs.declared.Event.{Event}
use Rattle.modes.specs.Sets.{basic_modes, in_on}
use Rattle.modes.specs.Events.{line_of}
use Rattle.channels.specs.declared.Channel.{Channel}
use Rattle.channels.specs.declared.Inputs.{Inputs}
use Rattle.channels.specs.Entry.{enter}

-- ---- the On rule, an event's second step: a side has modes while its own FD, the one in its inbox or AP is on; a side that comes on gets ROLL and PITCH

unfoldable pub is_on : Inputs → Channel → Bool
is_on i c = c.fd || i.sent_fd || i.ap

abbrev pub coming_on : ModeSet → ModeSet
coming_on ModeSet.Off = ModeSet.On basic_modes
coming_on (ModeSet.On m) = ModeSet.On m

unfoldable pub second_step : Inputs → Channel → ModeSet
second_step i c = cond (is_on i c) (coming_on c.set) ModeSet.Off

-- ---- the third step: the event's mode change, made of what the second step left if that is On

unfoldable pub third_step : Event → Inputs → ModeSet → ModeSet
third_step e i s = in_on ((line_of e).change i.overspeed) s

-- ---- a side after an event's second and third step, with entry

unfoldable pub after_event : Event → Inputs → Channel → Channel
after_event e i c = enter i.wholes (third_step e i (second_step i c)) c

-- ---- a refresh

-- of a side that acts: the second step alone, with entry
unfoldable pub after_refresh : Inputs → Channel → Channel
after_refresh i c = enter i.wholes (second_step i c) c

-- of any other: it takes over what its inbox holds, and keeps its own flight director
abbrev pub taken : Channel → Channel → Channel
taken sent c = record sent { fd = c.fd }
