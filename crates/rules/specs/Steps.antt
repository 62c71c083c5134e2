-- The three steps of an event, and the two events without them. Document 01, 'Event words'; document 02, 2026-03. The second and the third step are rules of one side, in
-- channels/specs/Rules.antt; the first is one of the whole bench, as both sides' wishes for a flight director meet in it.
use Rattle.std.specs.Prelude.{Bool, true, false, ◌&&◌, ◌||◌, cond}
use Rattle.sides.specs.declared.Side.{Side}
use Rattle.sides.specs.Sides.{at, each}
use Rattle.modes.specs.declared.Event.{Event}
use Rattle.modes.specs.Events.{is_none, is_independent, line_of}
use Rattle.channels.specs.declared.Channel.{Channel}
use Rattle.channels.specs.Rules.{after_event}
use Rattle.bench.specs.declared.Shared.{Shared}
use Rattle.bench.specs.declared.Bench.{Bench}
use Rattle.bench.specs.Acting.{other_side, acts, on_acting}
use Rattle.bench.specs.Independent.{begun}

-- ---- the first step: flight directors, AP, flag and PF, all decided from the bench that came

-- a transfer ends independent operation
unfoldable pub shared_after : Event → Shared → Shared
shared_after e s = record {
  pf = cond (line_of e).transfers (other_side s.pf) s.pf;
  ap = (line_of e).ap s.ap;
  overspeed = (line_of e).flag s.overspeed;
  independent = cond (line_of e).transfers false s.independent;
}

-- a pressed flight director goes On from Off, and from On to Off unless the flag holds it
abbrev pub toggled_fd : Bool → Bool → Bool
toggled_fd flag fd = cond fd flag true

-- side s acts, and the event sets its flight director On
unfoldable pub asks_for : Event → Bench → Side → Bool
asks_for e b s = acts b s && (line_of e).asks_fd b.shared.ap b.shared.overspeed (at s b.sides).set

unfoldable pub is_asked : Event → Bench → Bool
is_asked e b = asks_for e b Side.Left || asks_for e b Side.Right

-- the flight director of side s, which holds c; a side that acts is set On where an acting side asks for it
unfoldable pub fd_after : Event → Bench → Side → Channel → Bool
fd_after e b s c = cond ((line_of e).pressed s) (toggled_fd b.shared.overspeed c.fd) (c.fd || acts b s && is_asked e b)

-- and that channel with it
abbrev pub with_fd_after : Event → Bench → Side → Channel → Channel
with_fd_after e b s c = record c { fd = fd_after e b s c }

unfoldable pub first_step : Event → Bench → Bench
first_step e b = record b { shared = shared_after e b.shared; sides = each (with_fd_after e b) b.sides }

-- ---- all three: the later ones are made on the sides that act after the first, with the flag that came

unfoldable pub three_steps : Event → Bench → Bench
three_steps e b = on_acting (after_event e) b.shared.overspeed (first_step e b)

-- ---- an event: none does nothing, event 20 begins independent operation, and every other goes through the steps

unfoldable pub acted : Event → Bench → Bench
acted e b = cond (is_none e) b (cond (is_independent e) (begun b) (three_steps e b))
