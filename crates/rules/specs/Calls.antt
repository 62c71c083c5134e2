-- The calls as data: which are turned away, in what order, and what the others do. Document 01, 'Event words', 'Sends, refreshes, knobs', 'Readings', 'Display' and
-- 'Who can be turned away'; document 02, 2026-03, for bit 20 and for what ends independent operation, and 2026-05 for whole values.
use Rattle.std.specs.Prelude.{cond, ℕ, leb, ℤ, Result, Ok, Err}
use Rattle.std.specs.Result.{result_and}
use Rattle.std.specs.Int.Count.{count_trailing_zeros}
use Rattle.refusals.specs.declared.Refusal.{Refusal}
use Rattle.refusals.specs.Refusals.{Verdict, result_map}
use Rattle.sides.specs.declared.Side.{Side}
use Rattle.sides.specs.Sides.{side_of}
use Rattle.modes.specs.Events.{event_at}
use Rattle.feed.specs.declared.Reading.{Reading}
use Rattle.feed.specs.Readings.{reading_verdict}
use Rattle.channels.specs.declared.knobs.Knob.{Knob}
use Rattle.channels.specs.Turns.{knob_of}
use Rattle.bench.specs.declared.Bench.{Bench}
use Rattle.bench.specs.declared.call.Call.{Call}
use Rattle.bench.specs.Independent.{ended}
use Rattle.bench.specs.Sound.{sound}
use Rattle.rules.specs.Steps.{acted}
use Rattle.rules.specs.Turns.{turned}
use Rattle.rules.specs.Readings.{received}
use Rattle.rules.specs.Sends.{sent, refreshed}

-- ---- who is turned away

-- what a call is for, once its numbers are known to name something: an event by its number, or 32 for none; a knob and its new count; a reading and its whole value;
-- and for a side, its send, its refresh and its display
pub data Deed : Type 0 where
  act : ℕ → Deed
  turn : Knob → ℕ → Deed
  keep : Reading → ℤ → Deed
  send : Side → Deed
  refresh : Side → Deed
  show : Side → Deed

-- a word's lowest set bit is its event. 4 where a bit past those of the events is set, so that the word is 2 ^ 21 = 2097152 or more
abbrev pub word_event : ℕ → Result ℕ Refusal
word_event word = cond (leb 2097152 word) (Err Refusal.UnknownEvent) (Ok (count_trailing_zeros 32 word))

-- what a call asks for, or the refusal of its own arguments, 2 to 6: 2 where a number names no side, 3 where it names no knob
abbrev pub asked : Call → Result Deed Refusal
asked (Call.Event word) = result_map act (word_event word)
asked (Call.Turn knob n) = result_map (λ k. turn k n) (knob_of knob)
asked (Call.Reading r) = result_map (keep r) (reading_verdict r)
asked (Call.Send s) = result_map send (side_of s)
asked (Call.Refresh s) = result_map refresh (side_of s)
asked (Call.Display s) = result_map show (side_of s)

-- 1, of an unsound bench, goes before a call's own refusal
unfoldable pub granted : Bench → Call → Result Deed Refusal
granted b c = cond (sound b) (asked c) (Err Refusal.UnsoundBench)

-- whether the call is accepted, or its refusal
abbrev pub verdict : Bench → Call → Verdict
verdict b c = result_and (granted b c) (Ok tt)

-- ---- what an accepted call does; a display changes nothing

abbrev pub done : Deed → Bench → Bench
done (act n) b = acted (event_at n) b
done (turn k n) b = turned k n b
done (keep r z) b = received r z b
done (send s) b = sent s b
done (refresh s) b = refreshed s b
done (show s) b = b

-- the bench after a call: an accepted one leaves what it does, with independent operation off where a side is then without the two modes; a refused one what came
abbrev pub left_by : Bench → Result Deed Refusal → Bench
left_by b (Ok d) = ended (done d b)
left_by b (Err refusal) = b

unfoldable pub next : Bench → Call → Bench
next b c = left_by b (granted b c)
