-- What the calls answer, and what an answer tells by the papers' numbers and values. Document 01, 'Who can be turned away', 'Event words' and 'Display'.
use Rattle.std.specs.Prelude.{cond, ℕ, Result, Err}
use Rattle.refusals.specs.declared.Refusal.{Refusal}
use Rattle.refusals.specs.declared.Told.{Told}
use Rattle.refusals.specs.Refusals.{result_map}
use Rattle.refusals.specs.Told.{told}
use Rattle.sides.specs.Sides.{side_of}
use Rattle.bench.specs.declared.Bench.{Bench}
use Rattle.bench.specs.declared.call.Call.{Call}
use Rattle.bench.specs.Sound.{sound}
use Rattle.rules.specs.Calls.{Deed, act, turn, keep, send, refresh, show, word_event, granted}
use Rattle.calls.specs.declared.reply.Display.{Display}
use Rattle.calls.specs.declared.reply.Reply.{Reply}
use Rattle.calls.specs.Displays.{shown, blank}

-- ---- what a call answers: its refusal, or else

-- the number of the event acted on, what the side shows, or that it is done
abbrev pub replied : Bench → Deed → Reply
replied b (act n) = Reply.Event n
replied b (turn k n) = Reply.Done
replied b (keep r z) = Reply.Done
replied b (send s) = Reply.Done
replied b (refresh s) = Reply.Done
replied b (show s) = Reply.Shown (shown b s)

abbrev pub reply : Bench → Call → Result Reply Refusal
reply b c = result_map (replied b) (granted b c)

-- ---- the same of the two calls that answer something, by themselves

-- an event: the number acted on, or 32 for none
abbrev pub event_answer : Bench → ℕ → Result ℕ Refusal
event_answer b word = cond (sound b) (word_event word) (Err Refusal.UnsoundBench)

-- a display: what the side shows
abbrev pub display_answer : Bench → ℕ → Result Display Refusal
display_answer b s = cond (sound b) (result_map (shown b) (side_of s)) (Err Refusal.UnsoundBench)

-- ---- by the papers' numbers

-- what the papers have beside a refusal: 32 for an event, and a display of zeros
abbrev pub beside_refusal : Call → Reply
beside_refusal (Call.Event word) = Reply.Event 32
beside_refusal (Call.Turn knob n) = Reply.Done
beside_refusal (Call.Reading r) = Reply.Done
beside_refusal (Call.Send s) = Reply.Done
beside_refusal (Call.Refresh s) = Reply.Done
beside_refusal (Call.Display s) = Reply.Shown blank

-- what a call tells: its refusal's number or 0, the event acted on or 32, what a side shows or zeros
abbrev pub tells : Bench → Call → Told Reply
tells b c = told (beside_refusal c) (reply b c)
