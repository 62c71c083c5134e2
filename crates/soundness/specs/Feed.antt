-- What becomes of readings and their whole values in a call. Document 02, 2026-05. Here is the statement; the proof is in proofs/Feed.antt.
use Rattle.std.specs.Prelude.{◌≡◌, Bool, true, false, ℕ, is_ok}
use Rattle.modes.specs.declared.Event.{Event}
use Rattle.feed.specs.declared.Reading.{Reading}
use Rattle.feed.specs.Readings.{stored, stored_whole, wholes_of}
use Rattle.channels.specs.declared.Channel.{Channel}
use Rattle.channels.specs.declared.Inputs.{Inputs}
use Rattle.channels.specs.declared.knobs.Knob.{Knob}
use Rattle.bench.specs.declared.Bench.{Bench}
use Rattle.bench.specs.declared.call.Call.{Call}
use Rattle.bench.specs.Acting.{on_acting}
use Rattle.bench.specs.Sound.{sound}
use Rattle.rules.specs.Steps.{first_step}
use Rattle.rules.specs.Turns.{counted}
use Rattle.rules.specs.Laws.{SameFeed}
use Rattle.rules.specs.Calls.{verdict, next}

abbrev pub is_reading : Call → Bool
is_reading (Call.Event word) = false
is_reading (Call.Turn knob n) = false
is_reading (Call.Reading r) = true
is_reading (Call.Send s) = false
is_reading (Call.Refresh s) = false
is_reading (Call.Display s) = false

pub record FeedLaws : Type 0 where
  -- a reading that is accepted leaves its float and its whole value together, and one that is refused leaves neither
  pub accepted : (b : Bench) (r : Reading) → is_ok (verdict b (Call.Reading r)) ≡ true
      → ((next b (Call.Reading r)).readings ≡ stored r b.readings) × ((next b (Call.Reading r)).wholes ≡ stored_whole r b.wholes)
  pub refused : (b : Bench) (r : Reading) → is_ok (verdict b (Call.Reading r)) ≡ false → SameFeed b (next b (Call.Reading r))
  -- no other call changes either,
  pub others : (b : Bench) (c : Call) → is_reading c ≡ false → SameFeed b (next b c)
  -- nor does what goes ahead of entry in a call: an event's first step, a turn's count, and a rule of either side, which is given no more of the bench than that side's channel
  pub first_step : (e : Event) (b : Bench) → SameFeed b (first_step e b)
  pub count : (k : Knob) (n : ℕ) (b : Bench) → SameFeed b (counted k n b)
  pub acting : (rule : Inputs → Channel → Channel) (flag : Bool) (b : Bench) → SameFeed b (on_acting rule flag b)
  -- so after any call on a sound bench the whole values are those of the floats, rounded afresh
  pub afresh : (b : Bench) (c : Call) → sound b ≡ true → (next b c).wholes ≡ wholes_of (next b c).readings
