-- Laws of mode sets and of events.
use Rattle.std.specs.Prelude.{◌≡◌, Bool, false, ℕ, ◌<◌, Option, Some, T}
use Rattle.sides.specs.declared.Side.{Side}
use Rattle.modes.specs.declared.Lateral.{Lateral}
use Rattle.modes.specs.declared.ArmedLateral.{ArmedLateral}
use Rattle.modes.specs.declared.Vertical.{Vertical}
use Rattle.modes.specs.declared.Modes.{Modes}
use Rattle.modes.specs.declared.ModeSet.{ModeSet}
use Rattle.modes.specs.declared.Event.{Event}
use Rattle.modes.specs.Numbers.{lateral_number, vertical_number, lateral_of, armed_of, vertical_of}
use Rattle.modes.specs.Every.{armed_number, count_modes}
use Rattle.modes.specs.Sets.{implies, coherent}
use Rattle.modes.specs.Events.{event_at, event_number, Line, line_of}

-- an event's line that changes nothing
pub record Idle (l : Line) : Type 0 where
  pub ap : (x : Bool) → l.ap x ≡ x
  pub flag : (x : Bool) → l.flag x ≡ x
  pub transfers : l.transfers ≡ false
  pub pressed : (s : Side) → l.pressed s ≡ false
  pub asks_fd : (x y : Bool) (s : ModeSet) → l.asks_fd x y s ≡ false
  pub change : (flag : Bool) (m : Modes) → l.change flag m ≡ m

-- the values of a type have numbers: the value of a value's number is that value, and what a number gives has that number
pub record Numbered (A : Type 0) (number : A → ℕ) (of : ℕ → Option A) : Type 0 where
  pub back : (x : A) → of (number x) ≡ Some x
  pub has : (n : ℕ) (x : A) → of n ≡ Some x → number x ≡ n

pub record ModeLaws : Type 0 where
  -- 107 On sets are coherent
  pub coherent_sets : count_modes coherent ≡ 107
  -- every mode change keeps a coherent set coherent
  pub change_coherent : (e : Event) (flag : Bool) (m : Modes) → T (implies (coherent m) (coherent ((line_of e).change flag m)))
  -- the event of an event's number is that event, and the number of a number's event is that number: 0 to 20 and 32 stand for one event each
  pub event_back : (e : Event) → event_at (event_number e) ≡ e
  pub number_back : (n : ℕ) → n < 21 → event_number (event_at n) ≡ n
  -- 'no event' changes nothing by its line, and neither does event 20, which goes through no steps
  pub none_idle : Idle (line_of Event.NoEvent)
  pub independent_idle : Idle (line_of Event.IndependentSwitch)
  -- modes have numbers in this way, so that a number that no mode has gives none
  pub lateral_numbers : Numbered Lateral lateral_number lateral_of
  pub armed_numbers : Numbered ArmedLateral armed_number armed_of
  pub vertical_numbers : Numbered Vertical vertical_number vertical_of
