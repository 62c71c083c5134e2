-- What the words in the columns of the code's table say, as functions. This is no part of the promise: the contracts of the public functions cite the definitions'
-- table, modes/specs/Events.antt.
use Rattle.std.specs.Prelude.{Bool, true, false, not}
use Rattle.sides.specs.declared.Side.{Side}
use Rattle.modes.specs.declared.Modes.{Modes}
use Rattle.modes.specs.declared.ModeSet.{ModeSet}
use Rattle.modes.specs.Sets.{HDG, NAV, LAPPR, VS, FLC, ALT, ALTSEL, engaged_in, selected_in}
use Rattle.modes.specs.Events.{Line, overspeed, go_around, take_basic, clear_navigation, capture, capture_vappr, track, switch, switch_nav, switch_appr, switch_flc}
use Rattle.events.specs.declared.line.Effect.{Effect}
use Rattle.events.specs.declared.line.Pf.{Pf}
use Rattle.events.specs.declared.line.Pressed.{Pressed}
use Rattle.events.specs.declared.line.Asks.{Asks}
use Rattle.events.specs.declared.line.Change.{Change}
use Rattle.events.specs.declared.line.Line.{Line as Words}

-- AP, or the flag, after the event
abbrev pub effect : Effect → Bool → Bool
effect Effect.Stays x = x
effect Effect.Off x = false
effect Effect.On x = true
effect Effect.Toggles x = not x

-- the pilot flying changes sides
abbrev pub moves : Pf → Bool
moves Pf.Keeps = false
moves Pf.Moves = true

abbrev is_left : Side → Bool
is_left Side.Left = true
is_left Side.Right = false

abbrev is_right : Side → Bool
is_right Side.Left = false
is_right Side.Right = true

-- whose FD switch is pressed
abbrev pub pressed : Pressed → Side → Bool
pressed Pressed.Nobody s = false
pressed Pressed.Left s = is_left s
pressed Pressed.Right s = is_right s

-- when a side that acts asks for FD On: by AP, the flag and that side's set as handed in
abbrev pub asked : Asks → Bool → Bool → ModeSet → Bool
asked Asks.Never ap flag s = false
asked Asks.Always ap flag s = true
asked Asks.WhenApEngages ap flag s = not ap
asked Asks.IfFlagClear ap flag s = not flag
asked Asks.UnlessHdgEngaged ap flag s = not (engaged_in HDG s)
asked Asks.UnlessNavSelected ap flag s = not (selected_in NAV s)
asked Asks.UnlessLapprSelected ap flag s = not (selected_in LAPPR s)
asked Asks.UnlessVsEngaged ap flag s = not (engaged_in VS s)
asked Asks.UnlessFlcEngaged ap flag s = not (engaged_in FLC s)
asked Asks.UnlessAltEngaged ap flag s = not (engaged_in ALT s)

-- what is done to an On set, by the flag as handed in
abbrev pub changed : Change → Bool → Modes → Modes
changed Change.Nothing flag m = m
changed Change.Overspeed flag m = overspeed flag m
changed Change.GoAround flag m = go_around m
changed Change.TakeBasic flag m = take_basic m
changed Change.ClearNavigation flag m = clear_navigation m
changed Change.CaptureNav flag m = capture NAV m
changed Change.CaptureLappr flag m = capture LAPPR m
changed Change.CaptureVappr flag m = capture_vappr flag m
changed Change.CaptureAltsel flag m = capture ALTSEL m
changed Change.Track flag m = track m
changed Change.SwitchHdg flag m = switch HDG m
changed Change.SwitchNav flag m = switch_nav m
changed Change.SwitchAppr flag m = switch_appr m
changed Change.SwitchVs flag m = switch VS m
changed Change.SwitchFlc flag m = switch_flc flag m
changed Change.SwitchAlt flag m = switch ALT m

-- a line of the code's table as one of the definitions'
abbrev pub meaning : Words → Line
meaning l = record {
  ap = effect l.ap;
  flag = effect l.flag;
  transfers = moves l.pf;
  pressed = pressed l.pressed;
  asks_fd = asked l.asks;
  change = changed l.change;
}
