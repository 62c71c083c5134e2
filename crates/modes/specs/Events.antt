-- The events, a line for each. Document 01, 'Event words'; document 02, 2026-03, has event 20.
use Rattle.std.specs.Prelude.{Bool, true, false, not, ◌&&◌, ◌||◌, cond, List, [], ◌∷◌, ℕ, eqb}
use Rattle.sides.specs.declared.Side.{Side}
use Rattle.modes.specs.declared.Vertical.{Vertical}
use Rattle.modes.specs.declared.Modes.{Modes}
use Rattle.modes.specs.declared.ModeSet.{ModeSet}
use Rattle.modes.specs.declared.Event.{Event}
use Rattle.modes.specs.declared.Event.TheVariants.{ApDisconnect, ApSwitch, OverspeedBegins, OverspeedEnds, GoAround, Transfer, FdSwitchLeft}
use Rattle.modes.specs.declared.Event.TheVariants.{FdSwitchRight, SourceChanged, NavCaptured, LapprCaptured, VapprCaptured, AltselCaptured, AltselOnTrack}
use Rattle.modes.specs.declared.Event.TheVariants.{HdgSwitch, NavSwitch, ApprSwitch, VsSwitch, FlcSwitch, AltSwitch, IndependentSwitch, NoEvent}
use Rattle.modes.specs.Finite.{pick}
use Rattle.modes.specs.Numbers.{vertical_number}
use Rattle.modes.specs.Sets.{Mode, ROLL, HDG, NAV, LAPPR, LGA, PITCH, VS, FLC, ALT, ALTSEL, VAPPR}
use Rattle.modes.specs.Sets.{VGA, engaged, armed, cleared, engaged_in, selected_in, engage, arm, disarm, clear, with_vertical}

-- the events in the order of their numbers, from 0
abbrev pub numbered : List Event
numbered =
    ApDisconnect ∷ ApSwitch ∷ OverspeedBegins ∷ OverspeedEnds ∷ GoAround ∷ Transfer ∷ FdSwitchLeft ∷ FdSwitchRight ∷ SourceChanged ∷ NavCaptured
    ∷ LapprCaptured ∷ VapprCaptured ∷ AltselCaptured ∷ AltselOnTrack ∷ HdgSwitch ∷ NavSwitch ∷ ApprSwitch ∷ VsSwitch ∷ FlcSwitch ∷ AltSwitch ∷ IndependentSwitch
    ∷ []

-- the event of a number; past 20 there is none
abbrev pub event_at : ℕ → Event
event_at n = pick NoEvent numbered n

-- the number of an event, and 32 for none
abbrev pub event_number : Event → ℕ
event_number ApDisconnect = 0
event_number ApSwitch = 1
event_number OverspeedBegins = 2
event_number OverspeedEnds = 3
event_number GoAround = 4
event_number Transfer = 5
event_number FdSwitchLeft = 6
event_number FdSwitchRight = 7
event_number SourceChanged = 8
event_number NavCaptured = 9
event_number LapprCaptured = 10
event_number VapprCaptured = 11
event_number AltselCaptured = 12
event_number AltselOnTrack = 13
event_number HdgSwitch = 14
event_number NavSwitch = 15
event_number ApprSwitch = 16
event_number VsSwitch = 17
event_number FlcSwitch = 18
event_number AltSwitch = 19
event_number IndependentSwitch = 20
event_number NoEvent = 32

abbrev pub is_none : Event → Bool
is_none e = eqb (event_number e) 32

-- the switch of independent operation
abbrev pub is_independent : Event → Bool
is_independent e = eqb (event_number e) 20

-- ---- what an event says of AP, the flag, PF and the flight directors, in the first step

abbrev stays : Bool → Bool
stays x = x

abbrev off : Bool → Bool
off x = false

abbrev on : Bool → Bool
on x = true

abbrev toggles : Bool → Bool
toggles x = not x

-- whether the pilot flying changes sides
abbrev moves : Bool
moves = true

abbrev remains : Bool
remains = false

-- whose FD switch is pressed
abbrev nobody : Side → Bool
nobody s = false

abbrev left : Side → Bool
left Side.Left = true
left Side.Right = false

abbrev right : Side → Bool
right Side.Left = false
right Side.Right = true

-- when a side that acts asks for FD On: by AP, the flag and that side's set as handed in
abbrev never : Bool → Bool → ModeSet → Bool
never ap flag s = false

abbrev always : Bool → Bool → ModeSet → Bool
always ap flag s = true

abbrev when_ap_engages : Bool → Bool → ModeSet → Bool
when_ap_engages ap flag s = not ap

abbrev if_flag_clear : Bool → Bool → ModeSet → Bool
if_flag_clear ap flag s = not flag

abbrev unless_engaged : Mode → Bool → Bool → ModeSet → Bool
unless_engaged x ap flag s = not (engaged_in x s)

abbrev unless_selected : Mode → Bool → Bool → ModeSet → Bool
unless_selected x ap flag s = not (selected_in x s)

-- ---- what an event does to an On set, in the third step: by the flag as handed in and the set after the second step

-- a change that the flag has no part in
abbrev pub either : (Modes → Modes) → Bool → Modes → Modes
either f flag m = f m

abbrev none : Bool → Modes → Modes
none flag m = m

unfoldable pub overspeed : Bool → Modes → Modes
overspeed flag m = cond (flag || engaged ALT m || engaged ALTSEL m) m (engage FLC m)

unfoldable pub go_around : Modes → Modes
go_around m = engage VGA (engage LGA m)

unfoldable pub clear_armed : Mode → Modes → Modes
clear_armed x m = cond (armed x m) (clear x m) m

unfoldable pub take_basic : Modes → Modes
take_basic m = engage PITCH (engage ROLL (clear_armed VAPPR (clear_armed LAPPR (clear_armed NAV m))))

unfoldable pub clear_navigation : Modes → Modes
clear_navigation m = clear VAPPR (clear LAPPR (clear NAV m))

-- the signal of x: it makes an armed x engage, and else does nothing
unfoldable pub capture : Mode → Modes → Modes
capture x m = cond (armed x m) (engage x m) m

unfoldable pub capture_vappr : Bool → Modes → Modes
capture_vappr flag m = cond (armed VAPPR m && engaged LAPPR m && not flag) (engage VAPPR m) m

-- ALTSEL in capture is vertical law 5
unfoldable pub track : Modes → Modes
track m = cond (eqb (vertical_number m.vertical) 5) (with_vertical Vertical.AltselTrack m) m

-- pressing the switch of x engages x, or clears it where it was engaged
unfoldable pub switch : Mode → Modes → Modes
switch x m = cond (engaged x m) (clear x m) (engage x m)

unfoldable pub switch_nav : Modes → Modes
switch_nav m = cond (cleared NAV m) (arm NAV (clear_armed LAPPR m)) (clear NAV m)

unfoldable pub switch_appr : Modes → Modes
switch_appr m = cond (cleared LAPPR m) (arm VAPPR (arm LAPPR (disarm NAV m))) (clear LAPPR m)

-- while the flag is set the switch does not clear FLC
unfoldable pub switch_flc : Bool → Modes → Modes
switch_flc flag m = cond (engaged FLC m && flag) m (switch FLC m)

-- ---- the table

pub record Line : Type 0 where
  pub ap : Bool → Bool
  pub flag : Bool → Bool
  pub transfers : Bool
  pub pressed : Side → Bool
  pub asks_fd : Bool → Bool → ModeSet → Bool
  pub change : Bool → Modes → Modes

abbrev line : (Bool → Bool) → (Bool → Bool) → Bool → (Side → Bool) → (Bool → Bool → ModeSet → Bool) → (Bool → Modes → Modes) → Line
line a f t d q c = record { ap = a; flag = f; transfers = t; pressed = d; asks_fd = q; change = c }

-- a line for each event that goes through the three steps, and an idle one for the two that do not; the columns are AP, the flag, PF, whose FD switch is pressed, when
-- a side that acts asks for FD On, and the mode change
abbrev pub line_of : Event → Line
line_of ApDisconnect = line off stays remains nobody never none
line_of ApSwitch = line toggles stays remains nobody when_ap_engages none
line_of OverspeedBegins = line stays on remains nobody if_flag_clear overspeed
line_of OverspeedEnds = line stays off remains nobody never none
line_of GoAround = line off stays remains nobody always (either go_around)
line_of Transfer = line stays stays moves nobody never (either take_basic)
line_of FdSwitchLeft = line stays stays remains left never none
line_of FdSwitchRight = line stays stays remains right never none
line_of SourceChanged = line stays stays remains nobody never (either clear_navigation)
line_of NavCaptured = line stays stays remains nobody never (either (capture NAV))
line_of LapprCaptured = line stays stays remains nobody never (either (capture LAPPR))
line_of VapprCaptured = line stays stays remains nobody never capture_vappr
line_of AltselCaptured = line stays stays remains nobody never (either (capture ALTSEL))
line_of AltselOnTrack = line stays stays remains nobody never (either track)
line_of HdgSwitch = line stays stays remains nobody (unless_engaged HDG) (either (switch HDG))
line_of NavSwitch = line stays stays remains nobody (unless_selected NAV) (either switch_nav)
line_of ApprSwitch = line stays stays remains nobody (unless_selected LAPPR) (either switch_appr)
line_of VsSwitch = line stays stays remains nobody (unless_engaged VS) (either (switch VS))
line_of FlcSwitch = line stays stays remains nobody (unless_engaged FLC) switch_flc
line_of AltSwitch = line stays stays remains nobody (unless_engaged ALT) (either (switch ALT))
line_of IndependentSwitch = line stays stays remains nobody never none
line_of NoEvent = line stays stays remains nobody never none
