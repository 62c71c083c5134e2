-- Mode sets. Document 01, 'Mode sets', in its own vocabulary: a mode is engaged, armed or cleared in a set, and operations engage, arm and clear it.
use Rattle.std.specs.Prelude.{Bool, true, false, not, ◌&&◌, ◌||◌, cond, ℕ, eqb, ltb}
use Rattle.modes.specs.declared.Lateral.{Lateral}
use Rattle.modes.specs.declared.Vertical.{Vertical}
use Rattle.modes.specs.declared.ArmedLateral.{ArmedLateral}
use Rattle.modes.specs.declared.Modes.{Modes}
use Rattle.modes.specs.declared.ModeSet.{ModeSet}

-- ---- the modes

-- the paper's modes: five lateral ones, then seven vertical ones
pub data Mode : Type 0 where
  ROLL HDG NAV LAPPR LGA PITCH VS FLC ALT ALTSEL VAPPR VGA : Mode

abbrev pub lateral_mode : Lateral → Mode
lateral_mode Lateral.Roll = ROLL
lateral_mode Lateral.Hdg = HDG
lateral_mode Lateral.Nav = NAV
lateral_mode Lateral.Lappr = LAPPR
lateral_mode Lateral.Lga = LGA

-- capture and track are both ALTSEL
abbrev pub vertical_mode : Vertical → Mode
vertical_mode Vertical.Pitch = PITCH
vertical_mode Vertical.Vs = VS
vertical_mode Vertical.Flc = FLC
vertical_mode Vertical.Alt = ALT
vertical_mode Vertical.AltselCapture = ALTSEL
vertical_mode Vertical.AltselTrack = ALTSEL
vertical_mode Vertical.Vappr = VAPPR
vertical_mode Vertical.Vga = VGA

abbrev pub place : Mode → ℕ
place ROLL = 0
place HDG = 1
place NAV = 2
place LAPPR = 3
place LGA = 4
place PITCH = 5
place VS = 6
place FLC = 7
place ALT = 8
place ALTSEL = 9
place VAPPR = 10
place VGA = 11

-- x and y are the same mode
abbrev pub is : Mode → Mode → Bool
is x y = eqb (place x) (place y)

-- ---- what a mode is in an On set: engaged, armed or cleared

unfoldable pub engaged : Mode → Modes → Bool
engaged x m = is x (lateral_mode m.lateral) || is x (vertical_mode m.vertical)

abbrev pub arms_nav : ArmedLateral → Bool
arms_nav ArmedLateral.Neither = false
arms_nav ArmedLateral.Nav = true
arms_nav ArmedLateral.Lappr = false

abbrev pub arms_lappr : ArmedLateral → Bool
arms_lappr ArmedLateral.Neither = false
arms_lappr ArmedLateral.Nav = false
arms_lappr ArmedLateral.Lappr = true

-- whether x is armed: NAV, LAPPR and VAPPR as the set says; ALTSEL beside four of the vertical modes, by the bench's own rule; the other eight modes never
unfoldable pub armed : Mode → Modes → Bool
armed NAV m = arms_nav m.armed
armed LAPPR m = arms_lappr m.armed
armed ALTSEL m = engaged PITCH m || engaged VS m || engaged FLC m || engaged VGA m
armed VAPPR m = m.vappr_armed
armed ROLL m = false
armed HDG m = false
armed LGA m = false
armed PITCH m = false
armed VS m = false
armed FLC m = false
armed ALT m = false
armed VGA m = false

unfoldable pub cleared : Mode → Modes → Bool
cleared x m = not (engaged x m) && not (armed x m)

-- ---- coherence

abbrev pub implies : Bool → Bool → Bool
implies a b = not a || b

-- x is not armed while it is engaged
unfoldable pub once : Mode → Modes → Bool
once x m = not (armed x m && engaged x m)

-- Demand 3, and 'Mode sets': no mode is armed while it is engaged; an engaged VAPPR has LAPPR engaged beside it; with LAPPR armed VAPPR is armed; and without LAPPR,
-- armed or engaged, there is no VAPPR. (NAV and LAPPR are not both armed in any representable set, and ALTSEL's arming is as the paper has it in all of them)
unfoldable pub coherent : Modes → Bool
coherent m =
    once NAV m && once LAPPR m && once ALTSEL m && once VAPPR m
    && implies (engaged VAPPR m) (engaged LAPPR m)
    && implies (armed LAPPR m) (armed VAPPR m)
    && implies (cleared LAPPR m) (cleared VAPPR m)

-- ---- operations

abbrev pub with_lateral : Lateral → Modes → Modes
with_lateral l m = record { lateral = l; armed = m.armed; vertical = m.vertical; vappr_armed = m.vappr_armed }

abbrev pub with_vertical : Vertical → Modes → Modes
with_vertical v m = record { lateral = m.lateral; armed = m.armed; vertical = v; vappr_armed = m.vappr_armed }

abbrev pub with_armed : ArmedLateral → Modes → Modes
with_armed a m = record { lateral = m.lateral; armed = a; vertical = m.vertical; vappr_armed = m.vappr_armed }

abbrev pub with_vappr_armed : Bool → Modes → Modes
with_vappr_armed f m = record { lateral = m.lateral; armed = m.armed; vertical = m.vertical; vappr_armed = f }

-- x takes the place of the mode engaged on its own axis; ALTSEL begins in capture
unfoldable pub put : Mode → Modes → Modes
put ROLL m = with_lateral Lateral.Roll m
put HDG m = with_lateral Lateral.Hdg m
put NAV m = with_lateral Lateral.Nav m
put LAPPR m = with_lateral Lateral.Lappr m
put LGA m = with_lateral Lateral.Lga m
put PITCH m = with_vertical Vertical.Pitch m
put VS m = with_vertical Vertical.Vs m
put FLC m = with_vertical Vertical.Flc m
put ALT m = with_vertical Vertical.Alt m
put ALTSEL m = with_vertical Vertical.AltselCapture m
put VAPPR m = with_vertical Vertical.Vappr m
put VGA m = with_vertical Vertical.Vga m

-- the first five modes are lateral
abbrev pub is_lateral : Mode → Bool
is_lateral x = ltb (place x) 5

-- the mode that is engaged on x's axis
abbrev pub beside : Mode → Modes → Mode
beside x m = cond (is_lateral x) (lateral_mode m.lateral) (vertical_mode m.vertical)

-- what engages in the place of x where x, engaged, is dropped: ROLL, or PITCH on the vertical axis
abbrev pub basic : Mode → Mode
basic x = cond (is_lateral x) ROLL PITCH

-- x is armed no more. ALTSEL's arming goes by the engaged mode and is not ended by itself
unfoldable pub disarm : Mode → Modes → Modes
disarm x m = cond ((is x NAV || is x LAPPR) && armed x m) (with_armed ArmedLateral.Neither m) (cond (is x VAPPR) (with_vappr_armed false m) m)

-- x is armed, in place of the other lateral mode if that was armed
unfoldable pub arm : Mode → Modes → Modes
arm x m = cond (is x NAV) (with_armed ArmedLateral.Nav m) (cond (is x LAPPR) (with_armed ArmedLateral.Lappr m) (cond (is x VAPPR) (with_vappr_armed true m) m))

-- x is neither armed nor engaged any more
unfoldable pub drop : Mode → Modes → Modes
drop x m = cond (engaged x m) (put (basic x) (disarm x m)) (disarm x m)

-- x is dropped, and VAPPR with it where x is LAPPR
unfoldable pub clear : Mode → Modes → Modes
clear x m = cond (is x LAPPR) (drop VAPPR (drop LAPPR m)) (drop x m)

-- x is disarmed, and what else was engaged on its axis is cleared to make room for it. So a vertical mode other than VAPPR ends an engaged VAPPR and does not touch
-- an armed one
unfoldable pub engage : Mode → Modes → Modes
engage x m = cond (engaged x m) (disarm x m) (put x (clear (beside x m) (disarm x m)))

-- ---- sets, which may be Off

-- the set of a side that comes on
abbrev pub basic_modes : Modes
basic_modes = record { lateral = Lateral.Roll; armed = ArmedLateral.Neither; vertical = Vertical.Pitch; vappr_armed = false }

abbrev pub is_off : ModeSet → Bool
is_off ModeSet.Off = true
is_off (ModeSet.On m) = false

abbrev pub coherent_set : ModeSet → Bool
coherent_set ModeSet.Off = true
coherent_set (ModeSet.On m) = coherent m

-- in a set that is Off nothing is engaged or armed
abbrev pub engaged_in : Mode → ModeSet → Bool
engaged_in x ModeSet.Off = false
engaged_in x (ModeSet.On m) = engaged x m

-- both approach modes are engaged: the pair that independent operation stands on (document 02, 2026-03)
abbrev pub approach_engaged : ModeSet → Bool
approach_engaged s = engaged_in LAPPR s && engaged_in VAPPR s

-- armed or engaged
abbrev pub selected_in : Mode → ModeSet → Bool
selected_in x ModeSet.Off = false
selected_in x (ModeSet.On m) = not (cleared x m)

-- a change of an On set
abbrev pub in_on : (Modes → Modes) → ModeSet → ModeSet
in_on f ModeSet.Off = ModeSet.Off
in_on f (ModeSet.On m) = ModeSet.On (f m)
