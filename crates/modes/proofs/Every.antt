-- Laws over all values, over all events and over all 240 representable On sets, by computation. Assumes nothing.
use mathlib.Core.Path.{◌≡◌, refl, subst}
use mathlib.Core.Bool.{Bool, true, false, ◌&&◌, cond}
use mathlib.Core.List.{tail}
use Prim.Native.Nat.{ℕ, suc, ◌-◌}
use lib.Dec.{T, eqb, eqb→eq}
use Rattle.modes.specs.declared.Lateral.{Lateral}
use Rattle.modes.specs.declared.Vertical.{Vertical}
use Rattle.modes.specs.declared.Vertical.TheVariants.{Pitch, Vs, Flc, Alt, AltselCapture, AltselTrack, Vappr, Vga}
use Rattle.modes.specs.declared.ArmedLateral.{ArmedLateral}
use Rattle.modes.specs.declared.Modes.{Modes}
use Rattle.modes.specs.declared.ModeSet.{ModeSet}
use Rattle.modes.specs.declared.Event.{Event}
use Rattle.modes.specs.Finite.{Finite, every, pick}
use Rattle.modes.specs.Numbers.{lateral_number, vertical_number}
use Rattle.modes.specs.Events.{numbered, event_number, event_at}
use Rattle.modes.specs.Every.{both_flags, every_lateral, every_armed, every_vertical, of_parts, every_modes, every_set}
use Rattle.modes.specs.Every.{armed_number, flag_number, same_flag, same_modes}
use Rattle.modes.proofs.Finite.{at, same_place, both_left, both_right}

-- ---- types with few values: numbers of laws begin at 1, and an event's number is its place after none

pub back_flags : (x : Bool) → pick false both_flags (flag_number x) ≡ x
back_flags x = elim x as (λ k. pick false both_flags (flag_number k) ≡ k) [ false ↦ refl | true ↦ refl ]

abbrev pub flags : Finite Bool
flags = record { first = false; rest = tail both_flags; number = flag_number; place = λ n. n; back = back_flags }

pub back_laterals : (x : Lateral) → pick Lateral.Roll every_lateral (lateral_number x - 1) ≡ x
back_laterals x = elim x as (λ k. pick Lateral.Roll every_lateral (lateral_number k - 1) ≡ k) [ Lateral.Roll ↦ refl | Lateral.Hdg ↦ refl | Lateral.Nav ↦ refl | Lateral.Lappr ↦ refl | Lateral.Lga ↦ refl ]

abbrev pub laterals : Finite Lateral
laterals = record { first = Lateral.Roll; rest = tail every_lateral; number = lateral_number; place = λ n. n - 1; back = back_laterals }

pub back_armeds : (x : ArmedLateral) → pick ArmedLateral.Neither every_armed (armed_number x) ≡ x
back_armeds x = elim x as (λ k. pick ArmedLateral.Neither every_armed (armed_number k) ≡ k) [ ArmedLateral.Neither ↦ refl | ArmedLateral.Nav ↦ refl | ArmedLateral.Lappr ↦ refl ]

abbrev pub armeds : Finite ArmedLateral
armeds = record { first = ArmedLateral.Neither; rest = tail every_armed; number = armed_number; place = λ n. n; back = back_armeds }

pub back_verticals : (x : Vertical) → pick Vertical.Pitch every_vertical (vertical_number x - 1) ≡ x
back_verticals x = elim x as (λ k. pick Vertical.Pitch every_vertical (vertical_number k - 1) ≡ k) [ Pitch ↦ refl | Vs ↦ refl | Flc ↦ refl | Alt ↦ refl | AltselCapture ↦ refl | AltselTrack ↦ refl | Vappr ↦ refl | Vga ↦ refl ]

abbrev pub verticals : Finite Vertical
verticals = record { first = Vertical.Pitch; rest = tail every_vertical; number = vertical_number; place = λ n. n - 1; back = back_verticals }

-- the event of an event's number is the event
pub back_events : (x : Event) → event_at (event_number x) ≡ x
back_events Event.ApDisconnect = refl
back_events Event.ApSwitch = refl
back_events Event.OverspeedBegins = refl
back_events Event.OverspeedEnds = refl
back_events Event.GoAround = refl
back_events Event.Transfer = refl
back_events Event.FdSwitchLeft = refl
back_events Event.FdSwitchRight = refl
back_events Event.SourceChanged = refl
back_events Event.NavCaptured = refl
back_events Event.LapprCaptured = refl
back_events Event.VapprCaptured = refl
back_events Event.AltselCaptured = refl
back_events Event.AltselOnTrack = refl
back_events Event.HdgSwitch = refl
back_events Event.NavSwitch = refl
back_events Event.ApprSwitch = refl
back_events Event.VsSwitch = refl
back_events Event.FlcSwitch = refl
back_events Event.AltSwitch = refl
back_events Event.IndependentSwitch = refl
back_events Event.NoEvent = refl

abbrev pub events : Finite Event
events = record { first = Event.NoEvent; rest = numbered; number = event_number; place = suc; back = back_events }

-- ---- the On sets

pub at_modes : (p : Modes → Bool) → T (every_modes p) → (m : Modes) → T (p m)
at_modes p t m =
    let l = m.lateral in
    let a = m.armed in
    let v = m.vertical in
    let with-l = at laterals (λ l. every (λ a. every (λ v. every (λ f. p (of_parts l a v f)) both_flags) every_vertical) every_armed) t l in
    let with-a = at armeds (λ a. every (λ v. every (λ f. p (of_parts l a v f)) both_flags) every_vertical) with-l a in
    let with-v = at verticals (λ v. every (λ f. p (of_parts l a v f)) both_flags) with-a v in
    at flags (λ f. p (of_parts l a v f)) with-v m.vappr_armed

pub at_sets : (p : ModeSet → Bool) → T (every_set p) → (s : ModeSet) → T (p s)
at_sets p t ModeSet.Off = both_left (p ModeSet.Off) (every_modes (λ m. p (ModeSet.On m))) t
at_sets p t (ModeSet.On m) = at_modes (λ m. p (ModeSet.On m)) (both_right (p ModeSet.Off) (every_modes (λ m. p (ModeSet.On m))) t) m

pub same_modes_lem : (m n : Modes) → T (same_modes m n) → m ≡ n
same_modes_lem m n t =
    let l = eqb (lateral_number m.lateral) (lateral_number n.lateral) in
    let a = eqb (armed_number m.armed) (armed_number n.armed) in
    let v = eqb (vertical_number m.vertical) (vertical_number n.vertical) in
    let f = same_flag m.vappr_armed n.vappr_armed in
    let avf = both_right l (a && (v && f)) t in
    let vf = both_right a (v && f) avf in
    let same-l = same_place laterals m.lateral n.lateral (both_left l (a && (v && f)) t) in
    let same-a = same_place armeds m.armed n.armed (both_left a (v && f) avf) in
    let same-v = same_place verticals m.vertical n.vertical (both_left v f vf) in
    let same-f = same_place flags m.vappr_armed n.vappr_armed (both_right v f vf) in
    λ i. of_parts (same-l i) (same-a i) (same-v i) (same-f i)

-- ---- functions that agree at every set are equal: so a function of the code and a rule of the paper are joined

pub agree : (f g : Modes → Modes) → T (every_modes (λ m. same_modes (f m) (g m))) → (m : Modes) → f m ≡ g m
agree f g t m = same_modes_lem (f m) (g m) (at_modes (λ m. same_modes (f m) (g m)) t m)

-- the same for a function that goes by a test
pub agree_cases : (t : Modes → Bool) (f g h : Modes → Modes) → T (every_modes (λ m. same_modes (cond (t m) (f m) (g m)) (h m))) →
    (m : Modes) (b : Bool) → t m ≡ b → cond b (f m) (g m) ≡ h m
agree_cases t f g h p m b e = subst (λ (b : Bool). cond b (f m) (g m) ≡ h m) e (agree (λ m. cond (t m) (f m) (g m)) h p m)

pub agree_test : (f g : Modes → Bool) → T (every_modes (λ m. same_flag (f m) (g m))) → (m : Modes) → f m ≡ g m
agree_test f g t m = same_place flags (f m) (g m) (at_modes (λ m. same_flag (f m) (g m)) t m)

pub agree_sets : (f g : ModeSet → Bool) → T (every_set (λ s. same_flag (f s) (g s))) → (s : ModeSet) → f s ≡ g s
agree_sets f g t s = same_place flags (f s) (g s) (at_sets (λ s. same_flag (f s) (g s)) t s)

pub agree_number : (f g : Modes → ℕ) → T (every_modes (λ m. eqb (f m) (g m))) → (m : Modes) → f m ≡ g m
agree_number f g t m = eqb→eq (f m) (g m) (at_modes (λ m. eqb (f m) (g m)) t m)
