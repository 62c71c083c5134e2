-- What the code computes of a set and the paper's rules agree, each computed over all representable sets. Assumes nothing.
use mathlib.Core.Path.{◌≡◌, refl}
use mathlib.Core.Bool.{Bool, true, false, not, ◌&&◌, ◌||◌}
use Prim.Native.Nat.{ℕ, ◌≤◌}
use lib.Dec.{T, eqb, ltb}
use lib.Bits.{bit_or}
use lib.ListN.{get_or}
use native.Mathlib.Omega.{arith}
use Rattle.modes.specs.declared.row.TheConstants.{CODES}
use Rattle.modes.specs.declared.Modes.{Modes}
use Rattle.modes.specs.declared.ModeSet.{ModeSet}
use Rattle.modes.specs.Every.{every_set, armed_number, same_flag}
use Rattle.modes.specs.Sets.{Mode, HDG, NAV, LAPPR, VS, FLC, ALT, ALTSEL, VAPPR, arms_nav, arms_lappr, engaged, armed, cleared, once, coherent, engaged_in, approach_engaged, is_off}
use Rattle.modes.specs.Numbers.{lateral_law, vertical_law, worth, armed_sum, mode_lamps}
use Rattle.modes.specs.Row.{coded_sets, code_of}
use Rattle.modes.specs.Private.{is_nav, is_lappr, place_of, altsel_number, lateral_lamp, armed_lamp, vertical_lamp}
use Rattle.modes.proofs.Every.{agree_test, agree_number, agree_sets}

-- ---- tests

pub nav_selected : (m : Modes) → (is_nav m.lateral || arms_nav m.armed) ≡ not (cleared NAV m)
unfolding cleared armed engaged
nav_selected = agree_test (λ m. is_nav m.lateral || arms_nav m.armed) (λ m. not (cleared NAV m)) tt

pub lappr_selected : (m : Modes) → (is_lappr m.lateral || arms_lappr m.armed) ≡ not (cleared LAPPR m)
unfolding cleared armed engaged
lappr_selected = agree_test (λ m. is_lappr m.lateral || arms_lappr m.armed) (λ m. not (cleared LAPPR m)) tt

-- ---- codes

pub off_code : code_of ModeSet.Off ≡ 0
unfolding code_of coded_sets coherent once cleared armed engaged
off_code = refl

-- the table has each set's code
pub code_agrees : (m : Modes) → get_or CODES (place_of m) 0 ≡ code_of (ModeSet.On m)
unfolding code_of coded_sets coherent once cleared armed engaged
code_agrees = agree_number (λ m. get_or CODES (place_of m) 0) (λ m. code_of (ModeSet.On m)) tt

pub coherent_agrees : (m : Modes) → not (eqb (code_of (ModeSet.On m)) 108) ≡ coherent m
unfolding code_of coded_sets coherent once cleared armed engaged
coherent_agrees = agree_test (λ m. not (eqb (code_of (ModeSet.On m)) 108)) coherent tt

-- ---- numbers

pub worth_le : (t : Bool) (n : ℕ) → worth t n ≤ n
worth_le true n = omega arith
worth_le false n = omega arith

pub armed_parts : (m : Modes) → bit_or (bit_or (armed_number m.armed) (altsel_number m.vertical)) (worth m.vappr_armed 8) ≡ armed_sum (ModeSet.On m)
unfolding armed_sum armed engaged
armed_parts =
    agree_number (λ m. bit_or (bit_or (armed_number m.armed) (altsel_number m.vertical)) (worth m.vappr_armed 8)) (λ m. armed_sum (ModeSet.On m)) tt

pub lamp_parts : (m : Modes) → bit_or (bit_or (lateral_lamp m.lateral) (armed_lamp m.armed)) (vertical_lamp m.vertical) ≡ mode_lamps (ModeSet.On m)
unfolding mode_lamps cleared armed engaged
lamp_parts =
    agree_number (λ m. bit_or (bit_or (lateral_lamp m.lateral) (armed_lamp m.armed)) (vertical_lamp m.vertical)) (λ m. mode_lamps (ModeSet.On m)) tt

-- ---- a set shows the number of a law where the law's mode is engaged, and 0 where it is Off

pub lateral_shown : (k : ℕ) (x : Mode) → T (every_set (λ s. same_flag (eqb (lateral_law s) k) (engaged_in x s))) → (s : ModeSet) → eqb (lateral_law s) k ≡ engaged_in x s
lateral_shown k x = agree_sets (λ s. eqb (lateral_law s) k) (engaged_in x)

pub vertical_shown : (k : ℕ) (x : Mode) → T (every_set (λ s. same_flag (eqb (vertical_law s) k) (engaged_in x s))) → (s : ModeSet) → eqb (vertical_law s) k ≡ engaged_in x s
vertical_shown k x = agree_sets (λ s. eqb (vertical_law s) k) (engaged_in x)

-- the laws that single functions ask for
pub hdg_shown : (s : ModeSet) → eqb (lateral_law s) 2 ≡ engaged_in HDG s
unfolding engaged
hdg_shown = lateral_shown 2 HDG tt

pub vs_shown : (s : ModeSet) → eqb (vertical_law s) 2 ≡ engaged_in VS s
unfolding engaged
vs_shown = vertical_shown 2 VS tt

pub flc_shown : (s : ModeSet) → eqb (vertical_law s) 3 ≡ engaged_in FLC s
unfolding engaged
flc_shown = vertical_shown 3 FLC tt

pub alt_shown : (s : ModeSet) → eqb (vertical_law s) 4 ≡ engaged_in ALT s
unfolding engaged
alt_shown = vertical_shown 4 ALT tt

pub approach_shown : (s : ModeSet) → (eqb (lateral_law s) 4 && eqb (vertical_law s) 7) ≡ approach_engaged s
unfolding engaged
approach_shown s = λ i. lateral_shown 4 LAPPR tt s i && vertical_shown 7 VAPPR tt s i

pub altsel_shown : (s : ModeSet) → (not (ltb (vertical_law s) 5) && ltb (vertical_law s) 7) ≡ engaged_in ALTSEL s
unfolding engaged
altsel_shown = agree_sets (λ s. not (ltb (vertical_law s) 5) && ltb (vertical_law s) 7) (engaged_in ALTSEL) tt

pub off_shown : (s : ModeSet) → eqb (vertical_law s) 0 ≡ is_off s
off_shown = agree_sets (λ s. eqb (vertical_law s) 0) is_off tt
