-- What the code computes and the paper's rules agree, each computed over all representable sets. Assumes nothing.
use mathlib.Core.Path.{◌≡◌, refl, ap, subst}
use mathlib.Core.Logic.{◌⊎◌, inl, inr}
use mathlib.Core.Bool.{Bool, true, false, not, ◌&&◌, ◌||◌, cond}
use Prim.Native.Nat.{ℕ}
use lib.Dec.{T, eqb, eqb_refl, ltb}
use borrow.Author.Tests.{eq-eqb, ne_eqb}
use Rattle.modes.specs.declared.Lateral.{Lateral}
use Rattle.modes.specs.declared.Vertical.{Vertical}
use Rattle.modes.specs.declared.Vertical.TheVariants.{Pitch, Vs, Flc, Alt, AltselCapture, AltselTrack, Vappr, Vga}
use Rattle.modes.specs.declared.ArmedLateral.{ArmedLateral}
use Rattle.modes.specs.declared.Modes.{Modes}
use Rattle.modes.specs.Every.{every_modes, same_modes}
use Rattle.modes.proofs.Finite.{same_place}
use Rattle.modes.proofs.Every.{laterals, verticals, agree, agree_cases}
use Rattle.modes.specs.Sets.{basic_modes, HDG, NAV, LAPPR, PITCH, VS, ALT, ALTSEL, VAPPR, arms_nav, arms_lappr, engaged, armed, cleared, with_lateral, with_vertical}
use Rattle.modes.specs.Sets.{with_armed, with_vappr_armed, put, disarm, arm, drop, clear, engage}
use Rattle.modes.specs.Numbers.{lateral_number, vertical_number}
use Rattle.modes.specs.Events.{overspeed, go_around, clear_armed, take_basic, clear_navigation, capture, capture_vappr, track, switch, switch_nav, switch_appr, switch_flc}
use Rattle.changes.specs.Private.{to_lateral, to_vertical}

-- ---- what an arm tells of the number of the mode that it matched

pub lateral_is : {x k : Lateral} → x ≡ k → eqb (lateral_number x) (lateral_number k) ≡ true
lateral_is e = eq-eqb _ _ (ap lateral_number e)

pub lateral_not : {x k : Lateral} → (x ≡ k → ⊥) → eqb (lateral_number x) (lateral_number k) ≡ false
lateral_not {x} {k} h = ne_eqb _ _ (λ q. h (same_place laterals x k (subst (λ (n : ℕ). T (eqb (lateral_number x) n)) q (eqb_refl (lateral_number x)))))

pub vertical_is : {x k : Vertical} → x ≡ k → eqb (vertical_number x) (vertical_number k) ≡ true
vertical_is e = eq-eqb _ _ (ap vertical_number e)

pub vertical_not : {x k : Vertical} → (x ≡ k → ⊥) → eqb (vertical_number x) (vertical_number k) ≡ false
vertical_not {x} {k} h = ne_eqb _ _ (λ q. h (same_place verticals x k (subst (λ (n : ℕ). T (eqb (vertical_number x) n)) q (eqb_refl (vertical_number x)))))

pub lappr_not_armed : (a : ArmedLateral) → (a ≡ ArmedLateral.Lappr → ⊥) → arms_lappr a ≡ false
lappr_not_armed ArmedLateral.Neither h = refl
lappr_not_armed ArmedLateral.Nav h = refl
lappr_not_armed ArmedLateral.Lappr h = absurd (h refl)

-- ALT or ALTSEL is engaged
abbrev holds_altitude : Vertical → Bool
holds_altitude v = not (ltb (vertical_number v) 4) && ltb (vertical_number v) 7

pub altitude_held : {v : Vertical} → (v ≡ Alt) ⊎ ((v ≡ AltselCapture) ⊎ (v ≡ AltselTrack)) → holds_altitude v ≡ true
altitude_held (inl e) = ap holds_altitude e
altitude_held (inr (inl e)) = ap holds_altitude e
altitude_held (inr (inr e)) = ap holds_altitude e

pub altitude_not_held : (v : Vertical) → (v ≡ Alt → ⊥) → (v ≡ AltselCapture → ⊥) → (v ≡ AltselTrack → ⊥) → holds_altitude v ≡ false
altitude_not_held Pitch a b c = refl
altitude_not_held Vs a b c = refl
altitude_not_held Flc a b c = refl
altitude_not_held Alt a b c = absurd (a refl)
altitude_not_held AltselCapture a b c = absurd (b refl)
altitude_not_held AltselTrack a b c = absurd (c refl)
altitude_not_held Vappr a b c = refl
altitude_not_held Vga a b c = refl

-- a mode is engaged beside which ALTSEL is armed
abbrev arms_altsel : Vertical → Bool
arms_altsel v = ltb (vertical_number v) 4 || eqb (vertical_number v) 8

pub altsel_armed : {v : Vertical} → (v ≡ Pitch) ⊎ ((v ≡ Vs) ⊎ ((v ≡ Flc) ⊎ (v ≡ Vga))) → arms_altsel v ≡ true
altsel_armed (inl e) = ap arms_altsel e
altsel_armed (inr (inl e)) = ap arms_altsel e
altsel_armed (inr (inr (inl e))) = ap arms_altsel e
altsel_armed (inr (inr (inr e))) = ap arms_altsel e

pub altsel_not_armed : (v : Vertical) → (v ≡ Pitch → ⊥) → (v ≡ Vs → ⊥) → (v ≡ Flc → ⊥) → (v ≡ Vga → ⊥) → arms_altsel v ≡ false
altsel_not_armed Pitch a b c d = absurd (a refl)
altsel_not_armed Vs a b c d = absurd (b refl)
altsel_not_armed Flc a b c d = absurd (c refl)
altsel_not_armed Alt a b c d = refl
altsel_not_armed AltselCapture a b c d = refl
altsel_not_armed AltselTrack a b c d = refl
altsel_not_armed Vappr a b c d = refl
altsel_not_armed Vga a b c d = absurd (d refl)

-- ---- rules without a test

pub pitch_engaged : (m : Modes) → to_vertical Vertical.Pitch m ≡ engage PITCH m
unfolding engaged armed put disarm drop clear engage
pitch_engaged = agree _ (engage PITCH) tt

pub gone_around : (m : Modes) → to_vertical Vertical.Vga (to_lateral Lateral.Lga m) ≡ go_around m
unfolding engaged armed put disarm drop clear engage go_around
gone_around = agree _ go_around tt

pub basic_taken : (m : Modes) → basic_modes ≡ take_basic m
unfolding engaged armed put disarm drop clear engage take_basic clear_armed
basic_taken = agree (λ m. basic_modes) take_basic tt

pub navigation_cleared : (m : Modes) → clear LAPPR (clear NAV m) ≡ clear_navigation m
unfolding engaged armed put disarm drop clear engage clear_navigation
navigation_cleared = agree _ clear_navigation tt

-- ---- rules that go by one test of the set, which gave b

pub nav_captured : (m : Modes) (b : Bool) → arms_nav m.armed ≡ b → cond b (with_armed ArmedLateral.Neither (to_lateral Lateral.Nav m)) m ≡ capture NAV m
unfolding engaged armed put disarm drop clear engage capture
nav_captured = agree_cases _ _ _ (capture NAV) tt

pub lappr_captured : (m : Modes) (b : Bool) → arms_lappr m.armed ≡ b → cond b (with_armed ArmedLateral.Neither (with_lateral Lateral.Lappr m)) m ≡ capture LAPPR m
unfolding engaged armed put disarm drop clear engage capture
lappr_captured = agree_cases _ _ _ (capture LAPPR) tt

pub vappr_cleared : (m : Modes) (b : Bool) → eqb (vertical_number m.vertical) 7 ≡ b →
    cond b (with_vertical Vertical.Pitch (with_vappr_armed false m)) (with_vappr_armed false m) ≡ clear VAPPR m
unfolding engaged armed put disarm drop clear engage
vappr_cleared = agree_cases _ _ _ (clear VAPPR) tt

pub nav_cleared : (m : Modes) (b : Bool) → eqb (lateral_number m.lateral) 3 ≡ b →
    let u = with_armed (cond (arms_nav m.armed) ArmedLateral.Neither m.armed) m in cond b (with_lateral Lateral.Roll u) u ≡ clear NAV m
unfolding engaged armed put disarm drop clear engage
nav_cleared = agree_cases _ _ _ (clear NAV) tt

pub lappr_cleared : (m : Modes) (b : Bool) → eqb (lateral_number m.lateral) 4 ≡ b →
    let u = with_armed (cond (arms_lappr m.armed) ArmedLateral.Neither m.armed) (clear VAPPR m) in cond b (with_lateral Lateral.Roll u) u ≡ clear LAPPR m
unfolding engaged armed put disarm drop clear engage
lappr_cleared = agree_cases _ _ _ (clear LAPPR) tt

pub altsel_captured : (m : Modes) (b : Bool) → arms_altsel m.vertical ≡ b →
    cond b (with_vertical Vertical.AltselCapture m) m ≡ capture ALTSEL m
unfolding engaged armed put disarm drop clear engage capture
altsel_captured = agree_cases _ _ _ (capture ALTSEL) tt

pub on_track : (m : Modes) (b : Bool) → eqb (vertical_number m.vertical) 5 ≡ b → cond b (with_vertical Vertical.AltselTrack m) m ≡ track m
unfolding track
on_track = agree_cases _ _ _ track tt

pub hdg_switched : (m : Modes) (b : Bool) → eqb (lateral_number m.lateral) 2 ≡ b → cond b (with_lateral Lateral.Roll m) (to_lateral Lateral.Hdg m) ≡ switch HDG m
unfolding engaged armed put disarm drop clear engage switch
hdg_switched = agree_cases _ _ _ (switch HDG) tt

pub vs_switched : (m : Modes) (b : Bool) → eqb (vertical_number m.vertical) 2 ≡ b → cond b (with_vertical Vertical.Pitch m) (to_vertical Vertical.Vs m) ≡ switch VS m
unfolding engaged armed put disarm drop clear engage switch
vs_switched = agree_cases _ _ _ (switch VS) tt

pub alt_switched : (m : Modes) (b : Bool) → eqb (vertical_number m.vertical) 4 ≡ b → cond b (with_vertical Vertical.Pitch m) (to_vertical Vertical.Alt m) ≡ switch ALT m
unfolding engaged armed put disarm drop clear engage switch
alt_switched = agree_cases _ _ _ (switch ALT) tt

-- ---- rules that go by a law and by another thing, which is x

by_both : {A : Type 0} (t : Modes → Bool) (s : Modes → A) (f g : A → Modes → Modes) (h : Modes → Modes) →
    T (every_modes (λ m. same_modes (cond (t m) (f (s m) m) (g (s m) m)) (h m))) →
    (m : Modes) (b : Bool) (x : A) → t m ≡ b → s m ≡ x → cond b (f x m) (g x m) ≡ h m
by_both {A} t s f g h p m b x e q =
    subst (λ (x : A). cond b (f x m) (g x m) ≡ h m) q (agree_cases t (λ m. f (s m) m) (λ m. g (s m) m) h p m b e)

pub overspeed_begun : (flag : Bool) (m : Modes) (b x : Bool) → holds_altitude m.vertical ≡ b → flag ≡ x →
    cond b m (cond x m (to_vertical Vertical.Flc m)) ≡ overspeed flag m
unfolding engaged armed put disarm drop clear engage overspeed
overspeed_begun false = by_both _ _ _ _ (overspeed false) tt
overspeed_begun true = by_both _ _ _ _ (overspeed true) tt

pub flc_switched : (flag : Bool) (m : Modes) (b x : Bool) → eqb (vertical_number m.vertical) 3 ≡ b → flag ≡ x →
    cond b (cond x m (with_vertical Vertical.Pitch m)) (to_vertical Vertical.Flc m) ≡ switch_flc flag m
unfolding engaged armed put disarm drop clear engage switch switch_flc
flc_switched false = by_both _ _ _ _ (switch_flc false) tt
flc_switched true = by_both _ _ _ _ (switch_flc true) tt

pub vappr_captured : (flag : Bool) (m : Modes) (b x : Bool) → eqb (lateral_number m.lateral) 4 ≡ b → (m.vappr_armed && not flag) ≡ x →
    cond b (cond x (with_vappr_armed false (with_vertical Vertical.Vappr m)) m) m ≡ capture_vappr flag m
unfolding engaged armed put disarm drop clear engage capture_vappr
vappr_captured false = by_both _ _ _ _ (capture_vappr false) tt
vappr_captured true = by_both _ _ _ _ (capture_vappr true) tt

pub nav_switched : (m : Modes) (b : Bool) (x : ArmedLateral) → eqb (lateral_number m.lateral) 3 ≡ b → m.armed ≡ x →
    cond b (clear NAV m) (cond (arms_nav x) (clear NAV m) (with_armed ArmedLateral.Nav (cond (arms_lappr x) (clear LAPPR m) m))) ≡ switch_nav m
unfolding engaged armed put disarm drop clear engage cleared arm clear_armed switch_nav
nav_switched = by_both _ _ _ _ switch_nav tt

pub appr_switched : (m : Modes) (b x : Bool) → eqb (lateral_number m.lateral) 4 ≡ b → arms_lappr m.armed ≡ x →
    cond b (clear LAPPR m) (cond x (clear LAPPR m) (with_vappr_armed true (with_armed ArmedLateral.Lappr m))) ≡ switch_appr m
unfolding engaged armed put disarm drop clear engage cleared arm switch_appr
appr_switched = by_both _ _ _ _ switch_appr tt

-- where a switch clears the mode, whether it was engaged or armed

cond_same : {A : Type 0} (b : Bool) (x : A) → cond b x x ≡ x
cond_same false x = refl
cond_same true x = refl

pub nav_switched_off : (m : Modes) → (m.lateral ≡ Lateral.Nav) ⊎ (m.armed ≡ ArmedLateral.Nav) → clear NAV m ≡ switch_nav m
nav_switched_off m (inl e) = nav_switched m _ _ (lateral_is e) refl
nav_switched_off m (inr e) = subst (λ (n : Modes). n ≡ switch_nav m) (cond_same (eqb (lateral_number m.lateral) 3) (clear NAV m)) (nav_switched m _ _ refl e)

pub lappr_switched_off : (m : Modes) → (m.lateral ≡ Lateral.Lappr) ⊎ (m.armed ≡ ArmedLateral.Lappr) → clear LAPPR m ≡ switch_appr m
lappr_switched_off m (inl e) = appr_switched m _ _ (lateral_is e) refl
lappr_switched_off m (inr e) = subst (λ (n : Modes). n ≡ switch_appr m) (cond_same (eqb (lateral_number m.lateral) 4) (clear LAPPR m)) (appr_switched m _ _ refl (ap arms_lappr e))
