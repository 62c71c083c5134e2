-- The laws of mode sets and of events: those of sets are computed over all 240 representable On sets. Assumes nothing.
use mathlib.Core.Path.{◌≡◌, refl}
use mathlib.Core.Bool.{Bool, true, ◌&&◌}
use mathlib.Core.List.{List, [], ◌∷◌}
use Prim.Native.Nat.{ℕ, zero, suc, ◌+◌, ◌<◌}
use native.Mathlib.Omega.{arith}
use lib.Dec.{T, eqb, eqb→eq}
use lib.ListN.{length}
use Rattle.modes.specs.declared.Modes.{Modes}
use Rattle.modes.specs.declared.Event.{Event}
use Rattle.modes.specs.Finite.{every, pick, all}
use Rattle.modes.specs.Every.{every_modes, count_modes}
use Rattle.modes.specs.Sets.{implies, engaged, armed, cleared, once, coherent, put, disarm, arm, drop, clear, engage}
use Rattle.modes.specs.Events.{numbered, event_number, line_of, overspeed, go_around, clear_armed, take_basic, clear_navigation, capture}
use Rattle.modes.specs.Events.{capture_vappr, track, switch, switch_nav, switch_appr, switch_flc}
use Rattle.modes.specs.Laws.{Idle, ModeLaws}
use Rattle.modes.proofs.Finite.{at, both_left, both_right}
use Rattle.modes.proofs.Every.{flags, events, at_modes, back_events}
use Rattle.modes.proofs.ByNumber.{lateral_numbers, armed_numbers, vertical_numbers}

pub coherent_sets : count_modes coherent ≡ 107
unfolding coherent once cleared armed engaged
coherent_sets = refl

pub change_coherent : (e : Event) (flag : Bool) (m : Modes) → T (implies (coherent m) (coherent ((line_of e).change flag m)))
unfolding coherent once cleared armed engaged put disarm arm drop clear engage overspeed go_around clear_armed take_basic clear_navigation capture capture_vappr track switch switch_nav switch_appr switch_flc
change_coherent e flag m =
    at_modes (λ m. implies (coherent m) (coherent ((line_of e).change flag m)))
    (at flags (λ b. every_modes (λ m. implies (coherent m) (coherent ((line_of e).change b m))))
    (at events (λ e. every (λ b. every_modes (λ m. implies (coherent m) (coherent ((line_of e).change b m)))) (all flags)) tt e) flag) m

-- the events of a list have the numbers from k on
abbrev counts : ℕ → List Event → Bool
counts k [] = true
counts k (e ∷ es) = eqb (event_number e) k && counts (suc k) es

counted : (k n : ℕ) (es : List Event) → T (counts k es) → n < length es → event_number (pick Event.NoEvent es n) ≡ k + n
counted k n [] t h = absurd (omega arith)
counted k zero (e ∷ es) t h = let same = eqb→eq (event_number e) k (both_left (eqb (event_number e) k) (counts (suc k) es) t) in omega arith
counted k (suc n) (e ∷ es) t h = let rest = counted (suc k) n es (both_right (eqb (event_number e) k) (counts (suc k) es) t) (omega arith) in omega arith

-- of both events that go through no steps
idle : Idle (line_of Event.NoEvent)
idle = record { ap = λ x. refl; flag = λ x. refl; transfers = refl; pressed = λ s. refl; asks_fd = λ x y s. refl; change = λ flag m. refl }

pub mode_laws : ModeLaws
mode_laws = record { coherent_sets = coherent_sets; change_coherent = change_coherent; event_back = back_events; number_back = λ n h. let e = counted 0 n numbered tt h in omega arith; none_idle = idle; independent_idle = idle; lateral_numbers = lateral_numbers; armed_numbers = armed_numbers; vertical_numbers = vertical_numbers }
