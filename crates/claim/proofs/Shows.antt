-- What a display of a sound bench shows: it meets what `Keeps` asks for, by computing over all representable sets. Assumes nothing.
use mathlib.Core.Path.{◌≡◌, refl, ap, ◌∙◌}
use mathlib.Core.Bool.{Bool, true, not, ◌&&◌, false≢true, true≢false}
use Prim.Native.Nat.{ℕ, ◌≤◌, ◌/◌, ◌%◌}
use native.Mathlib.Omega.{arith}
use borrow.Author.Tests.{eqb-true, eqb-false, eq-eqb, not-true}
use lib.Dec.{T, eqb}
use lib.Ieee.Bits.{is_true}
use Rattle.std.specs.Prelude.{Ok}
use Rattle.refusals.specs.Told.{told}
use Rattle.refusals.proofs.Choices.{and_left, and_right}
use Rattle.sides.specs.declared.Side.{Side}
use Rattle.sides.specs.Sides.{number, at}
use Rattle.sides.proofs.Laws.{by_side, of_both}
use Rattle.modes.specs.declared.Modes.{Modes}
use Rattle.modes.specs.declared.ModeSet.{ModeSet}
use Rattle.modes.specs.Every.{every_modes}
use Rattle.modes.proofs.Every.{at_modes}
use Rattle.modes.proofs.Joins.{approach_shown}
use Rattle.modes.specs.Sets.{implies, engaged, armed, cleared, once, coherent, coherent_set, approach_engaged, is_off}
use Rattle.modes.specs.Numbers.{lateral_number, vertical_number, lateral_law, vertical_law, armed_sum}
use Rattle.channels.specs.declared.Channel.{Channel}
use Rattle.channels.specs.declared.references.References.{References}
use Rattle.bench.specs.declared.Bench.{Bench}
use Rattle.bench.specs.Sound.{sound}
use Rattle.calls.specs.declared.reply.Display.{Display}
use Rattle.calls.specs.Displays.{shown, blank}
use Rattle.calls.specs.Answers.{display_answer}
use Rattle.soundness.proofs.Kept.{on_laws}
use Rattle.bench.specs.Independent.{both_approach, independent_sound}
use Rattle.bench.proofs.SoundParts.{parts, independent_part}
use Rattle.claim.specs.Claim.{Keeps, SameShown, ShowsHeld}
use Rattle.claim.proofs.OneCall.{Same, side_named}

-- ---- the numbers of an On set

abbrev lateral_of : Modes → ℕ
lateral_of m = lateral_number m.lateral

abbrev vertical_of : Modes → ℕ
vertical_of m = vertical_number m.vertical

abbrev arms : ℕ → Modes → Bool
arms n m = eqb (armed_sum (ModeSet.On m) / n % 2) 1

-- in every coherent set q holds wherever p does, if it computes so over all sets
whenever : (p q : Modes → Bool) → T (every_modes (λ m. implies (coherent m) (implies (p m) (q m))))
    → (m : Modes) → coherent m ≡ true → p m ≡ true → q m ≡ true
whenever p q t m h k = is_true _ (rw (h, k) at (at_modes (λ m. implies (coherent m) (implies (p m) (q m))) t m))

-- the mode whose law is k is not armed by its number n while that law is shown
never : (law : Modes → ℕ) (k n : ℕ) → T (every_modes (λ m. implies (coherent m) (implies (eqb (law m) k) (not (arms n m)))))
    → (m : Modes) → coherent m ≡ true → law m ≡ k → armed_sum (ModeSet.On m) / n % 2 ≡ 1 → ⊥
never law k n t m h e = eqb-false _ 1 (not-true _ (whenever (λ m. eqb (law m) k) (λ m. not (arms n m)) t m h (eq-eqb (law m) k e)))

-- what a display shows of a coherent set keeps the rules
keeps_set : (set : ModeSet) (fd : Bool) (r : References) (n : ℕ) → coherent_set set ≡ true
    → Keeps (not (is_off set)) (record { fd = fd; lateral = lateral_law set; vertical = vertical_law set; armed = armed_sum set; references = r; lamps = n })
unfolding coherent once cleared armed engaged armed_sum
keeps_set ModeSet.Off fd r n h = record {
  lateral = λ e. absurd (false≢true e);
  vertical = λ e. absurd (false≢true e);
  off = λ e. (refl, refl, refl);
  nav_once = λ e. omega arith;
  lappr_once = λ e. omega arith;
  capture_once = λ e. omega arith;
  track_once = λ e. omega arith;
  vappr_once = λ e. omega arith;
  approach = λ e. omega arith;
  approach_armed = λ e. omega arith;
}
keeps_set (ModeSet.On m) fd r n h = record {
  lateral = λ e. (on_laws m).lateral;
  vertical = λ e. (on_laws m).vertical;
  off = λ e. absurd (true≢false e);
  nav_once = never lateral_of 3 1 tt m h;
  lappr_once = never lateral_of 4 2 tt m h;
  capture_once = never vertical_of 5 4 tt m h;
  track_once = never vertical_of 6 4 tt m h;
  vappr_once = never vertical_of 7 8 tt m h;
  approach = λ e. eqb-true _ _ (whenever (λ m. eqb (vertical_of m) 7) (λ m. eqb (lateral_of m) 4) tt m h (eq-eqb _ _ e));
  approach_armed = λ e. eqb-true _ _ (whenever (arms 2) (arms 8) tt m h (eq-eqb _ _ e));
}

-- ---- the display of a sound bench

module _ (b : Bench) (h : sound b ≡ true) (s : Side) where
  pub display_shown : display_answer b (number s) ≡ Ok (shown b s)
  display_shown = rw (h, side_named s)

  pub display_refusal : (told blank (display_answer b (number s))).refusal ≡ 0
  display_refusal = rw display_shown

  pub display_keeps : Keeps (not (is_off (at s b.sides).set)) (told blank (display_answer b (number s))).value
  unfolding shown
  display_keeps = rw display_shown (keeps_set (at s b.sides).set _ _ _ (of_both (parts b h).sides s).set)

-- with independent operation on, a side shows laws 4 and 7
approach_laws : (set : ModeSet) → approach_engaged set ≡ true → (lateral_law set ≡ 4) × (vertical_law set ≡ 7)
approach_laws set h = let k = approach_shown set ∙ h in (eqb-true _ 4 (and_left _ _ k), eqb-true _ 7 (and_right (eqb (lateral_law set) 4) _ k))

pub side_approach : (b : Bench) → sound b ≡ true → b.shared.independent ≡ true → (s : Side) → approach_engaged (at s b.sides).set ≡ true
unfolding independent_sound both_approach
side_approach b h on s =
    let both : (approach_engaged b.sides.left.set && approach_engaged b.sides.right.set) ≡ true = rw on at (independent_part b h) in
    by_side (λ s. approach_engaged (at s b.sides).set ≡ true) (and_left _ _ both) (and_right (approach_engaged b.sides.left.set) _ both) s

pub display_approach : (b : Bench) → sound b ≡ true → (s : Side) → b.shared.independent ≡ true
    → ((told blank (display_answer b (number s))).value.lateral ≡ 4) × ((told blank (display_answer b (number s))).value.vertical ≡ 7)
unfolding shown
display_approach b h s on = rw (display_shown b h s) (approach_laws (at s b.sides).set (side_approach b h on s))

-- a side shows what a channel with the same set and references holds
pub shows_held : (x : Bench) (s : Side) (c : Channel) → Same (at s x.sides) c → ShowsHeld c (shown x s)
unfolding shown
shows_held x s c e = record { lateral = ap lateral_law e.set; vertical = ap vertical_law e.set; armed = ap armed_sum e.set; references = e.references }

-- two displays that show the same channel show the same
pub same_held : (c : Channel) (x y : Display) → ShowsHeld c x → ShowsHeld c y → SameShown x y
same_held c x y p q = search
