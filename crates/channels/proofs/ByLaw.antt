-- Entry and turns by the numbers of the laws: a mode is newly engaged exactly where its law is shown and was not, and at most one on each axis is; a mode is engaged where its
-- law is shown. Assumes nothing.
use mathlib.Core.Path.{◌≡◌, refl, ap, ◌∙◌}
use mathlib.Core.Bool.{Bool, true, false, not, ◌&&◌, ◌||◌, cond}
use Prim.Native.Nat.{ℕ, zero, suc}
use native.Mathlib.Omega.{arith}
use borrow.Author.Tests.{ne_eqb}
use lib.Dec.{eqb, ltb}
use lib.IntN.{ℤ}
use Rattle.modes.specs.declared.ModeSet.{ModeSet}
use Rattle.modes.specs.Sets.{Mode, ROLL, PITCH, VS, FLC, ALT, ALTSEL, VAPPR, engaged, engaged_in}
use Rattle.modes.specs.Numbers.{lateral_law, vertical_law}
use Rattle.modes.proofs.Joins.{lateral_shown, vertical_shown, altsel_shown, off_shown}
use Rattle.feed.specs.declared.Wholes.{Wholes}
use Rattle.channels.specs.declared.Channel.{Channel}
use Rattle.channels.specs.declared.Inputs.{Inputs}
use Rattle.channels.specs.declared.knobs.Knob.{Knob}
use Rattle.channels.specs.declared.references.References.{References}
use Rattle.channels.specs.declared.references.Reference.{Reference}
use Rattle.channels.specs.Entry.{newly, loaded, entry}
use Rattle.channels.specs.Turns.{reference_moved, pitched, wheel_turned, altitude_moved, differ, altitude_turned, after_turn}
use Rattle.channels.specs.Laws.{TurnLaws}
use Rattle.channels.specs.Private.{lateral_entry, vertical_entry}

-- a law is shown after, and was not before
abbrev appears : ℕ → ℕ → ℕ → Bool
appears k was law = eqb law k && not (eqb was k)

-- a choice by a test and the choice by its opposite, the other way round
other_way : {A : Type 0} (t : Bool) (x y : A) → cond t x y ≡ cond (not t) y x
other_way true x y = refl
other_way false x y = refl

-- a change, made where a test holds
abbrev when : {A : Type 0} → Bool → (A → A) → A → A
when t f x = cond t (f x) x

-- a change, made where law k was not shown before
abbrev unless : {A : Type 0} → ℕ → ℕ → (A → A) → A → A
unless k was f x = cond (eqb was k) x (f x)

module _ {A : Type 0} (was : ℕ) (f : A → A) where
  -- one change, made where law 1 appears
  one_law : (law : ℕ) (x : A) → cond (eqb law 1) (unless 1 was f x) x ≡ when (appears 1 was law) f x
  one_law law x = go (eqb law 1)
    where
      go : (t : Bool) → cond t (unless 1 was f x) x ≡ when (t && not (eqb was 1)) f x
      go true = other_way (eqb was 1) x (f x)
      go false = refl

module _ {A : Type 0} (was : ℕ) (f g h k : A → A) where
  abbrev four : ℕ → A → A
  four law x = when (appears 4 was law) k (when (appears 3 was law) h (when (appears 2 was law) g (when (appears 1 was law) f x)))

  -- four changes, of which that of the law that appears is made
  four_laws : (law : ℕ) (x : A) →
      cond (eqb law 1) (unless 1 was f x) (cond (eqb law 2) (unless 2 was g x) (cond (eqb law 3) (unless 3 was h x) (cond (eqb law 4) (unless 4 was k x) x))) ≡ four law x
  four_laws zero x = refl
  four_laws (suc zero) x = other_way (eqb was 1) x (f x)
  four_laws (suc (suc zero)) x = other_way (eqb was 2) x (g x)
  four_laws (suc (suc (suc zero))) x = other_way (eqb was 3) x (h x)
  four_laws (suc (suc (suc (suc zero)))) x = other_way (eqb was 4) x (k x)
  four_laws (suc (suc (suc (suc (suc n))))) x =
      let law = suc (suc (suc (suc (suc n)))) in
      rw (ne_eqb law 1 (λ e. omega arith), ne_eqb law 2 (λ e. omega arith), ne_eqb law 3 (λ e. omega arith), ne_eqb law 4 (λ e. omega arith))

-- entry by the laws is entry by the modes
module _ (k : Wholes) (before after : ModeSet) where
  lateral_newly : (n : ℕ) (x : Mode) → ((s : ModeSet) → eqb (lateral_law s) n ≡ engaged_in x s) → appears n (lateral_law before) (lateral_law after) ≡ newly x before after
  lateral_newly n x h = λ i. h after i && not (h before i)

  vertical_newly : (n : ℕ) (x : Mode) → ((s : ModeSet) → eqb (vertical_law s) n ≡ engaged_in x s) → appears n (vertical_law before) (vertical_law after) ≡ newly x before after
  vertical_newly n x h = λ i. h after i && not (h before i)

  pub entry_by_law : (r : References)
      → vertical_entry k (vertical_law before) (vertical_law after) (lateral_entry k (lateral_law before) (lateral_law after) r) ≡ entry k before after r
  unfolding entry engaged
  entry_by_law r =
      let roll = loaded Reference.Roll k.roll in
      let pitch = loaded Reference.Pitch k.pitch in
      let vs = loaded Reference.VerticalSpeed k.vertical_speed in
      let flc = loaded Reference.Ias k.airspeed in
      let alt = loaded Reference.Held k.altitude in
      four_laws (vertical_law before) pitch vs flc alt (vertical_law after) _
      ∙ (λ i. when (vertical_newly 4 ALT (vertical_shown 4 ALT tt) i) alt
      (when (vertical_newly 3 FLC (vertical_shown 3 FLC tt) i) flc
      (when (vertical_newly 2 VS (vertical_shown 2 VS tt) i) vs
      (when (vertical_newly 1 PITCH (vertical_shown 1 PITCH tt) i) pitch
      ((one_law (lateral_law before) roll (lateral_law after) r ∙ (λ j. when (lateral_newly 1 ROLL (lateral_shown 1 ROLL tt) j) roll r)) i)))))

-- the wheel asks which law is shown
pub wheel_by_law : (r : ℤ) (i : Inputs) (c : Channel) (law : ℕ) → law ≡ vertical_law c.set
    → cond (eqb law 2) (reference_moved Reference.VerticalSpeed r c) (cond (eqb law 1) (reference_moved Reference.Pitch r c) (cond (eqb law 7 || eqb law 0) c (pitched i c)))
    ≡ after_turn Knob.Wheel r i c
unfolding after_turn wheel_turned engaged
wheel_by_law r i c law h =
    let test : (k : ℕ) → eqb law k ≡ eqb (vertical_law c.set) k = λ k. ap (λ (n : ℕ). eqb n k) h in
    λ j. cond ((test 2 ∙ vertical_shown 2 VS tt c.set) j) (reference_moved Reference.VerticalSpeed r c)
    (cond ((test 1 ∙ vertical_shown 1 PITCH tt c.set) j) (reference_moved Reference.Pitch r c)
    (cond ((test 7 ∙ vertical_shown 7 VAPPR tt c.set) j || (test 0 ∙ off_shown c.set) j) c (pitched i c)))

-- and so does the altitude knob
pub altitude_by_law : (r : ℤ) (i : Inputs) (c : Channel) (law : ℕ) → law ≡ vertical_law c.set
    → cond ((not (ltb law 5) && ltb law 7) && differ c.references.preselected (altitude_moved r c).references.preselected) (pitched i (altitude_moved r c)) (altitude_moved r c)
    ≡ after_turn Knob.Altitude r i c
unfolding after_turn altitude_turned
altitude_by_law r i c law h =
    let next = altitude_moved r c in
    let test : (not (ltb law 5) && ltb law 7) ≡ engaged_in ALTSEL c.set = ap (λ (n : ℕ). not (ltb n 5) && ltb n 7) h ∙ altsel_shown c.set in
    λ j. cond (test j && differ c.references.preselected next.references.preselected) (pitched i next) next

pub turn_laws : TurnLaws
turn_laws = record { wheel = wheel_by_law; altitude = altitude_by_law }
