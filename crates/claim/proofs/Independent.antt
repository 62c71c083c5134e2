-- The laws of independent operation. A turn leaves the sets of two sides that have the approach pair engaged as they are; the rest is told by what one call does.
-- Assumes nothing.
use mathlib.Core.Path.{◌≡◌, refl, sym, ◌∙◌}
use mathlib.Core.Bool.{Bool, true, false, not, cond, ◌&&◌, false≢true}
use Prim.Native.Nat.{ℕ}
use borrow.Author.Tests.{not-true}
use lib.Dec.{eqb}
use lib.IntN.{ℤ}
use lib.Ieee.Bits.{is_true}
use lib.Count.{count_trailing_zeros}
use Rattle.std.specs.Prelude.{Result, Ok, Err}
use Rattle.refusals.specs.declared.Refusal.{Refusal}
use Rattle.refusals.specs.Refusals.{result_map}
use Rattle.refusals.proofs.Choices.{by_cond, either, and_left, and_right, and_both}
use Rattle.sides.specs.declared.Side.{Side}
use Rattle.sides.specs.Sides.{at}
use Rattle.sides.proofs.Laws.{by_side}
use Rattle.modes.specs.declared.ModeSet.{ModeSet}
use Rattle.modes.specs.Sets.{ALTSEL, LAPPR, implies, engaged, engaged_in, approach_engaged}
use Rattle.modes.proofs.Every.{at_sets}
use Rattle.channels.specs.declared.Channel.{Channel}
use Rattle.channels.specs.declared.Inputs.{Inputs}
use Rattle.channels.specs.declared.knobs.Knob.{Knob}
use Rattle.channels.specs.Turns.{knob_of, reference_moved, wheel_turned, altitude_turned, heading_turned, after_turn}
use Rattle.bench.specs.declared.Bench.{Bench}
use Rattle.bench.specs.declared.call.Call.{Call}
use Rattle.bench.specs.Counts.{count_of}
use Rattle.bench.specs.Acting.{acts, on_acting}
use Rattle.bench.specs.Independent.{both_approach, independent_sound, with_operation, begun, ended}
use Rattle.bench.specs.Sound.{sound}
use Rattle.bench.proofs.SoundParts.{independent_part}
use Rattle.bench.proofs.Independent.{same_operation, sound_off, sound_stays}
use Rattle.rules.specs.Steps.{acted}
use Rattle.rules.specs.Turns.{counted, turned}
use Rattle.rules.specs.Calls.{Deed, act, turn, keep, send, refresh, show, word_event, asked, granted, done, left_by, next}
use Rattle.calls.specs.Answers.{event_answer}
use Rattle.claim.specs.Lists.{accepted_for, is_act, transfers}
use Rattle.claim.specs.Independent.{IndependentLaws}
use Rattle.claim.proofs.OneCall.{next_is, acted_transfer, step}
use Rattle.claim.proofs.Lists.{never_on}
use Rattle.claim.proofs.Shows.{side_approach}

-- ---- a turn of a knob

-- VAPPR is the engaged vertical mode, so that ALTSEL is not
not_altsel : (s : ModeSet) → approach_engaged s ≡ true → engaged_in ALTSEL s ≡ false
unfolding engaged
not_altsel s h = not-true _ (is_true _ (rw h at (at_sets (λ s. implies (approach_engaged s) (not (engaged_in ALTSEL s))) tt s)))

-- in VAPPR the wheel does nothing, and the altitude knob engages no PITCH: a side with the pair keeps its set
set_kept : (k : Knob) (r : ℤ) (i : Inputs) (c : Channel) → approach_engaged c.set ≡ true → (after_turn k r i c).set ≡ c.set
unfolding after_turn wheel_turned altitude_turned reference_moved heading_turned
set_kept Knob.Wheel r i c h = rw (and_right (engaged_in LAPPR c.set) _ h) (search (either (λ (x : Channel). x.set ≡ c.set)) depth 9)
set_kept Knob.Altitude r i c h = rw (not_altsel c.set h)
set_kept Knob.Speed r i c h = refl
set_kept Knob.Heading r i c h = refl

-- so where both sides had the pair, both keep their sets
acting_kept : (rule : Inputs → Channel → Channel) → ((i : Inputs) (c : Channel) → approach_engaged c.set ≡ true → (rule i c).set ≡ c.set)
    → (flag : Bool) (b : Bench) → ((s : Side) → approach_engaged (at s b.sides).set ≡ true) → (s : Side) → (at s (on_acting rule flag b).sides).set ≡ (at s b.sides).set
acting_kept rule k flag b h s =
    by_side (λ s. (at s (on_acting rule flag b).sides).set ≡ (at s b.sides).set) (either (λ (x : Channel). x.set ≡ b.sides.left.set) _ _ _ (k _ _ (h Side.Left)) refl)
    (either (λ (x : Channel). x.set ≡ b.sides.right.set) _ _ _ (k _ _ (h Side.Right)) refl) s

turned_kept : (k : Knob) (n : ℕ) (b : Bench) → ((s : Side) → approach_engaged (at s b.sides).set ≡ true) → (s : Side) → (at s (turned k n b).sides).set ≡ (at s b.sides).set
unfolding turned
turned_kept k n b h s =
    either (λ (x : Bench). (at s x.sides).set ≡ (at s b.sides).set) (eqb n (count_of k b.counts)) _ _ refl (acting_kept (after_turn k _) (set_kept k _) b.shared.overspeed (counted k n b) h s)

-- and the flag is none of their sets
turned_flag : (k : Knob) (n : ℕ) (b : Bench) → (turned k n b).shared ≡ b.shared
unfolding turned
turned_flag k n b = either (λ (x : Bench). x.shared ≡ b.shared) (eqb n (count_of k b.counts)) _ _ refl refl

still_both : (k : Knob) (n : ℕ) (b : Bench) → ((s : Side) → approach_engaged (at s b.sides).set ≡ true) → both_approach (turned k n b) ≡ true
unfolding both_approach
still_both k n b h = and_both (approach_engaged (turned k n b).sides.left.set) (approach_engaged (turned k n b).sides.right.set) (rw (turned_kept k n b h Side.Left) (h Side.Left)) (rw (turned_kept k n b h Side.Right) (h Side.Right))

turn_keeps : (b : Bench) (knob n : ℕ) → sound b ≡ true → (next b (Call.Turn knob n)).shared.independent ≡ b.shared.independent
unfolding ended
turn_keeps b knob n h = rw (next_is b (Call.Turn knob n) h) (go (knob_of knob))
  where
    both : (t : Bool) → (t && true) ≡ t
    both true = refl
    both false = refl

    on : (k : Knob) (t : Bool) → b.shared.independent ≡ t → ((turned k n b).shared.independent && both_approach (turned k n b)) ≡ b.shared.independent
    on k true e = (λ i. (turned_flag k n b i).independent && still_both k n b (side_approach b h e) i) ∙ both b.shared.independent
    on k false e = (λ i. (turned_flag k n b i).independent && both_approach (turned k n b)) ∙ rw e

    go : (r : Result Knob Refusal) → (left_by b (result_map (λ k. turn k n) r)).shared.independent ≡ b.shared.independent
    go (Ok k) = on k b.shared.independent refl
    go (Err refusal) = refl

-- ---- the switch

switch_bench : (b : Bench) → sound b ≡ true → ended (begun b) ≡ with_operation (both_approach b) b
unfolding begun ended
switch_bench b h = go (both_approach b) refl
  where
    go : (t : Bool) → both_approach b ≡ t → ended (cond t (with_operation true b) b) ≡ with_operation t b
    go true e = unfold both_approach in rw e
    go false e = sound_stays b h ∙ sym (same_operation b false (sound_off b h e))

switch_law : (b : Bench) → sound b ≡ true → (event_answer b 1048576 ≡ Ok 20) × (next b (Call.Event 1048576) ≡ with_operation (both_approach b) b)
unfolding granted next acted count_trailing_zeros
switch_law b h = rw h (refl, switch_bench b h)

-- ---- a transfer

transfer_ends : (b : Bench) (c : Call) → sound b ≡ true → transfers c ≡ true → (next b c).shared.independent ≡ false
unfolding ended
transfer_ends b c h t = rw (next_is b c h) (go (asked c) t)
  where
    go : (r : Result Deed Refusal) → accepted_for (is_act 5) r ≡ true → (left_by b r).shared.independent ≡ false
    go (Ok (act n)) e = rw (acted_transfer n b e)
    go (Ok (turn k n)) e = absurd (false≢true e)
    go (Ok (keep r z)) e = absurd (false≢true e)
    go (Ok (send s)) e = absurd (false≢true e)
    go (Ok (refresh s)) e = absurd (false≢true e)
    go (Ok (show s)) e = absurd (false≢true e)
    go (Err refusal) e = absurd (false≢true e)

pub independent_laws : IndependentLaws
independent_laws = record {
  switch = switch_law;
  only_switch = λ b c h k o. (step c b h).off k o;
  never_on = λ b cs h o n. never_on cs b h o n;
  turn = turn_keeps;
  transfer = transfer_ends;
}
