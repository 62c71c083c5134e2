-- Sound benches stay sound: the bench of every start is sound, and of a sound bench every call, accepted or refused, makes a sound one.
-- The laws that a side shows are within 0 to 5 and 0 to 8, and 0 exactly where its set is Off. Document 01, 'Who can be turned away' and 'Display'. Assumes nothing.
use mathlib.Core.Path.{◌≡◌, refl, sym, ap}
use mathlib.Core.Bool.{Bool, true, false, cond, ◌&&◌}
use Prim.Native.Nat.{ℕ, ◌≤◌}
use native.Mathlib.Omega.{arith}
use lib.Dec.{T, leb, leb→le, eqb}
use lib.IntN.{ℤ}
use Rattle.std.specs.Prelude.{Result, Ok, Err}
use Rattle.refusals.specs.declared.Refusal.{Refusal}
use Rattle.refusals.specs.Refusals.{result_map}
use Rattle.refusals.proofs.Choices.{by_cond, either}
use Rattle.sides.specs.declared.Side.{Side}
use Rattle.sides.specs.declared.Pair.{Pair}
use Rattle.sides.specs.Sides.{other, side_of, at, with_at, Both}
use Rattle.sides.proofs.Laws.{of_both}
use Rattle.modes.specs.declared.Modes.{Modes}
use Rattle.modes.specs.declared.ModeSet.{ModeSet}
use Rattle.modes.specs.declared.Event.{Event}
use Rattle.modes.specs.Finite.{Finite, every, all}
use Rattle.modes.specs.Numbers.{lateral_number, vertical_number, lateral_law, vertical_law}
use Rattle.modes.specs.Events.{event_at}
use Rattle.modes.proofs.Finite.{both_left, both_right}
use Rattle.modes.proofs.Finite as finite
use Rattle.modes.proofs.Every.{laterals, verticals}
use Rattle.feed.specs.declared.Reading.{Reading}
use Rattle.feed.specs.Readings.{reading_verdict}
use Rattle.feed.proofs.Stored.{stored_sound}
use Rattle.channels.specs.declared.Channel.{Channel}
use Rattle.channels.specs.declared.Inputs.{Inputs}
use Rattle.channels.specs.declared.knobs.Knob.{Knob}
use Rattle.channels.specs.Rules.{after_event, after_refresh}
use Rattle.channels.specs.Turns.{knob_of, after_turn}
use Rattle.channels.proofs.Sound.{ChannelIn, event_in, refresh_in, taken_in, turn_in}
use Rattle.bench.specs.declared.Bench.{Bench}
use Rattle.bench.specs.declared.call.Call.{Call}
use Rattle.bench.specs.Acting.{acts, on_acting}
use Rattle.bench.specs.Independent.{both_approach, begun, ended}
use Rattle.bench.specs.Sound.{sound}
use Rattle.bench.proofs.SoundParts.{PartsIn, parts, whole}
use Rattle.bench.proofs.Independent.{ended_holds}
use Rattle.bench.proofs.StartLaws.{start_sound}
use Rattle.rules.specs.Steps.{shared_after, fd_after, first_step, three_steps}
use Rattle.rules.specs.Turns.{counted, turned}
use Rattle.rules.specs.Sends.{sent, side_refreshed, refreshed}
use Rattle.rules.specs.Readings.{received}
use Rattle.rules.proofs.ByEvent.{by_event}
use Rattle.rules.specs.Calls.{Deed, act, turn, keep, send, refresh, show, word_event, asked, granted, done, left_by, next}
use Rattle.soundness.specs.Kept.{KeepsSound, LawsInRange}

-- ---- what the calls are made of

-- a sound channel may take a side's place in a pair
put_in : (s : Side) (c : Channel) (p : Pair Channel) → ChannelIn c → Both ChannelIn p → Both ChannelIn (with_at s c p)
put_in Side.Left c p k h = record { left = k; right = h.right }
put_in Side.Right c p k h = record { left = h.left; right = k }

-- a rule that keeps a channel sound keeps the sides sound where it is made on those that act
pub acting_in : (rule : Inputs → Channel → Channel) → ((i : Inputs) (c : Channel) → ChannelIn c → ChannelIn (rule i c)) → (flag : Bool) (b : Bench) → PartsIn b → PartsIn (on_acting rule flag b)
acting_in rule k flag b h = record {
  pf = h.pf;
  sides = record { left = either ChannelIn _ _ _ (k _ _ h.sides.left) h.sides.left; right = either ChannelIn _ _ _ (k _ _ h.sides.right) h.sides.right };
  inboxes = h.inboxes;
  readings = h.readings;
}

-- PF stays 0 or 1, and the first step leaves sets, references, inboxes and readings as they are
first_in : (e : Event) (b : Bench) → PartsIn b → PartsIn (first_step e b)
unfolding first_step shared_after
first_in e b h = record {
  pf = either (λ (n : ℕ). leb n 1 ≡ true) _ _ _ (either (λ (n : ℕ). leb n 1 ≡ true) (eqb b.shared.pf 0) 1 0 refl refl) h.pf;
  sides = record {
    left = record { set = h.sides.left.set; references = h.sides.left.references };
    right = record { set = h.sides.right.set; references = h.sides.right.references };
  };
  inboxes = h.inboxes;
  readings = h.readings;
}

three_in : (e : Event) (b : Bench) → PartsIn b → PartsIn (three_steps e b)
unfolding three_steps
three_in e b h = acting_in (after_event e) (event_in e) b.shared.overspeed (first_step e b) (first_in e b h)

-- operation on or off is none of these parts
begun_in : (b : Bench) → PartsIn b → PartsIn (begun b)
unfolding begun
begun_in b h = either PartsIn _ _ _ (record { pf = h.pf; sides = h.sides; inboxes = h.inboxes; readings = h.readings }) h

ended_in : (b : Bench) → PartsIn b → PartsIn (ended b)
unfolding ended
ended_in b h = record { pf = h.pf; sides = h.sides; inboxes = h.inboxes; readings = h.readings }

turned_in : (k : Knob) (n : ℕ) (b : Bench) → PartsIn b → PartsIn (turned k n b)
unfolding turned
turned_in k n b h =
    let x : PartsIn (counted k n b) = record { pf = h.pf; sides = h.sides; inboxes = h.inboxes; readings = h.readings } in
    either PartsIn _ _ _ x (acting_in (after_turn k _) (turn_in k _) b.shared.overspeed _ x)

sent_in : (s : Side) (b : Bench) → PartsIn b → PartsIn (sent s b)
sent_in s b h = record { pf = h.pf; sides = h.sides; inboxes = put_in (other s) _ b.inboxes (of_both h.sides s) h.inboxes; readings = h.readings }

refreshed_in : (s : Side) (b : Bench) → PartsIn b → PartsIn (refreshed s b)
refreshed_in s b h =
    let next : ChannelIn (side_refreshed b s) = either ChannelIn (acts b s) _ _ (refresh_in _ _ (of_both h.sides s)) (taken_in _ (at s b.sides) (of_both h.inboxes s)) in
    record { pf = h.pf; sides = put_in s _ b.sides next h.sides; inboxes = h.inboxes; readings = h.readings }

received_in : (r : Reading) (z : ℤ) (b : Bench) → reading_verdict r ≡ Ok z → PartsIn b → PartsIn (received r z b)
received_in r z b e h = record { pf = h.pf; sides = h.sides; inboxes = h.inboxes; readings = stored_sound r z b.readings b.wholes e h.readings }

-- ---- the calls

-- P holds of what is asked for, if it is not refused
abbrev pub IfOk : (Deed → Type 0) → Result Deed Refusal → Type 0
IfOk P (Ok d) = P d
IfOk P (Err refusal) = Unit {0}

-- as of whatever its argument named, where it holds of all of these
pub named : (P : Deed → Type 0) {T : Type 0} (f : T → Deed) → ((x : T) → P (f x)) → (r : Result T Refusal) → IfOk P (result_map f r)
named P f k (Ok x) = k x
named P f k (Err refusal) = tt

-- a reading that is to be kept is one that was accepted, with its whole value
abbrev Judged : Deed → Type 0
Judged (act n) = Unit {0}
Judged (turn k n) = Unit {0}
Judged (keep r z) = reading_verdict r ≡ Ok z
Judged (send s) = Unit {0}
Judged (refresh s) = Unit {0}
Judged (show s) = Unit {0}

asked_judged : (c : Call) → IfOk Judged (asked c)
asked_judged (Call.Event word) = named Judged act (λ n. tt) (word_event word)
asked_judged (Call.Turn knob n) = named Judged (λ k. turn k n) (λ k. tt) (knob_of knob)
asked_judged (Call.Reading r) = go (reading_verdict r) refl
  where
    go : (v : Result ℤ Refusal) → reading_verdict r ≡ v → IfOk Judged (result_map (keep r) v)
    go (Ok z) e = e
    go (Err refusal) e = tt
asked_judged (Call.Send s) = named Judged send (λ s. tt) (side_of s)
asked_judged (Call.Refresh s) = named Judged refresh (λ s. tt) (side_of s)
asked_judged (Call.Display s) = named Judged show (λ s. tt) (side_of s)

-- what an accepted call does, in its parts: independent operation is looked at afterwards
done_in : (d : Deed) (b : Bench) → Judged d → PartsIn b → PartsIn (done d b)
done_in (act n) b j h = by_event PartsIn (event_at n) b (λ e. h) (λ e. begun_in b h) (three_in (event_at n) b h)
done_in (turn k n) b j h = turned_in k n b h
done_in (keep r z) b j h = received_in r z b j h
done_in (send s) b j h = sent_in s b h
done_in (refresh s) b j h = refreshed_in s b h
done_in (show s) b j h = h

-- a call hands back what it makes of the bench, or the bench as it came
left_sound : (b : Bench) (r : Result Deed Refusal) → IfOk Judged r → sound b ≡ true → sound (left_by b r) ≡ true
left_sound b (Ok d) j h = whole _ (ended_in _ (done_in d b j (parts b h))) (ended_holds (done d b))
left_sound b (Err refusal) j h = h

-- so a call whose bench was judged leaves a sound one
pub asked_sound : (b : Bench) (c : Call) → sound b ≡ true → sound (left_by b (asked c)) ≡ true
asked_sound b c = left_sound b (asked c) (asked_judged c)

-- the same as a premise of what a function leaves
pub left_is_sound : (b x : Bench) (c : Call) → x ≡ left_by b (asked c) → sound b ≡ true → sound x ≡ true
left_is_sound b x c e h = rw e (asked_sound b c h)

pub next_sound : (b : Bench) (c : Call) → sound b ≡ true → sound (next b c) ≡ true
unfolding next granted
next_sound b c h = rw h (asked_sound b c h)

pub keeps_sound : KeepsSound
keeps_sound = record { start = start_sound; call = next_sound }

-- ---- the laws

-- a number of each value of a small type, computed to be from 1 to high at all of them
number_in : {A : Type 0} (F : Finite A) (f : A → ℕ) (high : ℕ) → T (every (λ x. leb 1 (f x) && leb (f x) high) (all F)) → (x : A) → (1 ≤ f x) × (f x ≤ high)
number_in F f high t x =
    let k = finite.at F (λ x. leb 1 (f x) && leb (f x) high) t x in
    (leb→le 1 (f x) (both_left (leb 1 (f x)) (leb (f x) high) k), leb→le (f x) high (both_right (leb 1 (f x)) (leb (f x) high) k))

-- an On set has laws 1 to 5 and 1 to 8
pub record OnLaws (m : Modes) : Type 0 where
  pub lateral : (1 ≤ lateral_law (ModeSet.On m)) × (lateral_law (ModeSet.On m) ≤ 5)
  pub vertical : (1 ≤ vertical_law (ModeSet.On m)) × (vertical_law (ModeSet.On m) ≤ 8)

pub on_laws : (m : Modes) → OnLaws m
on_laws m = record { lateral = number_in laterals lateral_number 5 tt m.lateral; vertical = number_in verticals vertical_number 8 tt m.vertical }

-- the laws of any set
pub laws_in_range : (s : ModeSet) → LawsInRange s
laws_in_range ModeSet.Off = record { lateral = omega arith; vertical = omega arith; lateral_off = (λ e. refl, λ e. refl); vertical_off = (λ e. refl, λ e. refl) }
laws_in_range (ModeSet.On m) =
    let k = on_laws m in
    record { lateral = omega arith; vertical = omega arith; lateral_off = (λ e. absurd (omega arith), ap lateral_law); vertical_off = (λ e. absurd (omega arith), ap vertical_law) }
