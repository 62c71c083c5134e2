-- What one call does: its refusal, and what becomes of PF, of the inboxes, of a side that does not act and of independent operation. Assumes nothing.
use mathlib.Core.Path.{◌≡◌, refl, sym, ap, ◌∙◌}
use mathlib.Core.Bool.{Bool, true, false, not, cond, ◌&&◌, false≢true}
use Prim.Native.Nat.{ℕ, zero, suc, ◌≤◌, ◌<◌}
use native.Mathlib.Omega.{arith}
use borrow.Author.Tests.{eqb-true, eqb-false, ne_eqb, eq-eqb, not-true}
use lib.Dec.{eqb}
use lib.Ieee.Bits.{is_true}
use lib.ListN.{drop}
use lib.IntN.{ℤ}
use Rattle.std.specs.Prelude.{Result, Ok, Err}
use Rattle.std.proofs.lemmas.Bool.Decides.{nat_tests}
use Rattle.refusals.specs.declared.Refusal.{Refusal}
use Rattle.refusals.specs.Refusals.{refusal_number, result_map}
use Rattle.refusals.specs.Told.{told}
use Rattle.refusals.proofs.Choices.{by_cond, either}
use Rattle.sides.specs.declared.Side.{Side}
use Rattle.sides.specs.declared.Pair.{Pair}
use Rattle.sides.specs.Sides.{number, other, side_of, at, with_at}
use Rattle.sides.proofs.Laws.{by_side, side_laws, pair_laws}
use Rattle.rounding.specs.declared.NoWhole.{NoWhole}
use Rattle.modes.specs.declared.Event.{Event}
use Rattle.modes.specs.Events.{numbered, event_at, event_number, is_none, is_independent, line_of}
use Rattle.modes.proofs.Finite.{every_pick, pick_past}
use Rattle.modes.proofs.Laws.{mode_laws}
use Rattle.feed.specs.declared.ranges.Range.{Range}
use Rattle.feed.specs.Ranges.{within, range_of}
use Rattle.feed.specs.Readings.{kind_of, whole_reading, judged, reading_verdict}
use Rattle.channels.specs.declared.Channel.{Channel}
use Rattle.channels.specs.declared.knobs.Knob.{Knob}
use Rattle.channels.specs.Rules.{after_event, taken}
use Rattle.channels.specs.Turns.{knob_of, after_turn}
use Rattle.bench.specs.declared.Bench.{Bench}
use Rattle.bench.specs.declared.call.Call.{Call}
use Rattle.bench.specs.Counts.{count_of}
use Rattle.bench.specs.Acting.{other_side, acts}
use Rattle.bench.specs.Independent.{both_approach, begun, ended}
use Rattle.bench.specs.Sound.{sound}
use Rattle.bench.proofs.Laws.{acting_laws}
use Rattle.rules.specs.Steps.{shared_after, first_step, three_steps, acted}
use Rattle.rules.specs.Turns.{counted, turned}
use Rattle.rules.specs.Sends.{sent, side_refreshed, refreshed}
use Rattle.rules.proofs.ByEvent.{by_event}
use Rattle.rules.specs.Calls.{Deed, act, turn, keep, send, refresh, show, word_event, asked, granted, done, left_by, next}
use Rattle.calls.specs.Answers.{replied}
use Rattle.calls.specs.Answers.{tells}
use Rattle.claim.specs.Lists.{accepted_for, is_act, is_send, is_refresh, transfers, refreshes, sends, asks_independent}

-- ---- the same set and references: FD stays out

pub record Same (x y : Channel) : Type 0 where
  pub set : x.set ≡ y.set
  pub references : x.references ≡ y.references

pub same : {x y : Channel} → x ≡ y → Same x y
same e = search

pub same_trans : {x y z : Channel} → Same x y → Same y z → Same x z
same_trans p q = search

-- ---- refusals

-- on a sound bench a call is refused for its own arguments only
pub granted_is : (b : Bench) (c : Call) → sound b ≡ true → granted b c ≡ asked c
unfolding granted
granted_is b c h = rw h

-- an answer tells the number of what it hangs on
told_number : {S T : Type 0} (beside : T) (f : S → T) (r : Result S Refusal) → (told beside (result_map f r)).refusal ≡ refusal_number r
told_number beside f (Ok x) = refl
told_number beside f (Err refusal) = refl

pub own_refusal : (b : Bench) (c : Call) → sound b ≡ true → (tells b c).refusal ≡ refusal_number (asked c)
own_refusal b c h = told_number _ (replied b) (granted b c) ∙ ap refusal_number (granted_is b c h)

-- and does what it asks for if it is accepted, and nothing if not
pub next_is : (b : Bench) (c : Call) → sound b ≡ true → next b c ≡ left_by b (asked c)
unfolding next
next_is b c h = ap (left_by b) (granted_is b c h)

abbrev Not1 : {T : Type 0} → Result T Refusal → Type 0
Not1 r = refusal_number r ≡ 1 → ⊥

-- what is made of an accepted value is refused as that is
mapped_not_1 : {S T : Type 0} (f : S → T) (r : Result S Refusal) → Not1 r → Not1 (result_map f r)
mapped_not_1 f (Ok x) h = h
mapped_not_1 f (Err refusal) h = h

judged_not_1 : (g : Range) (w : Result ℤ NoWhole) → Not1 (judged g w)
judged_not_1 g (Err NoWhole.NotFinite) = λ e. omega arith
judged_not_1 g (Err NoWhole.Beyond) = λ e. omega arith
judged_not_1 g (Ok z) = either (λ (x : Result ℤ Refusal). Not1 x) (within g z) _ _ (λ e. omega arith) (λ e. omega arith)

side_not_1 : (s : ℕ) → Not1 (side_of s)
side_not_1 s = λ e. grind (arith, nat_tests)

-- no call's own arguments give refusal 1
pub own_not_1 : (c : Call) → Not1 (asked c)
unfolding reading_verdict
own_not_1 (Call.Event word) = mapped_not_1 act (word_event word) (λ e. grind (arith, nat_tests))
own_not_1 (Call.Turn knob n) = mapped_not_1 (λ k. turn k n) (knob_of knob) (λ e. grind (arith, nat_tests))
own_not_1 (Call.Reading r) = mapped_not_1 (keep r) _ (judged_not_1 (range_of (kind_of r)) (whole_reading r))
own_not_1 (Call.Send s) = mapped_not_1 send _ (side_not_1 s)
own_not_1 (Call.Refresh s) = mapped_not_1 refresh _ (side_not_1 s)
own_not_1 (Call.Display s) = mapped_not_1 show _ (side_not_1 s)

-- ---- sides

-- the number of a side names it
pub side_named : (s : Side) → side_of (number s) ≡ Ok s
side_named s = (side_laws.named (number s) s).1 refl

-- two sides of the same number are the same
pub same_number : (s t : Side) → eqb (number s) (number t) ≡ true → s ≡ t
same_number Side.Left Side.Left e = refl
same_number Side.Left Side.Right e = absurd (false≢true e)
same_number Side.Right Side.Left e = absurd (false≢true e)
same_number Side.Right Side.Right e = refl

-- what is put in the place of one side leaves that of another
pub put_elsewhere : {T : Type 0} (s t : Side) (x : T) (p : Pair T) → eqb (number t) (number s) ≡ false → at s (with_at t x p) ≡ at s p
put_elsewhere Side.Left Side.Left x p e = cc
put_elsewhere Side.Left Side.Right x p e = refl
put_elsewhere Side.Right Side.Left x p e = refl
put_elsewhere Side.Right Side.Right x p e = cc

-- and two sides are each other's other, or each is itself
put_other : {T : Type 0} (s t : Side) (x : T) (p : Pair T) → eqb (number t) (number (other s)) ≡ false → at s (with_at (other t) x p) ≡ at s p
put_other Side.Left Side.Left x p e = refl
put_other Side.Left Side.Right x p e = cc
put_other Side.Right Side.Left x p e = cc
put_other Side.Right Side.Right x p e = refl

-- ---- events

-- an event number moves PF exactly if it is 5
moves_pf : (n : ℕ) → (line_of (event_at n)).transfers ≡ eqb n 5
moves_pf zero = refl
moves_pf (suc zero) = refl
moves_pf (suc (suc zero)) = refl
moves_pf (suc (suc (suc zero))) = refl
moves_pf (suc (suc (suc (suc zero)))) = refl
moves_pf (suc (suc (suc (suc (suc zero))))) = refl
moves_pf (suc (suc (suc (suc (suc (suc n)))))) =
    rw (ne_eqb (suc (suc (suc (suc (suc (suc n)))))) 5 (λ e. omega arith))
    (not-true _ (is_true _ (every_pick (λ e. not (line_of e).transfers) Event.NoEvent (drop 6 numbered) tt tt n)))

-- the event whose number is k
numbered_is : (k : ℕ) (e : Event) → eqb (event_number e) k ≡ true → e ≡ event_at k
numbered_is k e t = sym (mode_laws.event_back e) ∙ ap event_at (eqb-true (event_number e) k t)

-- where an event goes through no steps, PF stays
none_stays : (e : Event) → is_none e ≡ true → (line_of e).transfers ≡ false
none_stays e t = rw (numbered_is 32 e t) mode_laws.none_idle.transfers

independent_stays : (e : Event) → is_independent e ≡ true → (line_of e).transfers ≡ false
independent_stays e t = rw (numbered_is 20 e t) mode_laws.independent_idle.transfers

-- and the switch of independent operation has no other number than 20
only_20 : (n : ℕ) → is_independent (event_at n) ≡ true → n ≡ 20
only_20 n t =
    let it = eqb-true (event_number (event_at n)) 20 t in
    let below : n < 21 → event_number (event_at n) ≡ n = mode_laws.number_back n in
    let past : 21 ≤ n → event_number (event_at n) ≡ 32 = λ h. ap event_number (pick_past Event.NoEvent numbered n h) in
    grind arith

-- ---- each deed: PF moves at a transfer, an inbox changes at the other side's send, a side that does not act at its refresh and at a transfer, and independent operation
-- comes on at event 20

-- what came of what was asked for, or of a refusal
pub record Step (r : Result Deed Refusal) (b x : Bench) : Type 0 where
  pub pf : x.shared.pf ≡ cond (accepted_for (is_act 5) r) (other_side b.shared.pf) b.shared.pf
  pub inboxes : (s : Side) → accepted_for (is_send (other s)) r ≡ false → at s x.inboxes ≡ at s b.inboxes
  pub passive : (s : Side) → acts b s ≡ false → accepted_for (is_refresh s) r ≡ false → accepted_for (is_act 5) r ≡ false → Same (at s x.sides) (at s b.sides)
  pub off : accepted_for (is_act 20) r ≡ false → b.shared.independent ≡ false → x.shared.independent ≡ false

-- what moves nothing
idle_step : (r : Result Deed Refusal) (b : Bench) → accepted_for (is_act 5) r ≡ false → Step r b b
idle_step r b e = record { pf = rw e; inboxes = λ s k. refl; passive = λ s p k m. same refl; off = λ k h. h }

-- an event, by its number
module _ (n : ℕ) (b : Bench) where
  abbrev e : Event
  e = event_at n

  abbrev asked_for : Result Deed Refusal
  asked_for = Ok (act n)

  -- who acts after the first step, unless it is a transfer's
  still_acts : (s : Side) → eqb n 5 ≡ false → acts (first_step e b) s ≡ acts b s
  unfolding acts first_step shared_after
  still_acts s t = rw (moves_pf n, t)

  -- the first step changes of a side its FD alone
  first_side : (s : Side) → Same (at s (first_step e b).sides) (at s b.sides)
  unfolding first_step
  first_side s = by_side (λ s. Same (at s (first_step e b).sides) (at s b.sides)) (search) (search) s

  three_step : Step asked_for b (three_steps e b)
  unfolding three_steps first_step shared_after
  three_step = record {
    pf = rw (moves_pf n);
    inboxes = λ s k. refl;
    passive = λ s p k m. same_trans (same (acting_laws.stays (after_event e) b.shared.overspeed (first_step e b) s (still_acts s m ∙ p))) (first_side s);
    off = λ k h. either (λ (x : Bool). x ≡ false) (line_of e).transfers _ _ refl h;
  }

  -- operation goes on, and all else stays
  begun_step : is_independent e ≡ true → Step asked_for b (begun b)
  unfolding begun
  begun_step t =
      let stays : eqb n 5 ≡ false = sym (moves_pf n) ∙ independent_stays e t in
      by_cond (Step asked_for b) (both_approach b) _ b
      (λ k. record { pf = rw stays; inboxes = λ s k. refl; passive = λ s p k m. same refl; off = λ k h. absurd (eqb-false n 20 k (only_20 n t)) })
      (λ k. idle_step asked_for b stays)

  act_step : Step asked_for b (acted e b)
  act_step = by_event (Step asked_for b) e b (λ t. idle_step asked_for b (sym (moves_pf n) ∙ none_stays e t)) begun_step three_step

  -- a transfer leaves independent operation off
  pub acted_transfer : eqb n 5 ≡ true → (acted e b).shared.independent ≡ false
  unfolding three_steps first_step shared_after
  acted_transfer k =
      by_event (λ (x : Bench). x.shared.independent ≡ false) e b (λ t. absurd (false≢true (sym (none_stays e t) ∙ moves_pf n ∙ k)))
      (λ t. absurd (false≢true (sym (independent_stays e t) ∙ moves_pf n ∙ k))) (rw (moves_pf n, k))

turn_step : (k : Knob) (n : ℕ) (b : Bench) → Step (Ok (turn k n)) b (turned k n b)
unfolding turned acts
turn_step k n b =
    let x = counted k n b in
    either (Step (Ok (turn k n)) b) (eqb n (count_of k b.counts)) _ _
    (record { pf = refl; inboxes = λ s k. refl; passive = λ s p k m. same refl; off = λ k h. h })
    (record {
      pf = refl;
      inboxes = λ s k. refl;
      passive = λ s p m l. same (acting_laws.stays (after_turn k _) b.shared.overspeed (counted k n b) s p);
      off = λ k h. h;
    })

-- what is asked for and done
done_step : (d : Deed) (b : Bench) → Step (Ok d) b (done d b)
done_step (act n) b = act_step n b
done_step (turn k n) b = turn_step k n b
done_step (keep r z) b = record { pf = refl; inboxes = λ s k. refl; passive = λ s p k m. same refl; off = λ k h. h }
done_step (send t) b = record { pf = refl; inboxes = λ s k. put_other s t _ b.inboxes k; passive = λ s p k m. same refl; off = λ k h. h }
done_step (refresh t) b = record { pf = refl; inboxes = λ s k. refl; passive = λ s p k m. same (put_elsewhere s t _ b.sides k); off = λ k h. h }
done_step (show t) b = idle_step (Ok (show t)) b refl

-- and what is left when independent operation was looked at
ended_step : (r : Result Deed Refusal) (b x : Bench) → Step r b x → Step r b (ended x)
unfolding ended
ended_step r b x h = record { pf = h.pf; inboxes = h.inboxes; passive = h.passive; off = λ k l. rw (h.off k l) }

left_step : (r : Result Deed Refusal) (b : Bench) → Step r b (left_by b r)
left_step (Ok d) b = ended_step (Ok d) b (done d b) (done_step d b)
left_step (Err refusal) b = idle_step (Err refusal) b refl

pub step : (c : Call) (b : Bench) → sound b ≡ true → Step (asked c) b (next b c)
step c b h = rw (next_is b c h) (left_step (asked c) b)

-- a refresh moves no PF
pub refresh_stays : (r : Result Side Refusal) → accepted_for (is_act 5) (result_map refresh r) ≡ false
refresh_stays (Ok s) = refl
refresh_stays (Err refusal) = refl

-- ---- the two calls that the passive side's rule names

-- a send of the other side puts what that side holds into the inbox
pub sent_inbox : (s : Side) (b : Bench) → sound b ≡ true → at s (next b (Call.Send (number (other s)))).inboxes ≡ at (other s) b.sides
unfolding ended
sent_inbox s b h = by_side (λ s. at s (next b (Call.Send (number (other s)))).inboxes ≡ at (other s) b.sides) (rw (next_is b (Call.Send 1) h)) (rw (next_is b (Call.Send 0) h)) s

-- a side that does not act has, after its refresh, the set and references that its inbox held
pub refreshed_side : (s : Side) (b : Bench) → sound b ≡ true → acts b s ≡ false → Same (at s (next b (Call.Refresh (number s))).sides) (at s b.inboxes)
unfolding ended
refreshed_side s b h n =
    by_side (λ s. acts b s ≡ false → Same (at s (next b (Call.Refresh (number s))).sides) (at s b.inboxes))
    (λ n. rw (next_is b (Call.Refresh 0) h, n) (record { set = refl; references = refl })) (λ n. rw (next_is b (Call.Refresh 1) h, n) (record { set = refl; references = refl })) s n

-- ---- on an unsound bench every call is refused with 1, and hands the bench back

pub unsound_next : (b : Bench) (c : Call) → sound b ≡ false → next b c ≡ b
unfolding next granted
unsound_next b c h = rw h
