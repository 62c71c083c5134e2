-- The claim over a list of calls, proved from any sound bench; starts are instances, and power-on is one of them. Assumes nothing.
use mathlib.Core.Path.{◌≡◌, refl, sym, ap, ◌∙◌}
use mathlib.Core.Bool.{true, false}
use mathlib.Core.List.{List, [], ◌∷◌, ◌++◌}
use Prim.Native.Nat.{ℕ, ◌≤◌}
use borrow.Author.Tests.{ne_eqb}
use lib.Dec.{eqb}
use lib.IntN.{ℤ, pos}
use Rattle.std.specs.Prelude.{Err}
use Rattle.refusals.specs.declared.Refusal.{Refusal}
use Rattle.sides.specs.declared.Side.{Side}
use Rattle.sides.specs.Sides.{number, other, side_of, at}
use Rattle.sides.proofs.Laws.{by_side}
use Rattle.feed.specs.Ranges.{within}
use Rattle.channels.specs.declared.Channel.{Channel}
use Rattle.bench.specs.declared.Bench.{Bench}
use Rattle.bench.specs.declared.call.Call.{Call}
use Rattle.bench.specs.Holds.{bench_at, power_on, start_speeds, started}
use Rattle.bench.specs.Sound.{sound}
use Rattle.bench.proofs.StartLaws.{at_sound, by_start}
use Rattle.calls.specs.declared.reply.Display.{Display}
use Rattle.rules.specs.Calls.{granted, next}
use Rattle.calls.specs.Answers.{reply}
use Rattle.calls.specs.Answers.{tells}
use Rattle.soundness.proofs.Kept.{next_sound}
use Rattle.claim.specs.Lists.{after, transfers, refreshes, sends, pilot_from, pilot_flying, None, OffThroughout}
use Rattle.claim.specs.Claim.{display_from, SameShown, ShowsHeld, turned_away, PassiveRule, Claim, ClaimFrom, Refused, Claims}
use Rattle.claim.proofs.OneCall.{Same, same, same_trans, refresh_stays, step, sent_inbox, refreshed_side, unsound_next}
use Rattle.claim.proofs.Shows.{display_refusal, display_shown, display_keeps, display_approach, shows_held, same_held}
use Rattle.claim.proofs.Lists.{after_append, after_sound, after_refusals, after_served, after_pilot, inbox_kept, idle, off_rest, passive_kept}

-- ---- from a sound bench

module _ (start : Bench) (sound_start : sound start ≡ true) where
  pub sound_from : (cs : List Call) → sound (after start cs) ≡ true
  sound_from cs = after_sound cs start sound_start

  pilot_from_lem : (cs : List Call) → (after start cs).shared.pf ≡ pilot_from start.shared.pf cs
  pilot_from_lem cs = after_pilot cs start sound_start

  -- a display of a side after a list shows what a channel with the same set and references holds
  shows : (cs : List Call) (s : Side) (c : Channel) → Same (at s (after start cs).sides) c → ShowsHeld c (display_from start cs s).value
  shows cs s c e = rw (display_shown (after start cs) (sound_from cs) s) (shows_held (after start cs) s c e)

  -- ---- the passive side's rule, for a side s and the calls ahead of its last refresh

  module _ (s : Side) (pre post : List Call) (off : OffThroughout (after start pre) (Call.Refresh (number s) ∷ post)) (passive : pilot_from start.shared.pf pre ≡ number s → ⊥)
      (last : None (refreshes s) post) (kept : None transfers post) where
    -- s shows what its inbox held at the refresh
    shows_inbox : ShowsHeld (at s (after start pre).inboxes) (display_from start (pre ++ (Call.Refresh (number s) ∷ post)) s).value
    shows_inbox =
        let b = after start pre in
        let h = sound_from pre in
        let flown : eqb (number s) b.shared.pf ≡ false = ne_eqb (number s) b.shared.pf (λ e. passive (sym (pilot_from_lem pre) ∙ sym e)) in
        let still : eqb (number s) (next b (Call.Refresh (number s))).shared.pf ≡ false = rw ((step (Call.Refresh (number s)) b h).pf, refresh_stays (side_of (number s))) flown in
        let holds : Same (at s (after (next b (Call.Refresh (number s))) post).sides) (at s b.inboxes) =
        same_trans (passive_kept s post (next b (Call.Refresh (number s))) (next_sound b (Call.Refresh (number s)) h) off.1 still last kept) (refreshed_side s b h (idle s b flown off.0)) in
        shows (pre ++ (Call.Refresh (number s) ∷ post)) s (at s b.inboxes) (rw (after_append pre (Call.Refresh (number s) ∷ post) start) holds)

  -- what the inbox holds: what the other side held just before its last send
  inbox_sent : (s : Side) (ahead later : List Call) → None (sends (other s)) later
      → at s (after start (ahead ++ (Call.Send (number (other s)) ∷ later))).inboxes ≡ at (other s) (after start ahead).sides
  inbox_sent s ahead later n =
      let b = after start ahead in
      let h = sound_from ahead in
      rw (after_append ahead (Call.Send (number (other s)) ∷ later) start)
      (inbox_kept s later (next b (Call.Send (number (other s)))) (next_sound b (Call.Send (number (other s))) h) n ∙ sent_inbox s b h)

  -- the rule for a split of a list, with what an unsent side shows told by the inbox at the start
  passive_from : (cs : List Call) (s : Side) (pre post : List Call) → cs ≡ pre ++ (Call.Refresh (number s) ∷ post) → OffThroughout (after start pre) (Call.Refresh (number s) ∷ post)
      → PassiveRule start (pilot_from start.shared.pf) (λ s d. ShowsHeld (at s start.inboxes) d) s pre post (display_from start cs s).value
  passive_from cs s pre post e o p r t =
      let d = (display_from start (pre ++ (Call.Refresh (number s) ∷ post)) s).value in
      let now-held = shows_inbox s pre post o p r t in
      rw e
      (record {
        sent = λ ahead later k n.
            same_held (at s (after start pre).inboxes) d _ now-held
            (shows ahead (other s) (at s (after start pre).inboxes) (same (sym (rw k (inbox_sent s ahead later n)))));
        unsent = λ n. rw (inbox_kept s pre start sound_start n) at now-held;
      })

  pub claim_from : (cs : List Call) → ClaimFrom start cs
  claim_from cs = record {
    served = after_served cs start sound_start;
    refusals = after_refusals cs start sound_start;
    pilot_side = pilot_from_lem cs;
    shown = λ s. display_refusal (after start cs) (sound_from cs) s;
    keeps = λ s. display_keeps (after start cs) (sound_from cs) s;
    both_on_approach = λ on s. display_approach (after start cs) (sound_from cs) s on;
    passive = passive_from cs;
    passive_as_ever = λ o s pre post e. passive_from cs s pre post e (off_rest pre (Call.Refresh (number s) ∷ post) start (rw e at o));
  }

-- ---- from a start

-- at the speeds that a start accepts
module _ (n : ℕ) (accepted : within start_speeds (pos n) ≡ true) where
  abbrev start : Bench
  start = bench_at (pos n)

  sound_start : sound start ≡ true
  sound_start = at_sound n accepted

  -- an inbox holds what the other side does
  inbox_start : (s : Side) → at s start.inboxes ≡ at (other s) start.sides
  unfolding bench_at
  inbox_start s = by_side (λ s. at s start.inboxes ≡ at (other s) start.sides) refl refl s

  -- so that the rule is the one told by the other side's display at the start
  of_start : (s : Side) (pre post : List Call) (d : Display)
      → PassiveRule start pilot_flying (λ s d. ShowsHeld (at s start.inboxes) d) s pre post d
      → PassiveRule start pilot_flying (λ s d. SameShown d (display_from start [] (other s)).value) s pre post d
  of_start s pre post d rule p r t =
      let shown = rule p r t in
      record {
        sent = shown.sent;
        unsent = λ n.
            same_held (at s start.inboxes) _ _ (shown.unsent n)
            (shows start sound_start [] (other s) (at s start.inboxes) (same (sym (inbox_start s))));
      }

  claim_at : (cs : List Call) → Claim start cs
  unfolding bench_at
  claim_at cs =
      let k = claim_from start sound_start cs in
      record {
        served = k.served;
        refusals = k.refusals;
        pilot_side = k.pilot_side;
        shown = k.shown;
        keeps = k.keeps;
        both_on_approach = k.both_on_approach;
        passive = λ s pre post e o. of_start s pre post _ (k.passive s pre post e o);
        passive_as_ever = λ o s pre post e. of_start s pre post _ (k.passive_as_ever o s pre post e);
      }

-- and so of every start
pub claim : (speed : ℤ) (cs : List Call) → Claim (started speed).bench cs
claim = by_start (λ (b : Bench). (cs : List Call) → Claim b cs) claim_at

pub claim_power_on : (cs : List Call) → Claim power_on cs
unfolding power_on started
claim_power_on = claim (pos 120)

-- ---- from an unsound bench

unsound_reply : (b : Bench) (c : Call) → sound b ≡ false → reply b c ≡ Err Refusal.UnsoundBench
unfolding granted
unsound_reply b c h = rw h

-- and that tells 1, with what stands beside a refusal
unsound_tells : (b : Bench) (c : Call) → sound b ≡ false → tells b c ≡ turned_away c
unfolding granted
unsound_tells b (Call.Event word) h = rw h
unsound_tells b (Call.Turn knob n) h = rw h
unsound_tells b (Call.Reading r) h = rw h
unsound_tells b (Call.Send s) h = rw h
unsound_tells b (Call.Refresh s) h = rw h
unsound_tells b (Call.Display s) h = rw h

pub refused_from : (start : Bench) → sound start ≡ false → (cs : List Call) → Refused start cs
refused_from start h [] = record { same_bench = refl; answers = refl; refusals = refl }
refused_from start h (c ∷ cs) =
    let more = refused_from start h cs in
    let stays = unsound_next start c h in
    record {
      same_bench = rw stays more.same_bench;
      answers = rw stays (cc (unsound_tells start c h, more.answers));
      refusals = rw stays (cc (unsound_reply start c h, more.refusals));
    }

pub claims : Claims
claims = record { from_start = claim; from_power_on = claim_power_on; from_sound = claim_from; from_unsound = refused_from }
