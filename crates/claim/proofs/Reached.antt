-- Every law is reached, independent operation comes and goes, and the premises of the passive side's rule are met, by computing with the rules. Assumes nothing.
use mathlib.Core.Path.{◌≡◌, refl, sym, ap, ◌∙◌}
use mathlib.Core.Bool.{Bool, true, false, false≢true}
use mathlib.Core.Logic.{◌⊎◌, inl, inr}
use mathlib.Core.List.{List, [], ◌∷◌, ◌++◌}
use Prim.Native.Nat.{ℕ, zero, suc, ◌≤◌}
use native.Mathlib.Omega.{arith}
use Rattle.std.specs.Prelude.{Result, Ok, Err}
use Rattle.refusals.specs.declared.Refusal.{Refusal}
use Rattle.refusals.specs.Refusals.{result_map}
use Rattle.sides.specs.declared.Side.{Side}
use Rattle.sides.specs.Sides.{number, side_of}
use Rattle.sides.proofs.Laws.{side_laws}
use Rattle.feed.specs.Readings.{reading_verdict}
use Rattle.channels.specs.Turns.{knob_of}
use Rattle.bench.specs.declared.call.Call.{Call}
use Rattle.rules.specs.Calls.{Deed, act, turn, keep, send, refresh, show, word_event}
use Rattle.claim.specs.Lists.{accepted_for, is_send, is_refresh, refreshes, sends, None}
use Rattle.claim.specs.Reached.{Lateral, Vertical, TurnsOn, Ends, Speaks, SpeaksUnsent, SpeaksAgain, Silent, Last, Reached}
use Rattle.claim.proofs.OneCall.{same_number}
use Rattle.claim.proofs.Computing.{rules}

-- ROLL, HDG, NAV, LAPPR and LGA, all on the left side
lateral : (n : ℕ) → 1 ≤ n → n ≤ 5 → Lateral n
unfolding rules
lateral zero h k = absurd (omega arith)
lateral (suc zero) h k = record { calls = Call.Event 64 ∷ []; side = Side.Left; accepted = refl; law = refl }
lateral (suc (suc zero)) h k = record { calls = Call.Event 16384 ∷ []; side = Side.Left; accepted = refl; law = refl }
lateral (suc (suc (suc zero))) h k = record { calls = Call.Event 32768 ∷ Call.Event 512 ∷ []; side = Side.Left; accepted = refl; law = refl }
lateral (suc (suc (suc (suc zero)))) h k = record { calls = Call.Event 65536 ∷ Call.Event 1024 ∷ []; side = Side.Left; accepted = refl; law = refl }
lateral (suc (suc (suc (suc (suc zero))))) h k = record { calls = Call.Event 16 ∷ []; side = Side.Left; accepted = refl; law = refl }
lateral (suc (suc (suc (suc (suc (suc n)))))) h k = absurd (omega arith)

-- PITCH, VS, FLC, ALT, ALTSEL in capture and on track, VAPPR and VGA, all on the left side
vertical : (n : ℕ) → 1 ≤ n → n ≤ 8 → Vertical n
unfolding rules
vertical zero h k = absurd (omega arith)
vertical (suc zero) h k = record { calls = Call.Event 64 ∷ []; side = Side.Left; accepted = refl; law = refl }
vertical (suc (suc zero)) h k = record { calls = Call.Event 131072 ∷ []; side = Side.Left; accepted = refl; law = refl }
vertical (suc (suc (suc zero))) h k = record { calls = Call.Event 262144 ∷ []; side = Side.Left; accepted = refl; law = refl }
vertical (suc (suc (suc (suc zero)))) h k = record { calls = Call.Event 524288 ∷ []; side = Side.Left; accepted = refl; law = refl }
vertical (suc (suc (suc (suc (suc zero))))) h k = record { calls = Call.Event 64 ∷ Call.Event 4096 ∷ []; side = Side.Left; accepted = refl; law = refl }
vertical (suc (suc (suc (suc (suc (suc zero)))))) h k = record { calls = Call.Event 64 ∷ Call.Event 4096 ∷ Call.Event 8192 ∷ []; side = Side.Left; accepted = refl; law = refl }
vertical (suc (suc (suc (suc (suc (suc (suc zero))))))) h k = record { calls = Call.Event 65536 ∷ Call.Event 1024 ∷ Call.Event 2048 ∷ []; side = Side.Left; accepted = refl; law = refl }
vertical (suc (suc (suc (suc (suc (suc (suc (suc zero)))))))) h k = record { calls = Call.Event 16 ∷ []; side = Side.Left; accepted = refl; law = refl }
vertical (suc (suc (suc (suc (suc (suc (suc (suc (suc n))))))))) h k = absurd (omega arith)

-- ---- independent operation

-- left flies an approach: APPR, and the signals of LAPPR and VAPPR
abbrev approach : List Call
approach = Call.Event 65536 ∷ Call.Event 1024 ∷ Call.Event 2048 ∷ []

-- and right takes it over, so that both have the pair
abbrev both : List Call
both = approach ++ (Call.Send 0 ∷ Call.Refresh 1 ∷ [])

-- the flight directors of both sides reach the other's inbox On and are then pressed Off, so that each side stays on by its inbox alone
abbrev by_inboxes : List Call
by_inboxes = approach ++ (Call.Event 128 ∷ Call.Send 1 ∷ Call.Send 0 ∷ Call.Refresh 1 ∷ Call.Event 1048576 ∷ Call.Event 128 ∷ Call.Event 64 ∷ [])

turned_on : TurnsOn (Call.Event 1048576)
unfolding rules
turned_on = record { calls = both; before = refl; on = refl }

ended_by_event : Ends (Call.Event 131072)
unfolding rules
ended_by_event = record { calls = both ++ (Call.Event 1048576 ∷ []); before = refl; over = refl }

ended_by_transfer : Ends (Call.Event 32)
unfolding rules
ended_by_transfer = record { calls = both ++ (Call.Event 1048576 ∷ []); before = refl; over = refl }

-- left sends its flight director, now Off, and with it right has nothing left that keeps it on
ended_by_refresh : Ends (Call.Refresh 1)
unfolding rules
ended_by_refresh = record { calls = by_inboxes ++ (Call.Send 0 ∷ []); before = refl; over = refl }

silent : Silent Side.Right
unfolding rules
silent = record {
  ahead = by_inboxes;
  later = [];
  found_on = refl;
  over = refl;
  passive = λ e. omega arith;
  last_send = tt;
  sent_law = refl;
  law = refl;
}

-- ---- the passive side's rule

-- left engages HDG and sends, right refreshes; left clears HDG and sends once more, and right still shows HDG
speaks_right : Speaks Side.Right
unfolding rules
speaks_right = record {
  ahead = Call.Event 16384 ∷ [];
  later = Call.Event 131072 ∷ Call.Send 2 ∷ [];
  post = Call.Event 16384 ∷ Call.Event 128 ∷ Call.Send 0 ∷ Call.Refresh 0 ∷ Call.Refresh 2 ∷ Call.Turn 0 7 ∷ Call.Display 1 ∷ [];
  off = (refl, (refl, (refl, (refl, (refl, (refl, (refl, (refl, refl))))))));
  passive = λ e. omega arith;
  last_send = (refl, (refl, tt));
  last_refresh = (refl, (refl, (refl, (refl, (refl, (refl, (refl, tt)))))));
  no_transfer = (refl, (refl, (refl, (refl, (refl, (refl, (refl, tt)))))));
  law = refl;
  at_power_on = refl;
  other_law = refl;
}

-- after a transfer right engages HDG and sends, left refreshes; right clears HDG and sends once more, and left still shows HDG
speaks_left : Speaks Side.Left
unfolding rules
speaks_left = record {
  ahead = Call.Event 32 ∷ Call.Event 16384 ∷ [];
  later = Call.Send 0 ∷ [];
  post = Call.Event 16384 ∷ Call.Send 1 ∷ [];
  off = (refl, (refl, (refl, refl)));
  passive = λ e. omega arith;
  last_send = (refl, tt);
  last_refresh = (refl, (refl, tt));
  no_transfer = (refl, (refl, tt));
  law = refl;
  at_power_on = refl;
  other_law = refl;
}

-- left engages HDG and hands PF over; right never sends, and left refreshes
speaks_unsent : SpeaksUnsent Side.Left
unfolding rules
speaks_unsent = record {
  pre = Call.Event 16384 ∷ Call.Send 0 ∷ Call.Event 32 ∷ Call.Event 128 ∷ [];
  post = Call.Send 1 ∷ [];
  off_all_along = (refl, (refl, (refl, (refl, (refl, (refl, refl))))));
  passive = λ e. omega arith;
  unsent = (refl, (refl, (refl, (refl, tt))));
  last_refresh = (refl, tt);
  no_transfer = (refl, tt);
  law_before = refl;
  law = refl;
  other_law = refl;
}

-- in independent operation HDG engages on both sides and ends it; left sends, and right refreshes, with it off; left clears HDG, and right still shows it
speaks_again : SpeaksAgain Side.Right
unfolding rules
speaks_again = record {
  speaks = record {
    ahead = both ++ (Call.Event 1048576 ∷ Call.Event 16384 ∷ []);
    later = [];
    post = Call.Event 16384 ∷ [];
    off = (refl, (refl, refl));
    passive = λ e. omega arith;
    last_send = tt;
    last_refresh = (refl, tt);
    no_transfer = (refl, tt);
    law = refl;
    at_power_on = refl;
    other_law = refl;
  };
  early = both ++ (Call.Event 1048576 ∷ []);
  more = Call.Event 16384 ∷ [];
  split = refl;
  was_on = refl;
}

-- a list has a last call of a kind, or none, where the kind is that of one call only
module _ (kind : Call → Bool) (c : Call) (is_c : (x : Call) → kind x ≡ true → x ≡ c) where
  last : (cs : List Call) → Last kind c cs ⊎ None kind cs
  last [] = inr tt
  last (x ∷ cs) = go (kind x) refl (last cs)
    where
      go : (t : Bool) → kind x ≡ t → Last kind c cs ⊎ None kind cs → Last kind c (x ∷ cs) ⊎ None kind (x ∷ cs)
      go t e (inl l) = inl (record { ahead = x ∷ l.ahead; later = l.later; split = ap (λ (ys : List Call). x ∷ ys) l.split; last = l.last })
      go true e (inr n) = inl (record { ahead = []; later = cs; split = ap (λ (y : Call). y ∷ cs) (is_c x e); last = n })
      go false e (inr n) = inr (e, n)

-- where a number names a side, it is that side's number
named : (t : ℕ) (s : Side) (f : Side → Deed) (p : Deed → Bool) → ((x : Side) → p (f x) ≡ true → x ≡ s) → accepted_for p (result_map f (side_of t)) ≡ true → t ≡ number s
named t s f p k = go (side_of t) refl
  where
    go : (r : Result Side Refusal) → side_of t ≡ r → accepted_for p (result_map f r) ≡ true → t ≡ number s
    go (Ok x) e h = (side_laws.named t s).0 (e ∙ ap Ok (k x h))
    go (Err refusal) e h = absurd (false≢true h)

-- what is asked for with a number of another kind is none of these
never : {T : Type 0} (p : Deed → Bool) (f : T → Deed) → ((x : T) → p (f x) ≡ false) → (r : Result T Refusal) → accepted_for p (result_map f r) ≡ true → ⊥
never p f k (Ok x) h = false≢true (sym (k x) ∙ h)
never p f k (Err refusal) h = false≢true h

-- an accepted send of side s is the call `send s`,
only_send : (s : Side) (x : Call) → sends s x ≡ true → x ≡ Call.Send (number s)
only_send s (Call.Event word) e = absurd (never (is_send s) act (λ n. refl) (word_event word) e)
only_send s (Call.Turn knob n) e = absurd (never (is_send s) (λ k. turn k n) (λ k. refl) (knob_of knob) e)
only_send s (Call.Reading r) e = absurd (never (is_send s) (keep r) (λ z. refl) (reading_verdict r) e)
only_send s (Call.Send t) e = ap Call.Send (named t s send (is_send s) (λ x. same_number x s) e)
only_send s (Call.Refresh t) e = absurd (never (is_send s) refresh (λ t. refl) (side_of t) e)
only_send s (Call.Display t) e = absurd (never (is_send s) show (λ t. refl) (side_of t) e)

-- and so with a refresh
only_refresh : (s : Side) (x : Call) → refreshes s x ≡ true → x ≡ Call.Refresh (number s)
only_refresh s (Call.Event word) e = absurd (never (is_refresh s) act (λ n. refl) (word_event word) e)
only_refresh s (Call.Turn knob n) e = absurd (never (is_refresh s) (λ k. turn k n) (λ k. refl) (knob_of knob) e)
only_refresh s (Call.Reading r) e = absurd (never (is_refresh s) (keep r) (λ z. refl) (reading_verdict r) e)
only_refresh s (Call.Send t) e = absurd (never (is_refresh s) send (λ t. refl) (side_of t) e)
only_refresh s (Call.Refresh t) e = ap Call.Refresh (named t s refresh (is_refresh s) (λ x. same_number x s) e)
only_refresh s (Call.Display t) e = absurd (never (is_refresh s) show (λ t. refl) (side_of t) e)

pub reached : Reached
unfolding rules
reached = record {
  lateral = lateral;
  vertical = vertical;
  turned_on = turned_on;
  ended_by_event = ended_by_event;
  ended_by_transfer = ended_by_transfer;
  ended_by_refresh = ended_by_refresh;
  speaks_right = speaks_right;
  speaks_left = speaks_left;
  speaks_unsent = speaks_unsent;
  speaks_again = speaks_again;
  silent = silent;
  last_send = λ s. last (sends s) (Call.Send (number s)) (only_send s);
  last_refresh = λ s. last (refreshes s) (Call.Refresh (number s)) (only_refresh s);
  started_at_90 = refl;
  refused_at_59 = refl;
}
