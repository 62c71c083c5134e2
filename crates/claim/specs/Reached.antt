-- The claim says something: every law is shown after some list of calls; independent operation comes on, and an event, a refresh and a transfer end it; there are lists
-- to which the passive side's rule applies, for either side, with a send and without one, and again after independent operation; the rule has to be silent about a
-- refresh that ended it; and the splits of a list by which the rule is stated leave no list out. Here is the statement only; the proof is in proofs/Reached.antt.
use Rattle.std.specs.Prelude.{◌≡◌, Bool, true, false, ◌⊎◌, List, [], ◌∷◌, ◌++◌, ℕ, ◌≤◌, ℤ, pos}
use Rattle.sides.specs.declared.Side.{Side}
use Rattle.sides.specs.Sides.{number, other}
use Rattle.bench.specs.declared.call.Call.{Call}
use Rattle.bench.specs.Holds.{power_on, started}
use Rattle.claim.specs.Lists.{after, transfers, refreshes, sends, pilot_flying, None, OffThroughout}
use Rattle.claim.specs.Claim.{display_from, display_after}

-- a list of calls and a side that shows the law after it
pub record Lateral (n : ℕ) : Type 0 where
  pub calls : List Call
  pub side : Side
  pub accepted : (display_after calls side).refusal ≡ 0
  pub law : (display_after calls side).value.lateral ≡ n

pub record Vertical (n : ℕ) : Type 0 where
  pub calls : List Call
  pub side : Side
  pub accepted : (display_after calls side).refusal ≡ 0
  pub law : (display_after calls side).value.vertical ≡ n

-- whether independent operation is on after a list of calls from power-on
abbrev pub independent_after : List Call → Bool
independent_after cs = (after power_on cs).shared.independent

-- calls after which one call more turns it on, and calls after which one ends it
pub record TurnsOn (last : Call) : Type 0 where
  pub calls : List Call
  pub before : independent_after calls ≡ false
  pub on : independent_after (calls ++ (last ∷ [])) ≡ true

pub record Ends (last : Call) : Type 0 where
  pub calls : List Call
  pub before : independent_after calls ≡ true
  pub over : independent_after (calls ++ (last ∷ [])) ≡ false

-- calls to which the passive side's rule applies, for a side, with a send of the other side ahead of the refresh. It then shows another law than at power-on, and
-- another than the other side does
pub record Speaks (side : Side) : Type 0 where
  pub ahead : List Call
  pub later : List Call
  pub post : List Call
  pub off : OffThroughout (after power_on (ahead ++ (Call.Send (number (other side)) ∷ later))) (Call.Refresh (number side) ∷ post)
  pub passive : pilot_flying (ahead ++ (Call.Send (number (other side)) ∷ later)) ≡ number side → ⊥
  pub last_send : None (sends (other side)) later
  pub last_refresh : None (refreshes side) post
  pub no_transfer : None transfers post
  pub law : (display_after (ahead ++ (Call.Send (number (other side)) ∷ later) ++ (Call.Refresh (number side) ∷ post)) side).value.lateral ≡ 2
  pub at_power_on : (display_after [] side).value.lateral ≡ 0
  pub other_law : (display_after (ahead ++ (Call.Send (number (other side)) ∷ later) ++ (Call.Refresh (number side) ∷ post)) (other side)).value.lateral ≡ 1

-- the same with no send ahead: the side shows a law that it loses at the refresh, and then the law of power-on, which is not the other side's
pub record SpeaksUnsent (side : Side) : Type 0 where
  pub pre : List Call
  pub post : List Call
  pub off_all_along : OffThroughout power_on (pre ++ (Call.Refresh (number side) ∷ post))
  pub passive : pilot_flying pre ≡ number side → ⊥
  pub unsent : None (sends (other side)) pre
  pub last_refresh : None (refreshes side) post
  pub no_transfer : None transfers post
  pub law_before : (display_after pre side).value.lateral ≡ 2
  pub law : (display_after (pre ++ (Call.Refresh (number side) ∷ post)) side).value.lateral ≡ 0
  pub other_law : (display_after (pre ++ (Call.Refresh (number side) ∷ post)) (other side)).value.lateral ≡ 1

-- it applies to a list in which independent operation was on
pub record SpeaksAgain (side : Side) : Type 0 where
  pub speaks : Speaks side
  pub early : List Call
  pub more : List Call
  pub split : speaks.ahead ≡ early ++ more
  pub was_on : independent_after early ≡ true

-- a refresh of a passive side that found independent operation on and ended it: the side has no law, though its inbox holds the approach that the other side sent
-- last. Document 01's rule asks nothing more of the list, and would be wrong of it
pub record Silent (side : Side) : Type 0 where
  pub ahead : List Call
  pub later : List Call
  pub found_on : independent_after (ahead ++ (Call.Send (number (other side)) ∷ later)) ≡ true
  pub over : independent_after (ahead ++ (Call.Send (number (other side)) ∷ later) ++ (Call.Refresh (number side) ∷ [])) ≡ false
  pub passive : pilot_flying (ahead ++ (Call.Send (number (other side)) ∷ later)) ≡ number side → ⊥
  pub last_send : None (sends (other side)) later
  pub sent_law : (display_after ahead (other side)).value.lateral ≡ 4
  pub law : (display_after (ahead ++ (Call.Send (number (other side)) ∷ later) ++ (Call.Refresh (number side) ∷ [])) side).value.lateral ≡ 0

-- the IAS reference that right shows when it refreshes right after a start
abbrev pub ias_at_start : ℤ → ℤ
ias_at_start speed = (display_from (started speed).bench (Call.Refresh 1 ∷ []) Side.Right).value.references.ias

-- a list split at its last call of a kind: c is that call
pub record Last (kind : Call → Bool) (c : Call) (cs : List Call) : Type 0 where
  pub ahead : List Call
  pub later : List Call
  pub split : cs ≡ ahead ++ (c ∷ later)
  pub last : None kind later

pub record Reached : Type 0 where
  pub lateral : (n : ℕ) → 1 ≤ n → n ≤ 5 → Lateral n
  pub vertical : (n : ℕ) → 1 ≤ n → n ≤ 8 → Vertical n
  -- independent operation is turned on by event 20, and ended by events 17 (VS) and 5 (a transfer) and by a refresh
  pub turned_on : TurnsOn (Call.Event 1048576)
  pub ended_by_event : Ends (Call.Event 131072)
  pub ended_by_transfer : Ends (Call.Event 32)
  pub ended_by_refresh : Ends (Call.Refresh 1)
  -- the passive side's rule speaks of the right side as at power-on, and of the left side, which is passive only after a transfer
  pub speaks_right : Speaks Side.Right
  pub speaks_left : Speaks Side.Left
  pub speaks_unsent : SpeaksUnsent Side.Left
  pub speaks_again : SpeaksAgain Side.Right
  pub silent : Silent Side.Right
  -- a list has a last accepted send of a side, or none; and so with refreshes
  pub last_send : (s : Side) (cs : List Call) → Last (sends s) (Call.Send (number s)) cs ⊎ None (sends s) cs
  pub last_refresh : (s : Side) (cs : List Call) → Last (refreshes s) (Call.Refresh (number s)) cs ⊎ None (refreshes s) cs
  -- the rule shows the start that was made: with nothing sent, right has the speed asked for, or the default one if it was refused
  pub started_at_90 : ias_at_start (pos 90) ≡ pos 90
  pub refused_at_59 : ias_at_start (pos 59) ≡ pos 120
