-- Demand 3, document 01, 'The claim over a list of calls', and document 02, 2026-03 and 2026-06: what holds after a list of calls, whatever they ask for and whether or
-- not they are refused, from any start, from power-on as one of them, and from any other sound bench; and what becomes of a list from an unsound one. `after`,
-- `replies` and `all_told` of Lists apply the rules to one call after another; `accepted`, `transfers`, `refreshes`, `sends` and `pilot_flying` there go by the calls alone, and
-- `OffThroughout` by the rules' bench. Here are definitions and statements only; the proofs are in proofs/.
use Rattle.std.specs.Prelude.{◌≡◌, Bool, true, false, not, List, [], ◌∷◌, ◌++◌, map, ℕ, ◌≤◌, ◌/◌, ◌%◌, ℤ, Err}
use Rattle.refusals.specs.declared.Refusal.{Refusal}
use Rattle.refusals.specs.declared.Told.{Told}
use Rattle.refusals.specs.Refusals.{refusal_number}
use Rattle.refusals.specs.Told.{told}
use Rattle.sides.specs.declared.Side.{Side}
use Rattle.sides.specs.Sides.{number, other, at}
use Rattle.modes.specs.Sets.{is_off}
use Rattle.modes.specs.Numbers.{lateral_law, vertical_law, armed_sum}
use Rattle.channels.specs.declared.Channel.{Channel}
use Rattle.bench.specs.declared.Bench.{Bench}
use Rattle.bench.specs.declared.call.Call.{Call}
use Rattle.bench.specs.Holds.{power_on, started}
use Rattle.bench.specs.Sound.{sound}
use Rattle.calls.specs.declared.reply.Display.{Display}
use Rattle.calls.specs.declared.reply.Reply.{Reply}
use Rattle.calls.specs.Displays.{blank}
use Rattle.rules.specs.Calls.{asked}
use Rattle.calls.specs.Answers.{display_answer}
use Rattle.claim.specs.Lists.{after, replies, all_told, transfers, refreshes, sends, pilot_from, pilot_flying, None, OffThroughout}

-- ---- what a display shows

-- what a display of side s tells after a list of calls from a start
abbrev pub display_from : Bench → List Call → Side → Told Display
display_from start cs s = told blank (display_answer (after start cs) (number s))

-- and from power-on
abbrev pub display_after : List Call → Side → Told Display
display_after cs s = display_from power_on cs s

-- side s has modes on after a list: the rules leave it with a set other than Off
abbrev pub modes_on : Bench → List Call → Side → Bool
modes_on start cs s = not (is_off (at s (after start cs).sides).set)

-- the armed sum of d has the part n, a power of two: 1 stands for NAV, 2 for LAPPR, 4 for ALTSEL and 8 for VAPPR
abbrev pub Arms : ℕ → Display → Type 0
Arms n d = d.armed / n % 2 ≡ 1

-- what a display keeps, of a side with modes on or off
pub record Keeps (on : Bool) (d : Display) : Type 0 where
  -- with modes on, one of the five lateral laws and one of the eight vertical ones
  pub lateral : on ≡ true → (1 ≤ d.lateral) × (d.lateral ≤ 5)
  pub vertical : on ≡ true → (1 ≤ d.vertical) × (d.vertical ≤ 8)
  -- with modes off, no law and nothing armed
  pub off : on ≡ false → (d.lateral ≡ 0) × (d.vertical ≡ 0) × (d.armed ≡ 0)
  -- what is engaged is not armed as well: NAV is lateral law 3, LAPPR 4; ALTSEL is vertical law 5 or 6, VAPPR 7
  pub nav_once : d.lateral ≡ 3 → Arms 1 d → ⊥
  pub lappr_once : d.lateral ≡ 4 → Arms 2 d → ⊥
  pub capture_once : d.vertical ≡ 5 → Arms 4 d → ⊥
  pub track_once : d.vertical ≡ 6 → Arms 4 d → ⊥
  pub vappr_once : d.vertical ≡ 7 → Arms 8 d → ⊥
  -- VAPPR is engaged beside LAPPR alone,
  pub approach : d.vertical ≡ 7 → d.lateral ≡ 4
  -- and armed wherever LAPPR is
  pub approach_armed : Arms 2 d → Arms 8 d

-- both show the same laws, armed sum and references
pub record SameShown (x y : Display) : Type 0 where
  pub lateral : x.lateral ≡ y.lateral
  pub vertical : x.vertical ≡ y.vertical
  pub armed : x.armed ≡ y.armed
  pub references : x.references ≡ y.references

-- d shows the laws, the armed sum and the references of a channel
pub record ShowsHeld (c : Channel) (d : Display) : Type 0 where
  pub lateral : d.lateral ≡ lateral_law c.set
  pub vertical : d.vertical ≡ vertical_law c.set
  pub armed : d.armed ≡ armed_sum c.set
  pub references : d.references ≡ c.references

-- ---- the answers

-- none tells refusal 1
abbrev pub Served : List (Told Reply) → Type 0
Served [] = Unit {0}
Served (t ∷ more) = (t.refusal ≡ 1 → ⊥) × Served more

-- what a call on an unsound bench tells: refusal 1, beside it 32 for an event and zeros for a display
abbrev pub turned_away : Call → Told Reply
turned_away (Call.Event word) = record { refusal = 1; value = Reply.Event 32 }
turned_away (Call.Turn knob n) = record { refusal = 1; value = Reply.Done }
turned_away (Call.Reading r) = record { refusal = 1; value = Reply.Done }
turned_away (Call.Send s) = record { refusal = 1; value = Reply.Done }
turned_away (Call.Refresh s) = record { refusal = 1; value = Reply.Done }
turned_away (Call.Display s) = record { refusal = 1; value = Reply.Shown blank }

-- ---- the passive side's rule

-- d shows what the other side held when it last sent, ahead of a refresh. `from` is the other side, `pre` are the calls ahead of the refresh, and `Unsent` is what d
-- shows where none of them is an accepted send of `from`
pub record ShowsSent (start : Bench) (Unsent : Display → Type 0) (from : Side) (pre : List Call) (d : Display) : Type 0 where
  -- the same as the other side's display after `ahead`: its last accepted send stands between `ahead` and `later`
  pub sent : (ahead later : List Call) → pre ≡ ahead ++ (Call.Send (number from) ∷ later) → None (sends from) later
      → SameShown d (display_from start ahead from).value
  pub unsent : None (sends from) pre → Unsent d

-- of a list that is pre, a refresh of side s and post: s did not have the pilot flying at that refresh; post has no accepted refresh of s, so that it is the last one;
-- and post has no accepted transfer, so that s is passive from then on
abbrev pub PassiveRule : (start : Bench) (pilot : List Call → ℕ) (Unsent : Side → Display → Type 0) (s : Side) (pre post : List Call) (d : Display) → Type 0
PassiveRule start pilot Unsent s pre post d =
    (pilot pre ≡ number s → ⊥)
    → None (refreshes s) post
    → None transfers post
    → ShowsSent start (Unsent s) (other s) pre d

-- ---- the claim

-- of a list of calls from a start. `pilot` tells the pilot flying's side after a list, and `Unsent s` what side s shows if nothing was sent to it since the start
pub record ClaimOf (start : Bench) (pilot : List Call → ℕ) (Unsent : Side → Display → Type 0) (cs : List Call) : Type 0 where
  -- refusal 1 is never answered
  pub served : Served (all_told start cs)
  -- the refusal of each call is that of its own arguments: 0 exactly if it is accepted in the sense of Lists
  pub refusals : map (λ (t : Told Reply). t.refusal) (all_told start cs) ≡ map (λ (c : Call). refusal_number (asked c)) cs
  -- the pilot flying's side is the one told from the calls alone
  pub pilot_side : (after start cs).shared.pf ≡ pilot cs
  -- neither side's display is refused, and each meets what `Keeps` asks for
  pub shown : (s : Side) → (display_from start cs s).refusal ≡ 0
  pub keeps : (s : Side) → Keeps (modes_on start cs s) (display_from start cs s).value
  -- while independent operation is on, either side shows LAPPR and VAPPR engaged
  pub both_on_approach : (after start cs).shared.independent ≡ true → (s : Side)
      → ((display_from start cs s).value.lateral ≡ 4) × ((display_from start cs s).value.vertical ≡ 7)
  -- the passive side's rule. It speaks where independent operation was off when the last refresh came and has been off ever since: so not while it is on, and not after
  -- a refresh that ended it, which had found it on
  pub passive : (s : Side) → (pre post : List Call) → cs ≡ pre ++ (Call.Refresh (number s) ∷ post)
      → OffThroughout (after start pre) (Call.Refresh (number s) ∷ post)
      → PassiveRule start pilot Unsent s pre post (display_from start cs s).value
  -- where it was never on, that is document 01's rule, with nothing more asked of the list
  pub passive_as_ever : OffThroughout start cs → (s : Side) → (pre post : List Call) → cs ≡ pre ++ (Call.Refresh (number s) ∷ post)
      → PassiveRule start pilot Unsent s pre post (display_from start cs s).value

-- demand 3, from the bench of a start, which is what it means by power-on: left has PF at first, and a side to which nothing was sent shows what the other side's
-- display shows at that start
abbrev pub Claim : Bench → List Call → Type 0
Claim start cs = ClaimOf start pilot_flying (λ s d. SameShown d (display_from start [] (other s)).value) cs

-- from a bench: PF begins where the bench has it, and a side to which nothing was sent since shows what its inbox held at the start
abbrev pub ClaimFrom : Bench → List Call → Type 0
ClaimFrom start cs = ClaimOf start (pilot_from start.shared.pf) (λ s d. ShowsHeld (at s start.inboxes) d) cs

-- of a list from an unsound bench: every call is answered 1, and the bench stays as it is
pub record Refused (start : Bench) (cs : List Call) : Type 0 where
  pub same_bench : after start cs ≡ start
  pub answers : all_told start cs ≡ map turned_away cs
  -- the answers themselves: each is that refusal
  pub refusals : replies start cs ≡ map (λ (c : Call). Err Refusal.UnsoundBench) cs

-- all of these, for every list
pub record Claims : Type 0 where
  -- a start at any speed, accepted or refused; power-on is the one at 120
  pub from_start : (speed : ℤ) (cs : List Call) → Claim (started speed).bench cs
  pub from_power_on : (cs : List Call) → Claim power_on cs
  pub from_sound : (start : Bench) → sound start ≡ true → (cs : List Call) → ClaimFrom start cs
  pub from_unsound : (start : Bench) → sound start ≡ false → (cs : List Call) → Refused start cs
