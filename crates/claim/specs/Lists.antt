-- Lists of calls from a bench, by the rules, and document 01's words about them. Document 01, 'The claim over a list of calls'.
-- The words are defined from the calls alone: no bench is asked. What is said of independent operation (document 02, 2026-03) goes by the rules' bench.
use Rattle.std.specs.Prelude.{◌≡◌, Bool, true, false, cond, List, [], ◌∷◌, ℕ, eqb, Result, Ok, Err}
use Rattle.refusals.specs.declared.Refusal.{Refusal}
use Rattle.refusals.specs.declared.Told.{Told}
use Rattle.sides.specs.declared.Side.{Side}
use Rattle.sides.specs.Sides.{number}
use Rattle.bench.specs.declared.Bench.{Bench}
use Rattle.bench.specs.declared.call.Call.{Call}
use Rattle.bench.specs.Acting.{other_side}
use Rattle.calls.specs.declared.reply.Reply.{Reply}
use Rattle.rules.specs.Calls.{Deed, act, turn, keep, send, refresh, show, asked, next}
use Rattle.calls.specs.Answers.{reply}
use Rattle.calls.specs.Answers.{tells}

-- ---- a list of calls by the rules: the bench is handed on from call to call

abbrev pub after : Bench → List Call → Bench
after b [] = b
after b (c ∷ cs) = after (next b c) cs

-- the answer of each call
abbrev pub replies : Bench → List Call → List (Result Reply Refusal)
replies b [] = []
replies b (c ∷ cs) = reply b c ∷ replies (next b c) cs

-- and what each answer tells: its refusal's number and its value
abbrev pub all_told : Bench → List Call → List (Told Reply)
all_told b [] = []
all_told b (c ∷ cs) = tells b c ∷ all_told (next b c) cs

-- ---- document 01's words, from the calls alone

-- the call is accepted, and what it asks for is p: its own arguments give it no refusal. Refusal 1 goes by the bench, and from a sound start it never comes: this is a part of the claim
abbrev pub accepted_for : (Deed → Bool) → Result Deed Refusal → Bool
accepted_for p (Ok d) = p d
accepted_for p (Err refusal) = false

abbrev pub asks : (Deed → Bool) → Call → Bool
asks p c = accepted_for p (asked c)

-- acting on event e: a word whose lowest set bit is e
abbrev pub is_act : ℕ → Deed → Bool
is_act e (act n) = eqb n e
is_act e (turn k n) = false
is_act e (keep r z) = false
is_act e (send t) = false
is_act e (refresh t) = false
is_act e (show t) = false

abbrev pub is_send : Side → Deed → Bool
is_send s (act n) = false
is_send s (turn k n) = false
is_send s (keep r z) = false
is_send s (send t) = eqb (number t) (number s)
is_send s (refresh t) = false
is_send s (show t) = false

abbrev pub is_refresh : Side → Deed → Bool
is_refresh s (act n) = false
is_refresh s (turn k n) = false
is_refresh s (keep r z) = false
is_refresh s (send t) = false
is_refresh s (refresh t) = eqb (number t) (number s)
is_refresh s (show t) = false

abbrev pub transfers : Call → Bool
transfers c = asks (is_act 5) c

-- the switch of independent operation (document 02, 2026-03)
abbrev pub asks_independent : Call → Bool
asks_independent c = asks (is_act 20) c

-- accepted, and a refresh of side s
abbrev pub refreshes : Side → Call → Bool
refreshes s c = asks (is_refresh s) c

-- accepted, and a send of side s
abbrev pub sends : Side → Call → Bool
sends s c = asks (is_send s) c

-- the pilot flying's side after a list that began with side p, moved by each transfer
abbrev pub pilot_from : ℕ → List Call → ℕ
pilot_from p [] = p
pilot_from p (c ∷ cs) = pilot_from (cond (transfers c) (other_side p) p) cs

-- the pilot flying's side after a list from a start, where it is left
abbrev pub pilot_flying : List Call → ℕ
pilot_flying cs = pilot_from 0 cs

-- no call of the list is such a call
abbrev pub None : (Call → Bool) → List Call → Type 0
None p [] = Unit {0}
None p (c ∷ cs) = (p c ≡ false) × None p cs

-- ---- independent operation, by the rules' bench

-- it is off on the bench that the first of these calls finds, and after each of them
abbrev pub OffThroughout : Bench → List Call → Type 0
OffThroughout b [] = b.shared.independent ≡ false
OffThroughout b (c ∷ cs) = (b.shared.independent ≡ false) × OffThroughout (next b c) cs
