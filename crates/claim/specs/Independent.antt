-- Independent operation, call by call, on every sound bench: what turns it on, what can't, and what ends it. Document 02, 2026-03. What it means for the displays and for
-- the passive side's rule stands in Claim.antt. Here is the statement only; the proof is in proofs/Independent.antt.
use Rattle.std.specs.Prelude.{◌≡◌, true, false, List, ℕ, Ok}
use Rattle.bench.specs.declared.Bench.{Bench}
use Rattle.bench.specs.declared.call.Call.{Call}
use Rattle.bench.specs.Independent.{both_approach, with_operation}
use Rattle.bench.specs.Sound.{sound}
use Rattle.rules.specs.Calls.{next}
use Rattle.calls.specs.Answers.{event_answer}
use Rattle.claim.specs.Lists.{transfers, asks_independent, None, OffThroughout}

pub record IndependentLaws : Type 0 where
  -- event 20 is answered 20 and changes nothing but the flag, which is then on exactly if both sides have LAPPR and VAPPR engaged
  pub switch : (b : Bench) → sound b ≡ true → (event_answer b 1048576 ≡ Ok 20) × (next b (Call.Event 1048576) ≡ with_operation (both_approach b) b)
  -- no other call turns it on,
  pub only_switch : (b : Bench) (c : Call) → sound b ≡ true → asks_independent c ≡ false → b.shared.independent ≡ false → (next b c).shared.independent ≡ false
  -- so that a list without that switch never has it on
  pub never_on : (b : Bench) (cs : List Call) → sound b ≡ true → b.shared.independent ≡ false → None asks_independent cs → OffThroughout b cs
  -- no turn of a knob ends it, nor turns it on
  pub turn : (b : Bench) (knob n : ℕ) → sound b ≡ true → (next b (Call.Turn knob n)).shared.independent ≡ b.shared.independent
  -- after a transfer it is off
  pub transfer : (b : Bench) (c : Call) → sound b ≡ true → transfers c ≡ true → (next b c).shared.independent ≡ false
