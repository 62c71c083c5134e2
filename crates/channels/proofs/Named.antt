-- The numbers of the knobs, by the four. Assumes nothing.
use mathlib.Core.Path.{◌≡◌, refl, sym, ◌∙◌}
use Prim.Native.Nat.{ℕ, zero, suc, ◌≤◌}
use native.Mathlib.Omega.{arith}
use borrow.Author.Tests.{ne_eqb}
use Rattle.std.specs.Prelude.{◌↔◌, Result, Ok, Err}
use Rattle.refusals.specs.declared.Refusal.{Refusal}
use Rattle.channels.specs.declared.knobs.Knob.{Knob}
use Rattle.channels.specs.Turns.{knob_number, knob_of}
use Rattle.channels.specs.Laws.{KnobLaws}

back : (k : Knob) → knob_of (knob_number k) ≡ Ok k
back Knob.Wheel = refl
back Knob.Altitude = refl
back Knob.Speed = refl
back Knob.Heading = refl

refused : (n : ℕ) → 4 ≤ n → knob_of n ≡ Err Refusal.UnknownKnob
refused n h = rw (ne_eqb n 0 (λ e. omega arith), ne_eqb n 1 (λ e. omega arith), ne_eqb n 2 (λ e. omega arith), ne_eqb n 3 (λ e. omega arith))

forth : (n : ℕ) (k : Knob) → knob_of n ≡ Ok k → n ≡ knob_number k
forth zero k e = go k e
  where
    go : (k : Knob) → ◌≡◌ {A = Result Knob Refusal} (Ok Knob.Wheel) (Ok k) → 0 ≡ knob_number k
    go k e = cc
forth (suc zero) k e = go k e
  where
    go : (k : Knob) → ◌≡◌ {A = Result Knob Refusal} (Ok Knob.Altitude) (Ok k) → 1 ≡ knob_number k
    go k e = cc
forth (suc (suc zero)) k e = go k e
  where
    go : (k : Knob) → ◌≡◌ {A = Result Knob Refusal} (Ok Knob.Speed) (Ok k) → 2 ≡ knob_number k
    go k e = cc
forth (suc (suc (suc zero))) k e = go k e
  where
    go : (k : Knob) → ◌≡◌ {A = Result Knob Refusal} (Ok Knob.Heading) (Ok k) → 3 ≡ knob_number k
    go k e = cc
forth (suc (suc (suc (suc n)))) k e = let f = refused (suc (suc (suc (suc n)))) (omega arith) in cc

pub knob_laws : KnobLaws
knob_laws = record { named = λ n k. (forth n k, λ e. rw e (back k)); refused = refused }
