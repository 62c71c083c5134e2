-- An answer is accepted just where its refusal's number is 0. Assumes nothing.
use Rattle.std.proofs.Common.{◌≡◌, refl, true, Result, Ok, Err, is_ok, arith}
use Rattle.refusals.specs.declared.Refusal.{Refusal}
use Rattle.refusals.specs.Refusals.{number_of_refusal, refusal_number}

-- no refusal has the number 0
pub some_number : (r : Refusal) → number_of_refusal r ≡ 0 → ⊥
some_number Refusal.UnsoundBench e = omega arith
some_number Refusal.UnknownSide e = omega arith
some_number Refusal.UnknownKnob e = omega arith
some_number Refusal.UnknownEvent e = omega arith
some_number Refusal.NotFinite e = omega arith
some_number Refusal.OutOfRange e = omega arith
some_number Refusal.NoRoom e = omega arith
some_number Refusal.NoFrame e = omega arith
some_number Refusal.FieldOutOfRange e = omega arith
some_number Refusal.StartingSpeed e = omega arith

pub accepted_is_0 : {T : Type 0} (x : Result T Refusal) → is_ok x ≡ true → refusal_number x ≡ 0
accepted_is_0 (Ok x) h = refl
accepted_is_0 (Err r) h = cc

pub number_0_is_accepted : {T : Type 0} (x : Result T Refusal) → refusal_number x ≡ 0 → is_ok x ≡ true
number_0_is_accepted (Ok x) h = refl
number_0_is_accepted (Err r) h = absurd (some_number r h)
