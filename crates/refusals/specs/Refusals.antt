-- Why something is refused, by the papers' numbers. Document 01, 'Who can be turned away', has 0 to 6; document 02 has 7 to 9 (2026-02) and 10 (2026-06).
use Rattle.std.specs.Prelude.{ℕ, Result, Ok, Err}
use Rattle.refusals.specs.declared.Refusal.{Refusal}

-- the number of a refusal
abbrev pub number_of_refusal : Refusal → ℕ
number_of_refusal Refusal.UnsoundBench = 1
number_of_refusal Refusal.UnknownSide = 2
number_of_refusal Refusal.UnknownKnob = 3
number_of_refusal Refusal.UnknownEvent = 4
number_of_refusal Refusal.NotFinite = 5
number_of_refusal Refusal.OutOfRange = 6
number_of_refusal Refusal.NoRoom = 7
number_of_refusal Refusal.NoFrame = 8
number_of_refusal Refusal.FieldOutOfRange = 9
number_of_refusal Refusal.StartingSpeed = 10

-- the number of an answer's refusal: 0 of what is accepted
abbrev pub refusal_number : {T : Type 0} → Result T Refusal → ℕ
refusal_number (Ok x) = 0
refusal_number (Err refusal) = number_of_refusal refusal

-- whether something is accepted or refused, where nothing else is answered
abbrev pub Verdict : Type 0
Verdict = Result (Unit {0}) Refusal

-- what is made of an accepted value; a refusal stays
abbrev pub result_map : {T U : Type 0} → (T → U) → Result T Refusal → Result U Refusal
result_map f (Ok x) = Ok (f x)
result_map f (Err refusal) = Err refusal
