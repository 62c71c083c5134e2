-- What an answer tells by the papers' numbers and values, for each of its cases. The promises speak of answers by this.
use Rattle.std.specs.Prelude.{Result, Ok, Err}
use Rattle.refusals.specs.declared.Refusal.{Refusal}
use Rattle.refusals.specs.declared.Told.{Told}
use Rattle.refusals.specs.Refusals.{number_of_refusal}

-- what is accepted tells 0 and its value, what is refused its refusal's number and what the papers have beside one: 32 for an event, zeros for a display
abbrev pub told : {T : Type 0} → T → Result T Refusal → Told T
told beside (Ok x) = record { refusal = 0; value = x }
told beside (Err refusal) = record { refusal = number_of_refusal refusal; value = beside }
