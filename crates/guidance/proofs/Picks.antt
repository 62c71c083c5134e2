-- What a pick tells is what the display tells. Assumes nothing.
use Rattle.std.proofs.Common.{◌≡◌, refl, Result, Ok, Err}
use Rattle.std.specs.Result.{result_map_both}
use Rattle.refusals.specs.declared.Refusal.{Refusal}
use Rattle.refusals.specs.Told.{told}
use Rattle.calls.specs.declared.reply.Display.{Display}
use Rattle.calls.specs.Answers.{display_answer}
use Rattle.calls.specs.Displays.{blank}
use Rattle.guidance.specs.Picker.{laws_of, no_laws, picked, PickLaws}

refusal : (x : Result Display Refusal) → (told no_laws (result_map_both laws_of (λ r. r) x)).refusal ≡ (told blank x).refusal
refusal (Ok d) = refl
refusal (Err r) = refl

laws : (x : Result Display Refusal) → (told no_laws (result_map_both laws_of (λ r. r) x)).value ≡ laws_of (told blank x).value
laws (Ok d) = refl
laws (Err r) = refl

pub pick_laws : PickLaws
unfolding picked
pick_laws = record { refusal = λ b s. refusal (display_answer b s); laws = λ b s. laws (display_answer b s) }
