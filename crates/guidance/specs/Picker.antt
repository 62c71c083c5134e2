-- The picker of the guidance program: the two laws of a side's display, or the display's refusal, and nothing more. Document 01, 'Display'.
use Rattle.std.specs.Prelude.{◌≡◌, ℕ, Result}
use Rattle.std.specs.Result.{result_map_both}
use Rattle.refusals.specs.declared.Refusal.{Refusal}
use Rattle.refusals.specs.Told.{told}
use Rattle.bench.specs.declared.Bench.{Bench}
use Rattle.calls.specs.declared.reply.Display.{Display}
use Rattle.calls.specs.Answers.{display_answer}
use Rattle.calls.specs.Displays.{blank}
use Rattle.guidance.specs.declared.Laws.{Laws}

-- the laws that a display names
abbrev pub laws_of : Display → Laws
laws_of d = record { lateral = d.lateral; vertical = d.vertical }

unfoldable pub picked : Bench → ℕ → Result Laws Refusal
picked b s = result_map_both laws_of (λ refusal. refusal) (display_answer b s)

-- beside a refused pick the papers have 0 and 0
abbrev pub no_laws : Laws
no_laws = record { lateral = 0; vertical = 0 }

-- ---- what a pick tells by its numbers is what the display tells: the same refusal, and the two laws, which are 0 where it is refused, as all that it shows then is

pub record PickLaws : Type 0 where
  pub refusal : (b : Bench) (s : ℕ) → (told no_laws (picked b s)).refusal ≡ (told blank (display_answer b s)).refusal
  pub laws : (b : Bench) (s : ℕ) → (told no_laws (picked b s)).value ≡ laws_of (told blank (display_answer b s)).value
