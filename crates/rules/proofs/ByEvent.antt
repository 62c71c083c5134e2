-- An event by its three kinds: none, the switch of independent operation, and those that go through the steps. Assumes nothing.
use mathlib.Core.Path.{◌≡◌}
use mathlib.Core.Bool.{true}
use Rattle.modes.specs.declared.Event.{Event}
use Rattle.modes.specs.Events.{is_none, is_independent}
use Rattle.bench.specs.declared.Bench.{Bench}
use Rattle.bench.specs.Independent.{begun}
use Rattle.refusals.proofs.Choices.{by_cond}
use Rattle.rules.specs.Steps.{three_steps, acted}

-- what holds of the bench where nothing is done, of the one where independent operation begins, and of the one after the steps, holds after the event
pub by_event : (P : Bench → Type 0) (e : Event) (b : Bench) → (is_none e ≡ true → P b) → (is_independent e ≡ true → P (begun b)) → P (three_steps e b) → P (acted e b)
unfolding acted
by_event P e b x y z = by_cond P (is_none e) b _ x (λ _. by_cond P (is_independent e) (begun b) (three_steps e b) y (λ _. z))
