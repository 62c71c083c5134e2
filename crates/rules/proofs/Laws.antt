-- What stays in an accepted call, by what each of them writes. Assumes nothing.
use mathlib.Core.Path.{◌≡◌, refl}
use Prim.Native.Nat.{ℕ}
use lib.Dec.{eqb}
use lib.IntN.{ℤ}
use Rattle.refusals.proofs.Choices.{either}
use Rattle.sides.specs.declared.Side.{Side}
use Rattle.sides.proofs.Laws.{by_side}
use Rattle.sides.specs.Sides.{other, at}
use Rattle.modes.specs.declared.Event.{Event}
use Rattle.channels.specs.declared.knobs.Knob.{Knob}
use Rattle.bench.specs.declared.Bench.{Bench}
use Rattle.bench.specs.Counts.{count_of, with_count}
use Rattle.bench.specs.Independent.{both_approach, begun, ended}
use Rattle.rules.specs.Steps.{first_step, three_steps, acted}
use Rattle.rules.specs.Turns.{turned}
use Rattle.rules.specs.Sends.{sent, refreshed}
use Rattle.rules.specs.Laws.{SameFeed, StaysLaws}
use Rattle.rules.proofs.ByEvent.{by_event}

abbrev EventStays : Bench → Bench → Type 0
EventStays b x = SameFeed b x × (x.counts ≡ b.counts) × (x.inboxes ≡ b.inboxes)

abbrev TurnStays : Knob → ℕ → Bench → Bench → Type 0
TurnStays k n b x = SameFeed b x × (x.shared ≡ b.shared) × (x.counts ≡ with_count k n b.counts) × (x.inboxes ≡ b.inboxes)

feed : (b x : Bench) → x.readings ≡ b.readings → x.wholes ≡ b.wholes → SameFeed b x
feed b x r w = record { readings = r; wholes = w }

event : (e : Event) (b : Bench) → EventStays b (acted e b)
unfolding three_steps first_step begun
event e b =
    by_event (EventStays b) e b (λ t. (feed b b refl refl, refl, refl)) (λ t. either (EventStays b) (both_approach b) _ b (feed b _ refl refl, refl, refl) (feed b b refl refl, refl, refl))
    (feed b _ refl refl, refl, refl)

turn : (k : Knob) (n : ℕ) (b : Bench) → TurnStays k n b (turned k n b)
unfolding turned
turn k n b = either (TurnStays k n b) (eqb n (count_of k b.counts)) _ _ (feed b _ refl refl, refl, refl, refl) (feed b _ refl refl, refl, refl, refl)

pub stays_laws : StaysLaws
unfolding ended
stays_laws = record {
  event = event;
  turn = turn;
  reading = λ r z b. (refl, refl, refl, refl);
  send = λ s b. (feed b (sent s b) refl refl, refl, refl, refl, by_side (λ s. at s (sent s b).inboxes ≡ at s b.inboxes) refl refl s);
  refresh = λ s b. (feed b (refreshed s b) refl refl, refl, refl, refl, by_side (λ s. at (other s) (refreshed s b).sides ≡ at (other s) b.sides) refl refl s);
  ending = λ b. (feed b (ended b) refl refl, refl, refl, refl, refl, refl, refl);
}
