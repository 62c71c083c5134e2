-- Which parts of a bench an accepted call can change; every other stays. Here are the statements; the proofs are in proofs/Laws.antt.
use Rattle.std.specs.Prelude.{◌≡◌, ℕ, ℤ}
use Rattle.sides.specs.declared.Side.{Side}
use Rattle.sides.specs.Sides.{other, at}
use Rattle.modes.specs.declared.Event.{Event}
use Rattle.feed.specs.declared.Reading.{Reading}
use Rattle.channels.specs.declared.knobs.Knob.{Knob}
use Rattle.bench.specs.declared.Bench.{Bench}
use Rattle.bench.specs.Counts.{with_count}
use Rattle.bench.specs.Independent.{ended}
use Rattle.rules.specs.Steps.{acted}
use Rattle.rules.specs.Turns.{turned}
use Rattle.rules.specs.Sends.{sent, refreshed}
use Rattle.rules.specs.Readings.{received}

-- x has the readings and the whole values of b
pub record SameFeed (b x : Bench) : Type 0 where
  pub readings : x.readings ≡ b.readings
  pub wholes : x.wholes ≡ b.wholes

pub record StaysLaws : Type 0 where
  -- an event changes the shared part and the sides
  pub event : (e : Event) (b : Bench) → SameFeed b (acted e b) × ((acted e b).counts ≡ b.counts) × ((acted e b).inboxes ≡ b.inboxes)
  -- a turn changes its knob's count and the sides
  pub turn : (k : Knob) (n : ℕ) (b : Bench) → SameFeed b (turned k n b) × ((turned k n b).shared ≡ b.shared) × ((turned k n b).counts ≡ with_count k n b.counts) × ((turned k n b).inboxes ≡ b.inboxes)
  -- a reading changes what is kept of readings
  pub reading : (r : Reading) (z : ℤ) (b : Bench)
      → ((received r z b).shared ≡ b.shared) × ((received r z b).counts ≡ b.counts) × ((received r z b).sides ≡ b.sides) × ((received r z b).inboxes ≡ b.inboxes)
  -- a send changes the other side's inbox
  pub send : (s : Side) (b : Bench) → SameFeed b (sent s b) × ((sent s b).shared ≡ b.shared) × ((sent s b).counts ≡ b.counts) × ((sent s b).sides ≡ b.sides) × (at s (sent s b).inboxes ≡ at s b.inboxes)
  -- a refresh changes its side
  pub refresh : (s : Side) (b : Bench)
      → SameFeed b (refreshed s b) × ((refreshed s b).shared ≡ b.shared) × ((refreshed s b).counts ≡ b.counts) × ((refreshed s b).inboxes ≡ b.inboxes) × (at (other s) (refreshed s b).sides ≡ at (other s) b.sides)
  -- and what ends independent operation changes no more than its flag
  pub ending : (b : Bench) → SameFeed b (ended b) × ((ended b).counts ≡ b.counts) × ((ended b).sides ≡ b.sides) × ((ended b).inboxes ≡ b.inboxes)
      × ((ended b).shared.pf ≡ b.shared.pf) × ((ended b).shared.ap ≡ b.shared.ap) × ((ended b).shared.overspeed ≡ b.shared.overspeed)
