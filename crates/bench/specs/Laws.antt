-- What holds of counts, and of the sides that act. Here are the statements; the proofs are in proofs/Laws.antt.
use Rattle.std.specs.Prelude.{◌≡◌, ◌≢◌, Bool, true, false, ℕ}
use Rattle.sides.specs.declared.Side.{Side}
use Rattle.sides.specs.Sides.{number, other, at}
use Rattle.feed.specs.Readings.{wholes_of}
use Rattle.feed.specs.Sound.{readings_sound}
use Rattle.channels.specs.declared.Channel.{Channel}
use Rattle.channels.specs.declared.Inputs.{Inputs}
use Rattle.channels.specs.declared.knobs.Knob.{Knob}
use Rattle.bench.specs.declared.Counts.{Counts}
use Rattle.bench.specs.declared.Bench.{Bench}
use Rattle.bench.specs.Counts.{count_of, with_count}
use Rattle.bench.specs.Acting.{acts, inputs, on_acting}
use Rattle.bench.specs.Sound.{sound}

-- the count that was put is read back, and those of the other knobs stay
pub record CountLaws : Type 0 where
  pub read : (k : Knob) (n : ℕ) (c : Counts) → count_of k (with_count k n c) ≡ n
  pub stays : (k m : Knob) → k ≢ m → (n : ℕ) (c : Counts) → count_of m (with_count k n c) ≡ count_of m c

pub record ActingLaws : Type 0 where
  -- the PF side acts, and with independent operation off the other side does not; with it on both do
  pub flying : (b : Bench) (s : Side) → b.shared.pf ≡ number s → acts b s ≡ true
  pub alone : (b : Bench) (s : Side) → b.shared.pf ≡ number s → b.shared.independent ≡ false → acts b (other s) ≡ false
  pub both : (b : Bench) (s : Side) → b.shared.independent ≡ true → acts b s ≡ true
  -- what is made on the sides that act is made on such a side, and another side is as it was
  pub made : (rule : Inputs → Channel → Channel) (flag : Bool) (b : Bench) (s : Side) → acts b s ≡ true → at s (on_acting rule flag b).sides ≡ rule (inputs flag b s) (at s b.sides)
  pub stays : (rule : Inputs → Channel → Channel) (flag : Bool) (b : Bench) (s : Side) → acts b s ≡ false → at s (on_acting rule flag b).sides ≡ at s b.sides
  -- on a bench whose whole values are those of its readings, a rule reads the readings rounded afresh
  pub afresh : (flag : Bool) (b : Bench) (s : Side) → readings_sound b.readings b.wholes ≡ true → (inputs flag b s).wholes ≡ wholes_of b.readings
  -- as a sound bench's are
  pub sound_afresh : (b : Bench) → sound b ≡ true → b.wholes ≡ wholes_of b.readings
