-- The laws of counts and of the sides that act, by the knobs and by the sides. Assumes nothing.
use mathlib.Core.Path.{◌≡◌, refl, sym, ◌∙◌}
use mathlib.Core.Bool.{Bool, true, false, or-true}
use Prim.Native.Nat.{ℕ}
use native.Mathlib.Omega.{arith}
use borrow.Author.Tests.{ne_eqb, eq-eqb}
use lib.Dec.{eqb}
use Rattle.std.proofs.Common.{◌≢◌}
use Rattle.sides.specs.declared.Side.{Side}
use Rattle.sides.specs.Sides.{number, other, at}
use Rattle.sides.proofs.Laws.{by_side, side_laws}
use Rattle.feed.proofs.WholeLaws.{readings_afresh}
use Rattle.channels.specs.declared.Channel.{Channel}
use Rattle.channels.specs.declared.Inputs.{Inputs}
use Rattle.channels.specs.declared.knobs.Knob.{Knob}
use Rattle.bench.specs.declared.Counts.{Counts}
use Rattle.bench.specs.declared.Bench.{Bench}
use Rattle.bench.specs.Counts.{count_of, with_count}
use Rattle.bench.specs.Acting.{acts, inputs, on_acting}
use Rattle.bench.specs.Laws.{CountLaws, ActingLaws}
use Rattle.bench.proofs.SoundParts.{readings_part}

count_read : (k : Knob) (n : ℕ) (c : Counts) → count_of k (with_count k n c) ≡ n
count_read Knob.Wheel n c = refl
count_read Knob.Altitude n c = refl
count_read Knob.Speed n c = refl
count_read Knob.Heading n c = refl

counts_stay : (k m : Knob) → k ≢ m → (n : ℕ) (c : Counts) → count_of m (with_count k n c) ≡ count_of m c
counts_stay k m h n c = grind arith

pub count_laws : CountLaws
count_laws = record { read = count_read; stays = counts_stay }

flying : (b : Bench) (s : Side) → b.shared.pf ≡ number s → acts b s ≡ true
unfolding acts
flying b s e = rw (eq-eqb (number s) b.shared.pf (sym e))

alone : (b : Bench) (s : Side) → b.shared.pf ≡ number s → b.shared.independent ≡ false → acts b (other s) ≡ false
unfolding acts
alone b s e o = rw (ne_eqb (number (other s)) b.shared.pf (λ q. side_laws.apart s (q ∙ e)), o)

both : (b : Bench) (s : Side) → b.shared.independent ≡ true → acts b s ≡ true
unfolding acts
both b s o = rw (o, or-true (eqb (number s) b.shared.pf))

pub made : (rule : Inputs → Channel → Channel) (flag : Bool) (b : Bench) (s : Side) → acts b s ≡ true → at s (on_acting rule flag b).sides ≡ rule (inputs flag b s) (at s b.sides)
made rule flag b Side.Left h = rw h
made rule flag b Side.Right h = rw h

pub stays : (rule : Inputs → Channel → Channel) (flag : Bool) (b : Bench) (s : Side) → acts b s ≡ false → at s (on_acting rule flag b).sides ≡ at s b.sides
stays rule flag b Side.Left h = rw h
stays rule flag b Side.Right h = rw h

pub acting_laws : ActingLaws
acting_laws = record {
  flying = flying;
  alone = alone;
  both = both;
  made = made;
  stays = stays;
  afresh = λ flag b s h. readings_afresh b.readings b.wholes h;
  sound_afresh = λ b h. readings_afresh b.readings b.wholes (readings_part b h);
}
