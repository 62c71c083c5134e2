-- The turn of a knob. Document 01, 'Sends, refreshes, knobs'. What it makes of a side is in channels/specs/Turns.antt.
use Rattle.std.specs.Prelude.{cond, ℕ, eqb}
use Rattle.rotation.specs.Rotation.{rotation_of}
use Rattle.channels.specs.declared.knobs.Knob.{Knob}
use Rattle.channels.specs.Turns.{after_turn}
use Rattle.bench.specs.declared.Bench.{Bench}
use Rattle.bench.specs.Counts.{count_of, with_count}
use Rattle.bench.specs.Acting.{on_acting}

abbrev pub counted : Knob → ℕ → Bench → Bench
counted k n b = record b { counts = with_count k n b.counts }

-- the new count is kept in any case; where it is the old one, a rotation of 0, that is all
unfoldable pub turned : Knob → ℕ → Bench → Bench
turned k n b =
    cond (eqb n (count_of k b.counts)) (counted k n b)
    (on_acting (after_turn k (rotation_of (count_of k b.counts) n)) b.shared.overspeed (counted k n b))
