-- An accepted reading. Document 01, 'Readings'; document 02, 2026-05.
use Rattle.std.specs.Prelude.{ℤ}
use Rattle.feed.specs.declared.Reading.{Reading}
use Rattle.feed.specs.Readings.{kind_of, stored, with_whole}
use Rattle.bench.specs.declared.Bench.{Bench}

-- it takes the place of the last one of its kind, and its whole value z that of the last one's
abbrev pub received : Reading → ℤ → Bench → Bench
received r z b = record b { readings = stored r b.readings; wholes = with_whole (kind_of r) z b.wholes }
