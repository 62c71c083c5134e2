-- A start that gives a bench known to be sound. Document 02, 2026-06.
use Rattle.std.specs.Prelude.{ℤ}
use Rattle.bench.specs.Holds.{started}
use Rattle.calls.specs.declared.sound.SoundStart.{SoundStart}

-- whether it was accepted, and its bench
abbrev pub sound_started : ℤ → SoundStart
sound_started speed = record { outcome = (started speed).outcome; bench = (started speed).bench }
