-- What a script means, from its bytes: its lines, what each asks for, and the bench and the bus area that they leave. The console's page, 'Script'. How the bytes are read is no part of it.
use Rattle.std.specs.Prelude.{ℕ, Bool, false, cond, List, [], ◌∷◌, ◌++◌, length, ◌==◌, nat_le, Err}
use Rattle.scripts.specs.Commands.{Asked, command_of}
use Rattle.scripts.specs.declared.Mistake.{Mistake}
use Rattle.bench.specs.declared.Bench.{Bench}
use Rattle.bench.specs.Holds.{power_on}
use Rattle.acts.specs.Acts.{bench_after, effect_of}
use Rattle.sessions.specs.Effects.{watch_after, area_after}

-- ---- lines

-- the lines that a line end has ended, each without it, and what follows the last line end
pub record Lines : Type 0 where
  pub ended : List (List ℕ)
  pub last : List ℕ

-- the same with one byte in front, which is the first line's
abbrev pub in_front : ℕ → List (List ℕ) → List ℕ → Lines
in_front byte [] last = record { ended = []; last = byte ∷ last }
in_front byte (line ∷ more) last = record { ended = (byte ∷ line) ∷ more; last = last }

-- a script is split at its line ends, byte 10
unfoldable pub lines_of : List ℕ → Lines
lines_of [] = record { ended = []; last = [] }
lines_of (byte ∷ more) =
    cond (byte == 10) (record { ended = [] ∷ (lines_of more).ended; last = (lines_of more).last })
    (in_front byte (lines_of more).ended (lines_of more).last)

-- at the script's end what follows the last line end is a line too, unless it is empty
abbrev pub ending : List ℕ → List (List ℕ)
ending [] = []
ending (byte ∷ more) = (byte ∷ more) ∷ []

-- the lines of a script that has come to its end
abbrev pub all_lines : List ℕ → List (List ℕ)
all_lines script = (lines_of script).ended ++ ending (lines_of script).last

-- ---- what lines do

-- a line of more than 255 bytes is wrong whatever it holds; any other asks for what its bytes say
unfoldable pub asked : List ℕ → Asked
asked line = cond (nat_le (length line) 255) (command_of line) (Err Mistake.TooLong)

-- the bench after lines: each is carried out on the bench that the one before it left
abbrev pub carried : List (List ℕ) → Bench → Bench
carried [] b = b
carried (line ∷ more) b = carried more (bench_after (asked line) b)

-- the same from power-on, where a script begins
abbrev pub bench_of : List (List ℕ) → Bench
bench_of lines = carried lines power_on

-- the bus area after lines, from a bench and an area
abbrev pub carried_area : List (List ℕ) → Bench → List ℕ → List ℕ
carried_area [] b area = area
carried_area (line ∷ more) b area = carried_area more (bench_after (asked line) b) (area_after line (asked line) b area)

-- the same from power-on and an empty area
abbrev pub area_of : List (List ℕ) → List ℕ
area_of lines = carried_area lines power_on []

-- the watch after lines, which is off where a script begins
abbrev pub watched : List (List ℕ) → Bool → Bool
watched [] watch = watch
watched (line ∷ more) watch = watched more (watch_after (effect_of (asked line)) watch)

abbrev pub watch_of : List (List ℕ) → Bool
watch_of lines = watched lines false
