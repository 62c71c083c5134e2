-- A session byte by byte, as the contracts cite it. What a script means is in Script, and that a session comes to it in Laws.
use Rattle.std.specs.Prelude.{ℕ, ◌+◌, ◌%◌, ◌^◌, Bool, false, cond, List, [], ◌∷◌, ◌++◌, length, take, ◌==◌, Result, Ok}
use Rattle.std.specs.Result.{result_and}
use Rattle.refusals.specs.declared.Refusal.{Refusal}
use Rattle.scripts.specs.Commands.{Asked}
use Rattle.scripts.specs.declared.Command.{Command}
use Rattle.bench.specs.declared.Bench.{Bench}
use Rattle.bench.specs.Holds.{power_on}
use Rattle.calls.specs.declared.reply.Reply.{Reply}
use Rattle.acts.specs.declared.Effect.{Effect}
use Rattle.acts.specs.Acts.{answer_to, bench_after, effect_of}
use Rattle.areas.specs.declared.AreaAnswer.{AreaAnswer}
use Rattle.areas.specs.Areas.{area_answer}
use Rattle.sessions.specs.declared.Session.{Session}
use Rattle.sessions.specs.declared.Taken.{Taken}
use Rattle.sessions.specs.Effects.{watch_after, is_drawn, area_act, area_after}
use Rattle.sessions.specs.Script.{asked}

-- a session inside a script: its line and its area are kept as far as they have room
abbrev pub holding : Bench → ℕ → List ℕ → Bool → List ℕ → Session
holding b lines line watch area = record { bench = b; lines = lines; line = take 256 line; watch = watch; area = take 2048 area }

-- a session begins with the bench of power-on, no line, the watch off and an empty area
abbrev pub beginning : Session
beginning = record { bench = power_on; lines = 0; line = []; watch = false; area = [] }

-- ---- a line end

-- with the watch as it was, the bench and the area have answered a line; where a frame is refused, that refusal is the line's
abbrev pub answered : Bool → Effect → Result Reply Refusal → AreaAnswer → Taken
answered watch effect answer done = record { asked = done.asked; answer = result_and done.written answer; drawn = is_drawn effect watch }

-- a line that asks for this is carried out on the session's bench, and on its area with the bench as it came
unfoldable pub carried_out : Session → List ℕ → Asked → Taken
carried_out s line c = answered s.watch (effect_of c) (answer_to c s.bench) (area_answer (area_act (effect_of c)) c line s.bench s.area)

-- it is counted, and the next one begins; the area has room for 2,048 bytes
unfoldable pub after_line : Session → List ℕ → Asked → Session
after_line s line c = record {
  bench = bench_after c s.bench;
  lines = (s.lines + 1) % 2 ^ 64;
  line = [];
  watch = watch_after (effect_of c) s.watch;
  area = take 2048 (area_after line c s.bench s.area);
}

-- ---- inside a line

-- nothing is asked while a line goes on
abbrev pub goes_on : Taken
goes_on = record { asked = Ok Command.Blank; answer = Ok Reply.Done; drawn = false }

-- 256 bytes are kept of a line, which are more than it may have
abbrev pub with_byte : Session → ℕ → Session
with_byte s byte = record { bench = s.bench; lines = s.lines; line = take 256 (s.line ++ byte ∷ []); watch = s.watch; area = s.area }

-- ---- a byte, of which 10 is the line end, and the script's end

unfoldable pub byte_taken : Session → ℕ → Taken
byte_taken s byte = cond (byte == 10) (carried_out s s.line (asked s.line)) goes_on

-- the session afterwards
unfoldable pub after_byte : Session → ℕ → Session
after_byte s byte = cond (byte == 10) (after_line s s.line (asked s.line)) (with_byte s byte)

-- a last line that holds a byte is carried out
unfoldable pub script_ended : Session → Taken
script_ended s = cond (length s.line == 0) goes_on (carried_out s s.line (asked s.line))

unfoldable pub after_end : Session → Session
after_end s = cond (length s.line == 0) s (after_line s s.line (asked s.line))

-- ---- many bytes

-- after a piece of a script, byte by byte
unfoldable pub fed : Session → List ℕ → Session
fed s [] = s
fed s (byte ∷ more) = fed (after_byte s byte) more

-- after pieces, one after the other
abbrev pub fed_all : Session → List (List ℕ) → Session
fed_all s [] = s
fed_all s (piece ∷ more) = fed_all (fed s piece) more
