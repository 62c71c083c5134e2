-- What a line does to the bus area, which is the list of its bytes. The console's page, 'the bus area'. The bench stays as it is: frames are read and written, and no call is made.
use Rattle.std.specs.Prelude.{Bool, cond, List, ℕ, ◌+◌, leb, length, replicate, Option, Some, None, Ok, Err}
use Rattle.refusals.specs.Refusals.{Verdict}
use Rattle.numerals.specs.Pairs.{pair_bytes}
use Rattle.scripts.specs.Commands.{Asked, pairs_of}
use Rattle.scripts.specs.declared.Mistake.{Mistake}
use Rattle.bench.specs.declared.Bench.{Bench}
use Rattle.frames.specs.Frames.{laid, write_verdict, area_written}
use Rattle.scripts.specs.declared.AreaAct.{AreaAct}
use Rattle.scripts.specs.declared.AreaAct.TheVariants.{Clears, Pokes, Writes}
use Rattle.areas.specs.declared.AreaAnswer.{AreaAnswer}

-- ---- the area afterwards

-- the bytes that a poke line holds
abbrev pub poked_bytes : List ℕ → List ℕ
poked_bytes line = pair_bytes (pairs_of line)

-- bytes from a start on lie inside the area
abbrev pub inside : ℕ → List ℕ → List ℕ → Bool
inside start bytes area = leb (start + length bytes) (length area)

-- such bytes stand there; others change nothing
unfoldable pub poked : ℕ → List ℕ → List ℕ → List ℕ
poked start bytes area = cond (inside start bytes area) (laid start bytes area) area

-- what a line has no act on stays as it is
abbrev pub area_by : Option AreaAct → List ℕ → Bench → List ℕ → List ℕ
area_by None line b area = area
area_by (Some (Clears n)) line b area = replicate n 0
area_by (Some (Pokes start)) line b area = poked start (poked_bytes line) area
area_by (Some (Writes side start)) line b area = area_written b side start area

-- ---- the answer

-- a poke whose bytes do not lie inside the area is wrong
abbrev pub heard_by : Option AreaAct → Asked → List ℕ → List ℕ → Asked
heard_by None asked line area = asked
heard_by (Some (Clears n)) asked line area = asked
heard_by (Some (Pokes start)) asked line area = cond (inside start (poked_bytes line) area) asked (Err Mistake.NoRoom)
heard_by (Some (Writes side start)) asked line area = asked

-- a frame that is written may be refused, and nothing else
abbrev pub written_by : Option AreaAct → Bench → List ℕ → Verdict
written_by None b area = Ok tt
written_by (Some (Clears n)) b area = Ok tt
written_by (Some (Pokes start)) b area = Ok tt
written_by (Some (Writes side start)) b area = write_verdict b side start area

-- a line that asks for this, with this act; it says how long the area is then too
unfoldable pub area_answer : Option AreaAct → Asked → List ℕ → Bench → List ℕ → AreaAnswer
area_answer act asked line b area = record { asked = heard_by act asked line area; written = written_by act b area; length = length (area_by act line b area) }
