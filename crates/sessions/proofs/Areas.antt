-- How long the area is after a line: it has room for 2,048 bytes, and no line asks for more. Assumes nothing.
use Rattle.std.proofs.Common.{◌≡◌, ℕ, ◌≤◌, Bool, true, false, cond, leb, List, length, refl, Ok, Err}
use lib.ListN.{length-replicate}
use Rattle.bench.specs.declared.Bench.{Bench}
use Rattle.bench.specs.declared.call.Call.{Call}
use Rattle.frames.proofs.Laws.{frame_laws}
use Rattle.scripts.specs.declared.Command.{Command}
use Rattle.scripts.specs.declared.Mistake.{Mistake}
use Rattle.scripts.specs.Commands.{Asked, command_of}
use Rattle.scripts.proofs.Laws.{line_laws}
use Rattle.areas.specs.Areas.{poked_bytes}
use Rattle.areas.proofs.Areas.{poked_length}
use Rattle.sessions.specs.Effects.{area_after}
use Rattle.sessions.specs.Script.{asked}

module _ (line : List ℕ) (b : Bench) (area : List ℕ) (h : length area ≤ 2048) where
  by_command : (c : Asked) → ((n : ℕ) → c ≡ Ok (Command.Area n) → n ≤ 2048) → length (area_after line c b area) ≤ 2048
  by_command (Ok (Command.Call (Call.Event word))) k = h
  by_command (Ok (Command.Call (Call.Turn knob count))) k = h
  by_command (Ok (Command.Call (Call.Reading r))) k = h
  by_command (Ok (Command.Call (Call.Send side))) k = h
  by_command (Ok (Command.Call (Call.Refresh side))) k = h
  by_command (Ok (Command.Call (Call.Display side))) k = h
  by_command (Ok (Command.Area n)) k = rw (length-replicate {A = ℕ} n 0) (k n refl)
  by_command (Ok (Command.Poke start)) k = rw (poked_length start (poked_bytes line) area) h
  by_command (Ok (Command.Write side start)) k = rw (frame_laws.same_length b side start area) h
  by_command c k = h

  pub after_fits : length (area_after line (asked line) b area) ≤ 2048
  unfolding asked
  after_fits = go (leb (length line) 255)
    where
      go : (t : Bool) → length (area_after line (cond t (command_of line) (Err Mistake.TooLong)) b area) ≤ 2048
      go true = by_command (command_of line) (line_laws.area_length line)
      go false = h
