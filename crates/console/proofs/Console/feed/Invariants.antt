-- The loop of `console::Console::feed`: the session, fed with the rest of the piece, comes to what the whole piece makes of the one that it began with.
use Rattle.std.proofs.Common.{◌≡◌, drop}
use Rattle.sessions.specs.Sessions.{fed}
use Rattle.console.proofs.Console.feed.Given as goal

abbrev pub invariant-loop-byte : goal.invariant-loop-byte
invariant-loop-byte l = fed l.self-inside.session (drop l.byte-index l.piece) ≡ fed l.fn.self l.piece
