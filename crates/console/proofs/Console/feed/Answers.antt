-- `console::Console::feed` meets its contract: a byte taken, with the rest fed after it, comes to what the bytes from there on make, and past the end none are left.
use Rattle.std.proofs.Common.{◌≡◌, ℕ, ◌+◌, ◌<◌, ◌≤◌, List, length, get_or, drop, ◌∙◌}
use Rattle.std.proofs.lemmas.List.{drop_more}
use Rattle.std.proofs.Math.ListN.{drop_of_length-le}
use Rattle.sessions.specs.declared.Session.{Session}
use Rattle.sessions.specs.Sessions.{after_byte, fed}
use Rattle.console.proofs.Console.feed.Goals as goal

-- the byte at i was taken, and the rest follows on it
fed-byte : (s : Session) (piece : List ℕ) (i : ℕ) {next : Session} → i < length piece → next ≡ after_byte s (get_or piece i 0) → fed next (drop (i + 1) piece) ≡ fed s (drop i piece)
unfolding fed
fed-byte s piece i h e = rw (e, drop_more piece i 0)

pub loop-byte-preserved : goal.loop-byte-preserved
loop-byte-preserved c = fed-byte _ _ _ c.loop-byte-test.true c.take_byte-taken.ensures.new_session ∙ c.loop-byte.invariant

-- what is left to feed at the end is nothing
fed-end : (s : Session) (piece : List ℕ) (i : ℕ) (all : Session) → length piece ≤ i → fed s (drop i piece) ≡ all → s ≡ all
unfolding fed
fed-end s piece i all h e = rw (drop_of_length-le piece h) at e

pub returns : goal.returns
returns c = fed-end _ _ _ _ c.loop-byte-test.false c.loop-byte.invariant
