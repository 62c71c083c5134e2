-- Events go by numbers below 21. Assumes nothing.
use Rattle.std.proofs.Common.{◌≡◌, ℕ, ◌<◌, List, Some}
use Rattle.words.specs.Words.{word_of}
use Rattle.words.proofs.Names.{lookup_first}
use Rattle.scripts.specs.Commands.{event_names, event_named}

pub named_below : (text : List ℕ) (n : ℕ) → event_named text ≡ Some n → n < 21
unfolding event_named event_names
named_below text n e = (lookup_first (word_of text 1) event_names).within n e
