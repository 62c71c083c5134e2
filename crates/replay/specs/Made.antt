-- Which calls of a list are made: those that have a place for their answer. Document 01, 'The claim over a list of calls'.
use Rattle.std.specs.Prelude.{◌≡◌, List, length, take, Result}
use Rattle.refusals.specs.declared.Refusal.{Refusal}
use Rattle.bench.specs.declared.call.Call.{Call}
use Rattle.calls.specs.declared.reply.Reply.{Reply}

abbrev pub made : List Call → List (Result Reply Refusal) → List Call
made calls answers = take (length answers) calls

-- so any list of calls is made whole where it has as many places
pub record MadeWhole : Type 0 where
  pub whole : (calls : List Call) (answers : List (Result Reply Refusal)) → length answers ≡ length calls → made calls answers ≡ calls
