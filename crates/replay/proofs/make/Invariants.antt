-- `replay::make`: so many calls were made, and their answers stand in their places.
use Rattle.std.proofs.Common.{◌≡◌, ◌++◌, take, drop}
use Rattle.claim.specs.Lists.{after, replies}
use Rattle.replay.proofs.make.Given as goal

abbrev pub invariant-loop-i : goal.invariant-loop-i
invariant-loop-i l = record {
  bench : l.b ≡ after l.fn.b (take l.i l.calls);
  answers : l.answers ≡ replies l.fn.b (take l.i l.calls) ++ drop l.i l.fn.answers;
}
