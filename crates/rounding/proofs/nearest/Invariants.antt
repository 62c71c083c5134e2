-- The loop's invariant: kept, half and rest are what is left of the digits when as many as were counted are dropped.
use Rattle.std.proofs.Common.{◌^◌}
use Rattle.rounding.proofs.Digits.{Dropped}
use Rattle.rounding.proofs.nearest.Given as goal

abbrev pub invariant-loop : goal.invariant-loop
invariant-loop l = Dropped l.kept l.half l.rest l.digits (2 ^ l.counter)
