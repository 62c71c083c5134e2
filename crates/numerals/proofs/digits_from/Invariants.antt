-- The loop's invariant: what is read on from v over the rest is what is read from `start` over all.
use Rattle.std.proofs.Common.{◌≡◌, drop}
use Rattle.numerals.specs.Private.{base_number, read_on}
use Rattle.numerals.proofs.digits_from.Given as goal

abbrev pub invariant-loop-b : goal.invariant-loop-b
invariant-loop-b l = read_on (base_number l.base) l.most l.v (drop l.b-index l.w) ≡ read_on (base_number l.base) l.most l.start l.w
