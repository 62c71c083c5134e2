-- The loop's invariant: the bytes of the rest over the rest of the target are what is still to be written.
use Rattle.std.proofs.Common.{◌≡◌}
use Rattle.std.specs.Slice.Iter.{chunks_exact_rest, chunks_exact_size}
use Rattle.numerals.specs.Pairs.{pair_bytes, laid_over}
use Rattle.numerals.proofs.Pairs.{laid_from}
use Rattle.numerals.proofs.put_pairs.Given as goal

abbrev pub invariant-loop-t : goal.invariant-loop-t
invariant-loop-t l = (chunks_exact_size l.pairs ≡ 2) × (laid_from l.t-index (chunks_exact_rest l.pairs) l.target ≡ laid_over (pair_bytes l.w) l.initial.target)
