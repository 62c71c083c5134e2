-- `up_to`: the byte's place is in the text or at its end, so the part before it is what `take` gives.
use Rattle.std.proofs.Common.{sym, length-take-le}
use Rattle.words.specs.Words.{up_to}
use Rattle.words.proofs.Runs.{place_within}
use Rattle.words.proofs.up_to.Goals as goal

pub slice_bounds-result-end : goal.slice_bounds-result-end
slice_bounds-result-end c =
    sym (length-take-le _ _ (rw c.place-end.ensures (place_within c.args.byte c.args.text.now)))

pub returns : goal.returns
unfolding up_to
returns c = rw c.place-end.ensures
