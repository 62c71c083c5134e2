-- `numerals::put_pairs` meets its contract: a turn writes the byte of the next pair (`one_more`), until no pair is left (`none_more`) or the target ends. Assumes nothing.
use Rattle.std.proofs.Common.{sym, ◌∙◌, arith}
use Rattle.std.proofs.lemmas.List.{set-get_or}
use Rattle.std.specs.Slice.Iter.{chunks_exact_rest}
use Rattle.numerals.proofs.Pairs.{one_more, none_more}
use Rattle.numerals.proofs.put_pairs.Goals as goal

pub returns-in_default : goal.returns-in_default
returns-in_default c =
    let l = c.loop-t in
    set-get_or l.target l.t-index 0 ∙ sym (none_more (chunks_exact_rest l.pairs) l.target l.t-index (omega (arith, c.in_default.ensures.steps.1.0))) ∙ l.invariant.1

pub loop-t-preserved : goal.loop-t-preserved
loop-t-preserved c =
    let l = c.loop-t in
    let s = c.in-Some.ensures.steps in (
      s.0 ∙ l.invariant.0,
      one_more (chunks_exact_rest l.pairs) c.in-Some.p.now (chunks_exact_rest c.next.new.self) l.target l.t-index c.pair.result s.1.0 (s.1.1 ∙ l.invariant.0) (omega arith) c.pair.ensures
          ∙ l.invariant.1,
    )
