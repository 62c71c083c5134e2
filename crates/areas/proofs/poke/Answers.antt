-- `poke`: bytes that lie inside the area are put into the part from the start on, and the part comes back (`put_poked`).
use Rattle.std.proofs.Common.{ℕ, List, sym, ap, ◌∙◌}
use Rattle.numerals.specs.Pairs.{pair_bytes, laid_over}
use Rattle.frames.proofs.Areas.{from}
use Rattle.areas.specs.Areas.{poked_bytes, poked}
use Rattle.areas.proofs.Areas.{put_poked}
use Rattle.areas.proofs.poke.Goals as goal

pub returns-then-not-lie_inside-clause-new_area : goal.returns-then-not-lie_inside-clause-new_area
unfolding poked
returns-then-not-lie_inside-clause-new_area c = rw (← c.if-not-lie_inside.ensures)

pub returns-clause-new_area : goal.returns-clause-new_area
returns-clause-new_area c =
    put_poked c.args.start (poked_bytes c.args.line.now) c.args.area.now (sym c.if-not-lie_inside.ensures) c.put_pairs.new.target
    (c.put_pairs.ensures ∙ ap (λ (w : List ℕ). laid_over (pair_bytes w) (from c.args.start c.args.area.now)) c.pairs_of.ensures)
