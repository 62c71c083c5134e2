-- `lie_inside`: a line of so many pairs holds so many bytes (`how_many`).
use Rattle.std.proofs.Common.{◌≡◌, ℕ, ◌/◌, ◌<◌, List, length, sym, ap, ◌∙◌, arith}
use borrow.Author.Tests.{lt-leb}
use Rattle.scripts.specs.Commands.{pairs_of}
use Rattle.numerals.proofs.Pairs.{how_many}
use Rattle.areas.specs.Areas.{poked_bytes}
use Rattle.areas.proofs.Areas.{too_many, last_start}
use Rattle.areas.proofs.lie_inside.Goals as goal

-- as many as the line holds bytes
counted : (line pairs : List ℕ) → pairs ≡ pairs_of line → length pairs / 2 ≡ length (poked_bytes line)
counted line pairs e = ap (λ (w : List ℕ). length w / 2) e ∙ sym (how_many (pairs_of line))

pub returns-then-count-area : goal.returns-then-count-area
returns-then-count-area c =
    last_start c.args.start (poked_bytes c.args.line.now) c.args.area.now _ (counted c.args.line.now c.pairs_of.result.now c.pairs_of.ensures) (omega arith)

pub returns-else-count-area : goal.returns-else-count-area
returns-else-count-area c =
    let few : length c.args.area.now < length c.pairs_of.result.now / 2 = omega arith in
    lt-leb _ _ few ∙ sym (too_many c.args.start (poked_bytes c.args.line.now) c.args.area.now _ (counted c.args.line.now c.pairs_of.result.now c.pairs_of.ensures) few)
