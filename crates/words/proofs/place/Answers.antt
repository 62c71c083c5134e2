-- `place`: `position` finds the first such byte, if there is one.
use Rattle.std.proofs.Common.{ℕ, eqb, Option, unwrap_or, length, ap, ◌∙◌, rules, tests}
use Rattle.std.proofs.lemmas.Iterator.{YieldsList-from_slice}
use Rattle.std.proofs.lemmas.Iterator.Search.{position_from_yields_List}
use Rattle.words.proofs.Runs.{first_or_all}
use Rattle.words.proofs.place.Goals as goal

pub returns : goal.returns
returns c =
    let text = c.args.text.now in
    let q = λ (b : ℕ). eqb b c.args.byte in
    c.unwrap_or.ensures
    ∙ ap (λ (o : Option ℕ). unwrap_or o (length text))
    (position_from_yields_List q _ _ _ c.position.ensures.ran (YieldsList-from_slice text cc) (λ x b f k. search (rules, tests)))
    ∙ first_or_all q text
