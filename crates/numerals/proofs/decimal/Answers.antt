-- `numerals::decimal` meets its contract: `position` finds the first point, if there is one. Assumes nothing.
use Rattle.std.proofs.Common.{ℕ, eqb, sym, ◌∙◌, arith, rules, tests}
use Rattle.std.proofs.lemmas.Iterator.{YieldsList-from_slice}
use Rattle.std.proofs.lemmas.Iterator.Search.{position_from_yields_List}
use Rattle.numerals.proofs.Decimals.{no_point_is, point_is}
use Rattle.numerals.proofs.decimal.Goals as goal

pub returns-in_default : goal.returns-in_default
returns-in_default c =
    let w = c.args.w.now in
    let found = position_from_yields_List (λ (b : ℕ). eqb b 46) _ _ _ c.position.ensures.ran (YieldsList-from_slice w cc) (λ x b f k. search (rules, tests)) in
    c.whole.ensures ∙ no_point_is w (sym c.in_default.is ∙ found)

pub returns : goal.returns
returns c =
    let w = c.args.w.now in
    let found = position_from_yields_List (λ (b : ℕ). eqb b 46) _ _ _ c.position.ensures.ran (YieldsList-from_slice w cc) (λ x b f k. search (rules, tests)) in
    c.pointed.ensures ∙ point_is w c.in-Some.p (sym c.in-Some.is ∙ found) (omega (arith, c.in-Some.ensures.bound))
