-- `numerals::signed_decimal` meets its contract: the float nearest to a negated decimal is the negated float (`negated_is`). Assumes nothing.
use Rattle.std.proofs.Common.{Bool, false, sym, ap, ◌∙◌}
use Rattle.std.specs.Option.{option_map}
use lib.Ieee.{neg}
use Rattle.numerals.specs.Words.{has_minus, unsigned}
use Rattle.numerals.specs.Values.{decimal_as}
use Rattle.numerals.proofs.Decimals.{negated_is, none_signed}
use Rattle.numerals.proofs.signed_decimal.Goals as goal

pub returns-in_err-size : goal.returns-in_err-size
returns-in_err-size c = let e = none_signed (has_minus c.args.w.now) (unsigned c.args.w.now) (c.in_err-size.ensures ∙ ap (decimal_as false) c.unsigned.ensures) in cc

pub returns-then-has_minus : goal.returns-then-has_minus
returns-then-has_minus c =
    let v = unsigned c.args.w.now in
    ap (option_map neg) (c.in_ok-size.ensures ∙ ap (decimal_as false) c.unsigned.ensures)
    ∙ negated_is v
    ∙ ap (λ (s : Bool). decimal_as s v) (sym c.if-has_minus.true ∙ c.has_minus.ensures)
