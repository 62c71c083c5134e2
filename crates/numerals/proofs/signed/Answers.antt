-- `numerals::signed` meets its contract: what 32 bits hold of a magnitude with its sign (`some_signed`). Assumes nothing.
use Rattle.std.proofs.Common.{◌∙◌, rules, w64, SFits}
use Rattle.std.proofs.lemmas.Int.{to_z-of_z}
use Rattle.numerals.proofs.Signs.{none_signed, some_signed}
use Rattle.numerals.proofs.signed.Goals as goal

pub returns-in_err-size : goal.returns-in_err-size
returns-in_err-size c = let e = none_signed c.args.w.now c.unsigned.result.now c.unsigned.ensures c.in_err-size.ensures in cc

pub returns : goal.returns
returns c =
    let f : SFits w64 c.with_sign.result = search rules in
    c.ok.ensures.value
    ∙ some_signed c.args.w.now c.unsigned.result.now c.unsigned.ensures c.in_ok-size.size c.has_minus.result c.with_sign.result c.try_from.result c.in_ok-size.ensures c.has_minus.ensures
    c.with_sign.ensures (simp to_z-of_z at c.try_from.ensures)
