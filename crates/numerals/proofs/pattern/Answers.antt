-- `numerals::pattern` meets its contract: 16 digits behind 0x are a number that 64 bits hold (`pattern_is`). Assumes nothing.
use Rattle.std.proofs.Common.{ℕ, Some, List, length, sym, ap, ◌∙◌}
use lib.Ieee.{binary64, of_bits}
use Rattle.std.specs.Option.{option_map}
use Rattle.numerals.specs.Private.{read_on}
use Rattle.numerals.proofs.Patterns.{no_prefix, other_length, pattern_is}
use Rattle.numerals.proofs.pattern.Goals as goal

pub returns-in_err-digits : goal.returns-in_err-digits
returns-in_err-digits c = let e = no_prefix c.args.w.now c.in_err-digits.ensures.cases in cc

pub returns-then-digits-ne16 : goal.returns-then-digits-ne16
returns-then-digits-ne16 c =
    other_length c.args.w.now (λ e. c.if-digits-ne16.true (ap (λ (w : List ℕ). length w) c.in_ok-digits.ensures.cases.1 ∙ e))

pub returns-in_err-bits : goal.returns-in_err-bits
returns-in_err-bits c =
    let h = c.in_ok-digits.ensures.cases in
    let e =
    ap (option_map (of_bits binary64)) (c.in_err-bits.ensures ∙ ap (read_on 16 18446744073709551615 0) h.1)
    ∙ pattern_is c.args.w.now h.0 (sym (ap (λ (w : List ℕ). length w) h.1) ∙ c.if-digits-ne16.false) in
    cc

pub returns : goal.returns
returns c =
    let h = c.in_ok-digits.ensures.cases in
    ap Some c.from_pattern.ensures
    ∙ ap (option_map (of_bits binary64)) (c.in_ok-bits.ensures ∙ ap (read_on 16 18446744073709551615 0) h.1)
    ∙ pattern_is c.args.w.now h.0 (sym (ap (λ (w : List ℕ). length w) h.1) ∙ c.if-digits-ne16.false)
