-- `rounding::whole_of_bits` meets its contract: each return is a case of the pattern's exponent field, and what is answered there is the
-- whole value of every float with such a field (`proofs/Floats.antt`, which the function names for the first three). Assumes nothing.
use Rattle.std.proofs.Common.{ℕ, ◌-◌, ◌≤◌, ◌∙◌, ap, arith, w64}
use Rattle.std.proofs.lemmas.Int.{to_z-of_z}
use Rattle.rounding.specs.Whole.{signed_of, in_answer}
use Rattle.rounding.proofs.Floats.{sign, field, bits_middle}
use Rattle.rounding.proofs.whole_of_bits.Goals as goal
use Rattle.rounding.proofs.whole_of_bits.Goals.{After-nearest-magnitude}

-- The loop of `nearest` has a round for each place: 53 at most, since no field below 1022 comes so far.
pub at_most_53 : (c : After-nearest-magnitude) → 1075 - field c.args.bits ≤ 53
at_most_53 c = omega arith

-- from a half on: the digits, rounded, with their sign
pub returns : goal.returns
returns c =
    c.in_answer.ensures
    ∙ ap in_answer (to_z-of_z w64 c.signed.result (record { sfits = c.signed.type_inv }) ∙ c.signed.ensures)
    ∙ ap (λ (q : ℕ). in_answer (signed_of (sign c.args.bits) q)) c.nearest-magnitude.ensures
    ∙ bits_middle c.args.bits c.if-exponent-lt1022.false (omega arith)
