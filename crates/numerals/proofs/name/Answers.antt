-- `numerals::name` meets its contract: the word is the name of its arm, byte by byte, and the constant is the float of that name. Assumes nothing.
use Rattle.std.proofs.Common.{[], ◌∷◌, refl, arith}
use Rattle.std.proofs.lemmas.Slice.Eq.{text_from_reads}
use lib.Ieee.{of_bits}
use Rattle.numerals.proofs.name.Goals as goal

pub returns-in-nan : goal.returns-in-nan
unfolding of_bits
returns-in-nan c = rw (text_from_reads c.args.w.now (110 ∷ 97 ∷ 110 ∷ []) (omega arith) (search arith)) refl

pub returns-in-inf : goal.returns-in-inf
unfolding of_bits
returns-in-inf c = rw (text_from_reads c.args.w.now (105 ∷ 110 ∷ 102 ∷ []) (omega arith) (search arith)) refl

pub returns-in-45 : goal.returns-in-45
unfolding of_bits
returns-in-45 c = rw (text_from_reads c.args.w.now (45 ∷ 105 ∷ 110 ∷ 102 ∷ []) (omega arith) (search arith)) refl
