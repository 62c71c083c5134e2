-- The bench sheet, proved by computing with the rules. Assumes nothing.
use mathlib.Core.Path.{refl}
use Rattle.claim.specs.Sheet.{Sheet}
use Rattle.claim.proofs.Computing.{rules}

pub sheet : Sheet
unfolding rules
sheet = record {
  case1 = (refl, refl, refl);
  case2 = (refl, refl, refl, refl, refl);
  case3 = (refl, refl);
  case4 = (refl, refl, refl, refl, refl, refl);
  case5 = (refl, refl, refl, refl, refl, refl, refl);
  case6 = (refl, refl, refl, refl);
  case7 = (refl, refl, refl);
  case8 = (refl, refl, refl, refl, refl, refl, refl, refl);
  case9 = (refl, refl, refl, refl);
  case10 = (refl, refl);
  case11 = (refl, refl, refl, refl, refl);
  case12 = (refl, refl, refl, refl);
}
