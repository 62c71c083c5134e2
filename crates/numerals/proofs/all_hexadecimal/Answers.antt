-- `numerals::all_hexadecimal` meets its contract: all bytes pass the test of a digit. Assumes nothing.
use Rattle.std.proofs.Common.{◌≡◌, ℕ, ltb, List, [], ◌∷◌, refl, ◌∙◌, rules, tests}
use Rattle.std.proofs.lemmas.Iterator.{YieldsList-from_slice}
use Rattle.std.proofs.lemmas.Iterator.Search.{all_from_yields_List}
use Rattle.std.specs.List.{list_all}
use Rattle.numerals.specs.Digits.{digit_of, all_digits}
use Rattle.numerals.proofs.all_hexadecimal.Goals as goal

listed : (w : List ℕ) → list_all (λ b. ltb (digit_of b) 16) w ≡ all_digits 16 w
unfolding all_digits
listed [] = refl
listed (b ∷ w) = rw (listed w)

pub returns : goal.returns
returns c =
    all_from_yields_List (λ b. ltb (digit_of b) 16) _ _ _ c.all.ensures.ran (YieldsList-from_slice c.args.w.now cc) (λ x b q k. search (rules, tests))
    ∙ listed c.args.w.now
