-- Pairs of hexadecimal digits: which words are pairs, how many bytes they make, and how these are laid over a target. Assumes nothing.
use Rattle.std.proofs.Common.{◌≡◌, ℕ, suc, ◌+◌, ◌/◌, ◌%◌, ◌<◌, ◌≤◌, false, List, [], ◌∷◌, ◌++◌, length, get_or, take, drop, set, refl, add-one, arith, take_all, drop-cons, eq-eqb, ne_eqb}
use mathlib.Core.Bool.{and-false, and-true}
use Rattle.std.proofs.lemmas.List.{take-append-drop, drop-set-lt, take_more_set, append_assoc}
use Rattle.std.specs.Option.{unwrap_or}
use Rattle.std.proofs.lemmas.Bool.Decides.{nat_tests}
use Rattle.numerals.specs.Private.{digit_in}
use Rattle.numerals.specs.Digits.{digit_of, all_digits, is_numeral}
use Rattle.numerals.specs.Pairs.{are_pairs, pair_byte, pair_bytes, laid_over}

-- ---- which words are pairs

pub empty_pairs : (w : List ℕ) → length w ≡ 0 → are_pairs w ≡ false
unfolding are_pairs is_numeral
empty_pairs [] h = refl
empty_pairs (b ∷ w) h = absurd (omega arith)

pub odd_pairs : (w : List ℕ) → length w % 2 ≡ 1 → are_pairs w ≡ false
unfolding are_pairs
odd_pairs w h = rw (ne_eqb (length w % 2) 0 (λ e. omega arith)) (and-false (is_numeral 16 w))

pub even_pairs : (w : List ℕ) → (length w ≡ 0 → ⊥) → (length w % 2 ≡ 1 → ⊥) → are_pairs w ≡ all_digits 16 w
unfolding are_pairs is_numeral
even_pairs [] h k = absurd (h refl)
even_pairs (b ∷ w) h k = rw (eq-eqb (length (b ∷ w) % 2) 0 (omega arith)) (and-true (all_digits 16 (b ∷ w)))

-- ---- their bytes

-- a byte that is no digit counts 16
pub or_sixteen : (b : ℕ) → unwrap_or (digit_in 16 b) 16 ≡ digit_of b
or_sixteen b = grind (arith, nat_tests)

pub within_sixteen : (b : ℕ) → unwrap_or (digit_in 16 b) 16 ≤ 16
within_sixteen b = grind (arith, nat_tests)

pub how_many : (w : List ℕ) → length (pair_bytes w) ≡ length w / 2
unfolding pair_bytes
how_many [] = refl
how_many (high ∷ []) = refl
how_many (high ∷ low ∷ w) = omega (arith, how_many w)

-- ---- bytes over a target, one after the other

-- the first i places are written; the bytes of the word w are laid over the others
abbrev pub laid_from : ℕ → List ℕ → List ℕ → List ℕ
laid_from i w target = take i target ++ laid_over (pair_bytes w) (drop i target)

-- the byte of the first pair p is written, and the other pairs v are left
pub one_more : (w p v target : List ℕ) (i b : ℕ) → w ≡ p ++ v → length p ≡ 2 → i < length target → b ≡ pair_byte (get_or p 0 0) (get_or p 1 0) →
    laid_from (i + 1) v (set target i b) ≡ laid_from i w target
unfolding pair_bytes
one_more w [] v target i b f g h e = absurd (omega arith)
one_more w (high ∷ []) v target i b f g h e = absurd (omega arith)
one_more w (high ∷ low ∷ []) v target i b f g h e =
    rw (take_more_set target i b h, drop-set-lt (i + 1) target i b (omega arith), drop-cons target i 0 h, add-one, e, f)
    (append_assoc (take i target) (pair_byte high low ∷ []) (laid_over (pair_bytes v) (drop (suc i) target)))
one_more w (high ∷ low ∷ more ∷ p) v target i b f g h e = absurd (omega arith)

-- no pair is left
pub none_more : (w target : List ℕ) (i : ℕ) → length w < 2 → laid_from i w target ≡ target
unfolding pair_bytes
none_more [] target i h = rw (take_all {A = ℕ} (length (drop i target)) [] (omega arith)) (take-append-drop i target)
none_more (high ∷ []) target i h = rw (take_all {A = ℕ} (length (drop i target)) [] (omega arith)) (take-append-drop i target)
none_more (high ∷ low ∷ w) target i h = absurd (omega arith)
