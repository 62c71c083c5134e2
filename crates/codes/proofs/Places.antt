-- A test of each member of a list and its place, computed over the whole list at once, holds at every place. Assumes nothing.
use mathlib.Core.Path.{sym, ◌∙◌, subst}
use mathlib.Core.Bool.{Bool, true, ◌&&◌}
use mathlib.Core.List.{List, [], ◌∷◌}
use Prim.Native.Nat.{ℕ, zero, suc, ◌+◌, ◌<◌}
use native.Mathlib.Nat.{add-zero, zero-add, add-suc, suc-add, le_of_suc-le-suc, not-suc-le-zero}
use lib.Dec.{T}
use lib.ListN.{length, get_or}
use Rattle.modes.proofs.Finite.{both_left, both_right}

-- places are counted from k
abbrev pub every_from : {A : Type 0} → (ℕ → A → Bool) → ℕ → List A → Bool
every_from p k [] = true
every_from p k (x ∷ xs) = p k x && every_from p (suc k) xs

from : {A : Type 0} (p : ℕ → A → Bool) (d : A) (xs : List A) (k : ℕ) → T (every_from p k xs) → (n : ℕ) → n < length xs → T (p (k + n) (get_or xs n d))
from p d [] k t n h = absurd (not-suc-le-zero h)
from p d (x ∷ xs) k t zero h = subst (λ (m : ℕ). T (p m x)) (sym (add-zero k)) (both_left (p k x) (every_from p (suc k) xs) t)
from p d (x ∷ xs) k t (suc n) h =
    subst (λ (m : ℕ). T (p m (get_or xs n d))) (suc-add k n ∙ sym (add-suc k n))
    (from p d xs (suc k) (both_right (p k x) (every_from p (suc k) xs) t) n (le_of_suc-le-suc h))

pub at_place : {A : Type 0} (p : ℕ → A → Bool) (d : A) (xs : List A) → T (every_from p 0 xs) → (n : ℕ) → n < length xs → T (p n (get_or xs n d))
at_place p d xs t n h = subst (λ (m : ℕ). T (p m (get_or xs n d))) (zero-add n) (from p d xs 0 t n h)
