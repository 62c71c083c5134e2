-- Lists of the values of a type, and tests over them.
use Rattle.std.specs.Prelude.{◌≡◌, Bool, true, ◌&&◌, List, [], ◌∷◌, ℕ, zero, suc, ◌+◌}

abbrev pub every : {A : Type 0} → (A → Bool) → List A → Bool
every p [] = true
every p (x ∷ xs) = p x && every p xs

abbrev pub total : {A : Type 0} → (A → ℕ) → List A → ℕ
total f [] = 0
total f (x ∷ xs) = f x + total f xs

-- the value at a place of a list, and d past its end
abbrev pub pick : {A : Type 0} → A → List A → ℕ → A
pick d [] k = d
pick d (x ∷ xs) zero = x
pick d (x ∷ xs) (suc k) = pick d xs k

-- all values of a type in a list, their numbers, and the place in the list that a number has
pub record Finite (A : Type 0) : Type 0 where
  pub first : A
  pub rest : List A
  pub number : A → ℕ
  pub place : ℕ → ℕ
  pub back : (x : A) → pick first (first ∷ rest) (place (number x)) ≡ x

abbrev pub all : {A : Type 0} → Finite A → List A
all F = F.first ∷ F.rest
