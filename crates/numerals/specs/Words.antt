-- Parts of a word: its sign.
use Rattle.std.specs.Prelude.{ℕ, Bool, false, cond, List, [], ◌∷◌, drop, ◌==◌}

-- it begins with '-', byte 45
abbrev pub has_minus : List ℕ → Bool
has_minus [] = false
has_minus (b ∷ w) = b == 45

-- the word without its '-'
abbrev pub unsigned : List ℕ → List ℕ
unsigned w = cond (has_minus w) (drop 1 w) w
