-- What the theorem on event words says: which bit of a word decides. Document 01, 'Event words'.
use Rattle.std.specs.Prelude.{◌≡◌, ℕ, zero, suc, ◌/◌, ◌%◌, ◌<◌}
use Rattle.std.specs.Int.Count.{count_trailing_zeros}

-- bit j of w, lowest first: w halved j times, then its last digit
unfoldable pub bit : ℕ → ℕ → ℕ
bit zero w = w % 2
bit (suc j) w = bit j (w / 2)

-- n is the number of the lowest set bit of w
pub record IsLowest (n w : ℕ) : Type 0 where
  pub set : bit n w ≡ 1
  pub below_clear : (j : ℕ) → j < n → bit j w ≡ 0

-- the number of trailing zeros names the lowest set bit, 32 that none is set, and a word that refusal 4 lets pass an event from 0 to 20
pub record NamesLowest (w : ℕ) : Type 0 where
  pub lowest : count_trailing_zeros 32 w < 32 → IsLowest (count_trailing_zeros 32 w) w
  pub none : count_trailing_zeros 32 w ≡ 32 → (j : ℕ) → j < 32 → bit j w ≡ 0
  pub event : w < 2097152 → count_trailing_zeros 32 w < 32 → count_trailing_zeros 32 w < 21
