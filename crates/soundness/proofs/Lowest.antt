-- The event that a word names: its lowest set bit. Document 01, 'Event words'. `count_trailing_zeros 32 w` is that bit's number, and 32 where none is set. Assumes nothing.
use mathlib.Core.Path.{◌≡◌, refl}
use Prim.Native.Nat.{ℕ, zero, suc, ◌/◌, ◌%◌, ◌^◌, ◌<◌, ◌≤◌}
use native.Mathlib.Nat.{le_of_suc-le-suc, not-suc-le-zero, mod-lt, zero-lt-suc}
use native.Mathlib.Omega.{arith}
use lib.Pow.{shr_lt}
use native.Mathlib.Numerals.{add-one}
use lib.Count.{count_trailing_zeros, under}
use Rattle.soundness.specs.Lowest.{bit, IsLowest, NamesLowest}

-- below the lowest set bit every bit is 0
below_under : (d t w j : ℕ) → w % 2 ≡ d → j < under d t → ((i : ℕ) → i < t → bit i (w / 2) ≡ 0) → bit j w ≡ 0
unfolding bit
below_under zero t w zero e h f = e
below_under zero t w (suc j) e h f = f j (le_of_suc-le-suc h)
below_under (suc d) t w j e h f = absurd (not-suc-le-zero h)

below : (k w j : ℕ) → j < count_trailing_zeros k w → bit j w ≡ 0
unfolding count_trailing_zeros
below zero w j h = absurd (not-suc-le-zero h)
below (suc k) w j h = below_under (w % 2) (count_trailing_zeros k (w / 2)) w j refl h (below k (w / 2))

-- the lowest set bit is 1
set_under : (d t w k : ℕ) → w % 2 ≡ d → under d t < suc k → (t < k → bit t (w / 2) ≡ 1) → bit (under d t) w ≡ 1
unfolding bit
set_under zero t w k e h f = f (le_of_suc-le-suc h)
set_under (suc d) t w k e h f = let m = mod-lt w (zero-lt-suc 1) in omega arith

set_bit : (k w : ℕ) → count_trailing_zeros k w < k → bit (count_trailing_zeros k w) w ≡ 1
unfolding count_trailing_zeros
set_bit zero w h = absurd (not-suc-le-zero h)
set_bit (suc k) w h = set_under (w % 2) (count_trailing_zeros k (w / 2)) w k refl h (set_bit k (w / 2))

clear_zero : (j : ℕ) → bit j 0 ≡ 0
unfolding bit
clear_zero zero = refl
clear_zero (suc j) = clear_zero j

-- a number below 2 ^ k has no bit from k on
high_clear : (k w j : ℕ) → w < 2 ^ k → k ≤ j → bit j w ≡ 0
unfolding bit
high_clear zero w j h l = let e : w ≡ 0 = omega arith in rw e (clear_zero j)
high_clear (suc k) w zero h l = absurd (omega arith)
high_clear (suc k) w (suc j) h l = high_clear k (w / 2) j (shr_lt k 1 (rw add-one h)) (le_of_suc-le-suc l)

pub names_lowest : (w : ℕ) → count_trailing_zeros 32 w < 32 → IsLowest (count_trailing_zeros 32 w) w
names_lowest w h = record { set = set_bit 32 w h; below_clear = below 32 w }

-- no bit is set where the answer is 32
pub names_none : (w : ℕ) → count_trailing_zeros 32 w ≡ 32 → (j : ℕ) → j < 32 → bit j w ≡ 0
names_none w e j h = below 32 w j (rw e h)

-- a word that refusal 4 lets pass names an event from 0 to 20, or none
pub names_event : (w : ℕ) → w < 2097152 → count_trailing_zeros 32 w < 32 → count_trailing_zeros 32 w < 21
names_event w h l =
    -- its bit is 1, and from 21 on every bit is 0
    let one = set_bit 32 w l in
    let clear : 21 ≤ count_trailing_zeros 32 w → bit (count_trailing_zeros 32 w) w ≡ 0 = high_clear 21 w _ h in
    grind arith

pub names : (w : ℕ) → NamesLowest w
names w = record { lowest = names_lowest w; none = names_none w; event = names_event w }
