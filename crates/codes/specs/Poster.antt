-- The poster of all sets. Document 02, 2026-07: each coherent set by its laws and its armed sum, in the order of the codes. `poster_laws` of `proofs/Poster.antt` proves
-- the laws.
use Rattle.std.specs.Prelude.{◌≡◌, Bool, false, List, map, ℕ, ◌+◌, ◌*◌, ◌/◌, ◌%◌, ◌<◌, T, eqb, length, slice_index}
use Rattle.modes.specs.declared.ModeSet.{ModeSet}
use Rattle.modes.specs.Sets.{Mode, NAV, LAPPR, ALTSEL, VAPPR, armed, coherent_set}
use Rattle.modes.specs.Numbers.{lateral_law, vertical_law, armed_sum}
use Rattle.modes.specs.Row.{coded_sets, code_of}

-- a set as one number
abbrev pub set_number : ModeSet → ℕ
set_number s = lateral_law s * 256 + vertical_law s * 16 + armed_sum s

-- all coherent sets so
unfoldable pub set_numbers : List ℕ
set_numbers = map set_number coded_sets

-- the number of a code
abbrev pub number_at : ℕ → ℕ
number_at code = slice_index set_numbers code

-- ---- what a number says: the three that the poster prints behind the code, and which modes are armed

abbrev pub lateral_in : ℕ → ℕ
lateral_in n = n / 256

abbrev pub armed_sum_in : ℕ → ℕ
armed_sum_in n = n % 16

abbrev pub vertical_in : ℕ → ℕ
vertical_in n = n / 16 % 16

-- the armed sum has the part k, a power of two
abbrev pub has_part : ℕ → ℕ → Bool
has_part k n = eqb (armed_sum_in n / k % 2) 1

-- x is armed in a set, which may be Off
abbrev pub armed_in : Mode → ModeSet → Bool
armed_in x ModeSet.Off = false
armed_in x (ModeSet.On m) = armed x m

-- a number shows a set: its laws, its armed sum, and which of the four modes that can be armed are
pub record Shows (n : ℕ) (s : ModeSet) : Type 0 where
  pub lateral : lateral_in n ≡ lateral_law s
  pub armed_sum_shown : armed_sum_in n ≡ armed_sum s
  pub vertical : vertical_in n ≡ vertical_law s
  pub nav : has_part 1 n ≡ armed_in NAV s
  pub lappr : has_part 2 n ≡ armed_in LAPPR s
  pub altsel : has_part 4 n ≡ armed_in ALTSEL s
  pub vappr : has_part 8 n ≡ armed_in VAPPR s

-- ---- the laws

-- the one place of a set in the list, its code
pub record OnePlace (s : ModeSet) : Type 0 where
  pub inside : code_of s < 108
  pub shown : Shows (number_at (code_of s)) s
  pub only : (code : ℕ) → code < 108 → Shows (number_at code) s → code ≡ code_of s

-- the coherent set that a place of the list shows; it shows no other, coherent or not
pub record PlaceOfSet (code : ℕ) : Type 0 where
  pub set : ModeSet
  pub coherent : T (coherent_set set)
  pub coded : code_of set ≡ code
  pub shown : Shows (number_at code) set
  pub alone : (s : ModeSet) → Shows (number_at code) s → s ≡ set

pub record PosterLaws : Type 0 where
  pub count : length set_numbers ≡ 108
  -- the lines that the paper gives: 0 0 0 0, 1 1 4 1 and 107 5 14 8
  pub first : number_at 0 ≡ 0
  pub second : number_at 1 ≡ 1 * 256 + 1 * 16 + 4
  pub last : number_at 107 ≡ 5 * 256 + 8 * 16 + 14
  -- each coherent set once
  pub each : (s : ModeSet) → T (coherent_set s) → OnePlace s
  -- and no other
  pub no_other : (code : ℕ) → code < 108 → PlaceOfSet code
  -- no two places are equal
  pub no_two : (code other : ℕ) → code < 108 → other < 108 → number_at code ≡ number_at other → code ≡ other
