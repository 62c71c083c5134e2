-- The laws of set codes. Document 02, 2026-02: 108 codes for 108 sets, each way and back. `code_laws` of `proofs/Laws.antt` proves them.
use Rattle.std.specs.Prelude.{◌≡◌, false, ℕ, ◌+◌, ◌*◌, ◌≤◌, ◌<◌, T, length, Some, None}
use Rattle.modes.specs.declared.ModeSet.{ModeSet}
use Rattle.modes.specs.Sets.{coherent_set}
use Rattle.modes.specs.Numbers.{lateral_number, vertical_number}
use Rattle.modes.specs.Every.{armed_number, flag_number}
use Rattle.modes.specs.Row.{coded_sets, code_of}
use Rattle.codes.specs.Codes.{set_of}

-- the one set that a code has
pub record OneSet (n : ℕ) : Type 0 where
  pub set : ModeSet
  pub has : set_of n ≡ Some set
  pub coherent : T (coherent_set set)
  -- the set's code is n again
  pub back : code_of set ≡ n

-- lateral law, armed lateral mode, vertical law and VAPPR's arming, as the digits of one number, the first of which weighs most
abbrev pub rank : ModeSet → ℕ
rank ModeSet.Off = 0
rank (ModeSet.On m) =
    ((lateral_number m.lateral * 3 + armed_number m.armed) * 9 + vertical_number m.vertical) * 2 + flag_number m.vappr_armed

pub record CodeLaws : Type 0 where
  pub count : length coded_sets ≡ 108
  -- 0 is Off
  pub off : code_of ModeSet.Off ≡ 0
  -- a coherent set has a code from 0 to 107, and that code has this set; so no two sets have one code
  pub code : (s : ModeSet) → T (coherent_set s) → code_of s < 108
  pub set_back : (s : ModeSet) → T (coherent_set s) → set_of (code_of s) ≡ Some s
  -- each such code has a coherent set, and that set has this code; so no two codes have one set
  pub set : (n : ℕ) → n < 108 → OneSet n
  -- a higher code is that of a set that ranks higher
  pub ordered : (s t : ModeSet) → T (coherent_set s) → T (coherent_set t) → code_of s < code_of t → rank s < rank t
  -- any other set, and any other number, is told apart
  pub no_code : (s : ModeSet) → coherent_set s ≡ false → code_of s ≡ 108
  pub no_set : (n : ℕ) → 108 ≤ n → set_of n ≡ None
