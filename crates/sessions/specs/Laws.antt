-- The laws of sessions: a session that was fed a script has the bench and the bus area that the script means. `session_laws` of `proofs/Laws.antt` proves them.
use Rattle.std.specs.Prelude.{◌≡◌, ℕ, ◌+◌, ◌%◌, ◌^◌, ◌<◌, ◌≤◌, min, Bool, cond, List, [], ◌∷◌, ◌++◌, length, take, ◌≢◌, slice_index, slice_index_or}
use mathlib.Core.List.{flatten}
use Rattle.rounding.specs.Whole.{signed_of}
use Rattle.numerals.specs.Numbers.{clicks_back}
use Rattle.rotation.specs.Rotation.{rotation_of}
use Rattle.sessions.specs.Script.{lines_of, all_lines, asked, bench_of, area_of, watch_of}
use Rattle.sessions.specs.declared.Session.{Session}
use Rattle.sessions.specs.Sessions.{beginning, carried_out, after_line, byte_taken, after_byte, after_end, fed_all}

-- a session which has read a script
pub record HasRead (script : List ℕ) (s : Session) : Type 0 where
  -- bench, area and watch are those that the ended lines leave, and they are counted
  pub bench : s.bench ≡ bench_of (lines_of script).ended
  pub area : s.area ≡ area_of (lines_of script).ended
  pub watch : s.watch ≡ watch_of (lines_of script).ended
  pub counted : s.lines ≡ length (lines_of script).ended % 2 ^ 64
  -- what follows the last line end is kept, up to 256 bytes
  pub filled : length s.line ≡ min 256 (length (lines_of script).last)
  pub kept : s.line ≡ take 256 (lines_of script).last
  -- a line end would carry out what that line asks for,
  pub heard : byte_taken s 10 ≡ carried_out s (lines_of script).last (asked (lines_of script).last)
  pub heard_after : after_byte s 10 ≡ after_line s (lines_of script).last (asked (lines_of script).last)
  -- and the script's end leaves the bench and the area of all its lines
  pub ended : (after_end s).bench ≡ bench_of (all_lines script)
  pub ended_area : (after_end s).area ≡ area_of (all_lines script)

-- lines as a script writes them
abbrev pub written : List (List ℕ) → List ℕ → List ℕ
written [] last = last
written (line ∷ more) last = line ++ 10 ∷ written more last

-- what n clicks, back or forward, add to a count
abbrev pub added : Bool → ℕ → ℕ
added back n = cond back (clicks_back n) n

pub record SessionLaws : Type 0 where
  -- a session that begins reads every script, in whatever pieces it comes
  pub reads : (pieces : List (List ℕ)) → HasRead (flatten pieces) (fed_all beginning pieces)
  -- the lines of a script are all of it, and none of them holds a line end
  pub whole : (script : List ℕ) → written (lines_of script).ended (lines_of script).last ≡ script
  pub no_end : (script : List ℕ) (k i : ℕ) → slice_index (slice_index_or (lines_of script).ended k []) i ≢ 10
  pub no_end_last : (script : List ℕ) (i : ℕ) → slice_index (lines_of script).last i ≢ 10
  -- a knob is turned by the clicks that its line says: back by 128 at most, or forward by 127
  pub turns : (last : ℕ) (back : Bool) (n : ℕ) → last < 256 → n ≤ cond back 128 127 → rotation_of last ((last + added back n) % 256) ≡ signed_of back n
