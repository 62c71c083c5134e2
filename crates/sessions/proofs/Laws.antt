-- The laws of sessions: what a session has of the line that it reads, byte by byte, and then of a script. Assumes nothing.
use Rattle.std.proofs.Common.{◌≡◌, ℕ, suc, ◌+◌, ◌%◌, ◌^◌, ◌≤◌, Bool, true, false, cond, eqb, List, [], ◌∷◌, ◌++◌, length, take, refl, ap, ◌∙◌, append-nil, add-zero, zero-add, arith, length-take, take_all, ne_eqb, eqb-true, Err}
use mathlib.Core.List.{flatten}
use native.Mathlib.Nat.{mod-add-mod}
use Rattle.scripts.specs.declared.Mistake.{Mistake}
use Rattle.bench.specs.declared.Bench.{Bench}
use Rattle.bench.specs.Holds.{power_on}
use Rattle.acts.specs.Acts.{bench_after, effect_of}
use Rattle.areas.specs.Areas.{area_answer}
use Rattle.sessions.specs.Effects.{watch_after, area_after}
use Rattle.sessions.specs.Script.{lines_of, ending, asked, carried, carried_area, watched}
use Rattle.sessions.specs.declared.Session.{Session}
use Rattle.sessions.specs.Sessions.{beginning, carried_out, after_line, with_byte, byte_taken, after_byte, after_end, fed, fed_all}
use Rattle.sessions.specs.Laws.{SessionLaws}
use Rattle.sessions.proofs.Lines.{split, after, after_nil, after_byte as after_line_byte}
use Rattle.sessions.proofs.Clicks.{turns}
use Rattle.sessions.proofs.Kept.{line_does, one_more}
use Rattle.sessions.proofs.Areas.{after_fits}

-- ---- one byte

-- a session has bench b, watch w and an area of these bytes, has counted k lines, and reads a line
record At (b : Bench) (w : Bool) (bytes : List ℕ) (k : ℕ) (line : List ℕ) (s : Session) : Type 0 where
  bench : s.bench ≡ b
  watch : s.watch ≡ w
  area : s.area ≡ bytes
  stored : length bytes ≤ 2048
  counted : s.lines ≡ k % 2 ^ 64
  kept : s.line ≡ take 256 line

-- of a line that is too long no byte is looked at
too_long : (s : Session) (t u : List ℕ) → carried_out s t (Err Mistake.TooLong) ≡ carried_out s u (Err Mistake.TooLong)
unfolding carried_out area_answer
too_long s t u = refl

too_long_after : (s : Session) (t u : List ℕ) → after_line s t (Err Mistake.TooLong) ≡ after_line s u (Err Mistake.TooLong)
unfolding after_line
too_long_after s t u = refl

module _ {b : Bench} {w : Bool} {area : List ℕ} {k : ℕ} {line : List ℕ} {s : Session} (at : At b w area k line s) where
  -- the line is carried out that was read
  heard : carried_out s s.line (asked s.line) ≡ carried_out s line (asked line)
  heard = line_does line s.line at.kept (λ t c. carried_out s t c) (too_long s)

  heard_after : after_line s s.line (asked s.line) ≡ after_line s line (asked line)
  heard_after = line_does line s.line at.kept (λ t c. after_line s t c) (too_long_after s)

  -- the line has ended
  ended : At (bench_after (asked line) b) (watch_after (effect_of (asked line)) w) (area_after line (asked line) b area) (k + 1) [] (after_line s line (asked line))
  unfolding after_line
  ended =
      let fits = after_fits line b area at.stored in
      record {
        bench = rw at.bench;
        watch = rw at.watch;
        area = rw (at.bench, at.area) (take_all 2048 (area_after line (asked line) b area) fits);
        stored = fits;
        counted = rw at.counted (mod-add-mod k (2 ^ 64) 1);
        kept = refl;
      }

  at_end : At (bench_after (asked line) b) (watch_after (effect_of (asked line)) w) (area_after line (asked line) b area) (k + 1) [] (after_line s s.line (asked s.line))
  at_end = rw heard_after ended

  -- the line goes on
  at_byte : (byte : ℕ) → At b w area k (line ++ (byte ∷ [])) (with_byte s byte)
  at_byte byte = record { bench = at.bench; watch = at.watch; area = at.area; stored = at.stored; counted = at.counted; kept = one_more line s.line at.kept byte }

-- ---- a script

-- a session that reads a line goes on with a script
abbrev Goes : List ℕ → Type 0
Goes script = (b : Bench) (w : Bool) (area : List ℕ) (k : ℕ) (line : List ℕ) (s : Session) → At b w area k line s →
    At (carried (after line script).ended b) (watched (after line script).ended w) (carried_area (after line script).ended b area) (k + length (after line script).ended)
    (after line script).last (fed s script)

-- a byte that is no line end is kept
fed_byte : (byte : ℕ) (more : List ℕ) (s : Session) → eqb byte 10 ≡ false → fed s (byte ∷ more) ≡ fed (with_byte s byte) more
unfolding fed after_byte
fed_byte byte more s e = ap (λ (t : Bool). fed (cond t (after_line s s.line (asked s.line)) (with_byte s byte)) more) e

one_byte : (byte : ℕ) (more : List ℕ) → Goes more → (t : Bool) → eqb byte 10 ≡ t → Goes (byte ∷ more)
unfolding fed lines_of after_byte
one_byte byte more goes true e b w area k line s at =
    let one : (n : ℕ) → k + suc n ≡ k + 1 + n = λ n. omega arith in
    rw (eqb-true byte 10 e, append-nil, one) (rw after_nil at (goes _ _ _ _ _ _ (at_end at)))
one_byte byte more goes false e b w area k line s at =
    rw (after_line_byte line byte more e, fed_byte byte more s e) (goes _ _ _ _ _ _ (at_byte at byte))

goes : (script : List ℕ) → Goes script
unfolding fed lines_of
goes [] b w area k line s at = rw (add-zero, append-nil) at
goes (byte ∷ more) b w area k line s at = one_byte byte more (goes more) (eqb byte 10) refl b w area k line s at

-- pieces are read as the script that they make
fed_append : (piece more : List ℕ) (s : Session) → fed (fed s piece) more ≡ fed s (piece ++ more)
unfolding fed
fed_append [] more s = refl
fed_append (byte ∷ piece) more s = fed_append piece more _

fed_all_lem : (pieces : List (List ℕ)) (s : Session) → fed_all s pieces ≡ fed s (flatten pieces)
unfolding fed flatten
fed_all_lem [] s = refl
fed_all_lem (piece ∷ more) s = fed_all_lem more _ ∙ fed_append piece (flatten more) s

-- ---- its end

carried_append : (lines more : List (List ℕ)) (b : Bench) → carried (lines ++ more) b ≡ carried more (carried lines b)
carried_append [] more b = refl
carried_append (line ∷ lines) more b = carried_append lines more (bench_after (asked line) b)

area_append : (lines more : List (List ℕ)) (b : Bench) (area : List ℕ) → carried_area (lines ++ more) b area ≡ carried_area more (carried lines b) (carried_area lines b area)
area_append [] more b area = refl
area_append (line ∷ lines) more b area = area_append lines more (bench_after (asked line) b) (area_after line (asked line) b area)

-- what the script's end leaves
record Ends (b : Bench) (bytes : List ℕ) (line : List ℕ) (s : Session) : Type 0 where
  bench : (after_end s).bench ≡ carried (ending line) b
  area : (after_end s).area ≡ carried_area (ending line) b bytes

at_ending : (line : List ℕ) {b : Bench} {w : Bool} {area : List ℕ} {k : ℕ} {s : Session} → At b w area k line s → Ends b area line s
unfolding after_end
at_ending [] {s = s} at = rw at.kept (record { bench = at.bench; area = at.area })
at_ending (byte ∷ more) {s = s} at =
    let some = ne_eqb (length s.line) 0 (λ e. omega (arith, ap (λ (l : List ℕ). length l) at.kept)) in
    record { bench = simp some (at_end at).bench; area = simp some (at_end at).area }

pub session_laws : SessionLaws
unfolding byte_taken after_byte
session_laws = record {
  reads = λ pieces.
      let script = flatten pieces in
      let start : At power_on false [] 0 [] beginning = record { bench = refl; watch = refl; area = refl; stored = omega arith; counted = refl; kept = refl } in
      let at = rw (after_nil, zero-add) at (goes script _ _ _ _ _ _ start) in
      let ends = at_ending (lines_of script).last at in
      rw (fed_all_lem pieces beginning)
      (record {
        bench = at.bench;
        area = at.area;
        watch = at.watch;
        counted = at.counted;
        filled = ap (λ (l : List ℕ). length l) at.kept ∙ length-take 256 (lines_of script).last;
        kept = at.kept;
        heard = heard at;
        heard_after = heard_after at;
        ended = rw (carried_append (lines_of script).ended) ends.bench;
        ended_area = rw (area_append (lines_of script).ended) ends.area;
      });
  whole = λ script. (split script).whole;
  no_end = λ script. (split script).free;
  no_end_last = λ script. (split script).free_last;
  turns = turns;
}
