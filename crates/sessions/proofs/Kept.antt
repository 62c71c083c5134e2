-- What a session keeps of a line: all of it, or its first 256 bytes, which do what the line does. Assumes nothing.
use Rattle.std.proofs.Common.{◌≡◌, ℕ, ◌≤◌, Bool, true, false, leb, List, [], ◌∷◌, ◌++◌, length, take, refl, sym, ap, ◌∙◌, Err, arith, length-append, length-take, take_all, leb-false, leb-true, eqb, eqb-true}
use borrow.Author.Tests.{lt-leb, eqb-false}
use lib.Seq.{take-append-le}
use native.Mathlib.Decide.{dec_le}
use Rattle.scripts.specs.Commands.{Asked}
use Rattle.scripts.specs.declared.Mistake.{Mistake}
use Rattle.sessions.specs.declared.Session.{Session}
use Rattle.sessions.specs.Script.{asked}
use Rattle.sessions.specs.Sessions.{with_byte}

module _ (line kept : List ℕ) (holds : kept ≡ take 256 line) where
  whole : length line ≤ 256 → kept ≡ line
  whole h = holds ∙ take_all 256 line h

  full : 256 ≤ length line → length kept ≡ 256
  full h = ap (λ (l : List ℕ). length l) holds ∙ omega (arith, length-take 256 line)

  -- what is kept does what the line does, as far as nothing is done with the bytes of a line that is too long
  pub line_does : {X : Type 0} (does : List ℕ → Asked → X) → ((t u : List ℕ) → does t (Err Mistake.TooLong) ≡ does u (Err Mistake.TooLong)) →
      does kept (asked kept) ≡ does line (asked line)
  unfolding asked
  line_does does same = go (leb (length line) 255) refl
    where
      go : (t : Bool) → leb (length line) 255 ≡ t → does kept (asked kept) ≡ does line (asked line)
      go true e = let short = leb-true (length line) 255 e in ap (λ (text : List ℕ). does text (asked text)) (whole (omega arith))
      go false e =
          let long = leb-false (length line) 255 e in
          let size : length kept ≡ 256 = full (omega arith) in
          let past : leb (length kept) 255 ≡ false = lt-leb (length kept) 255 (omega arith) in
          rw (past, e) (same kept line)

  -- one byte more is kept, if it has room
  pub one_more : (byte : ℕ) → take 256 (kept ++ byte ∷ []) ≡ take 256 (line ++ byte ∷ [])
  one_more byte = elim (dec_le 256 (length line)) [
    | yes l ↦
        let size : length kept ≡ 256 = full l in
        take-append-le 256 kept (byte ∷ []) (omega arith) ∙ take_all 256 kept (omega arith) ∙ holds ∙ sym (take-append-le 256 line (byte ∷ []) l)
    | no l ↦ ap (λ (text : List ℕ). take 256 (text ++ byte ∷ [])) (whole (omega arith))
  ]

-- ---- the session that keeps a byte

module _ (s : Session) (byte : ℕ) where
  -- one that has room is the line's last byte
  pub put : (line : List ℕ) → line ≡ s.line ++ byte ∷ [] → length s.line ≤ 256 → eqb (length s.line) 256 ≡ false →
      record { bench = s.bench; lines = s.lines; line = line; watch = s.watch; area = s.area } ≡ with_byte s byte
  put line e h none =
      let room = length-append s.line (byte ∷ []) in
      let other = eqb-false (length s.line) 256 none in
      rw (take_all 256 (s.line ++ byte ∷ []) (omega (arith, room, other)), ← e)

  -- and one that has none changes nothing
  pub dropped : eqb (length s.line) 256 ≡ true → s ≡ with_byte s byte
  dropped full =
      let size = eqb-true (length s.line) 256 full in
      rw (take-append-le 256 s.line (byte ∷ []) (omega arith), take_all 256 s.line (omega arith))
