-- The lines of a script: they are all of it, none holds a line end, and bytes in front are the first line's. Assumes nothing.
use Rattle.std.proofs.Common.{◌≡◌, ℕ, zero, suc, Bool, true, false, cond, eqb, List, [], ◌∷◌, ◌++◌, get_or, refl, ap, append_assoc, arith, eqb-true}
use borrow.Author.Tests.{eqb-false}
use Rattle.sessions.specs.Script.{Lines, in_front, lines_of}
use Rattle.sessions.specs.Laws.{written}

-- ---- nothing is lost, and lines hold no line end

abbrev Free : List ℕ → Type 0
Free line = (i : ℕ) → get_or line i 0 ≡ 10 → ⊥

free_cons : (byte : ℕ) (line : List ℕ) → (byte ≡ 10 → ⊥) → Free line → Free (byte ∷ line)
free_cons byte line h f zero e = h e
free_cons byte line h f (suc i) e = f i e

pub record Split (script : List ℕ) (l : Lines) : Type 0 where
  pub whole : written l.ended l.last ≡ script
  pub free : (k : ℕ) → Free (get_or l.ended k [])
  pub free_last : Free l.last

split_front : (byte : ℕ) (script : List ℕ) (ended : List (List ℕ)) (last : List ℕ) → (byte ≡ 10 → ⊥) →
    Split script (record { ended = ended; last = last }) → Split (byte ∷ script) (in_front byte ended last)
split_front byte script [] last h s = record { whole = ap (λ (l : List ℕ). byte ∷ l) s.whole; free = s.free; free_last = free_cons byte last h s.free_last }
split_front byte script (line ∷ more) last h s = record { whole = ap (λ (l : List ℕ). byte ∷ l) s.whole; free = each; free_last = s.free_last }
  where
    each : (k : ℕ) → Free (get_or ((byte ∷ line) ∷ more) k [])
    each zero = free_cons byte line h (s.free 0)
    each (suc k) = s.free (suc k)

pub split : (script : List ℕ) → Split script (lines_of script)
unfolding lines_of
split [] = record { whole = refl; free = λ k i e. omega arith; free_last = λ i e. omega arith }
split (byte ∷ more) = go (eqb byte 10) refl (split more)
  where
    go : (t : Bool) → eqb byte 10 ≡ t → Split more (lines_of more) →
        Split (byte ∷ more)
        (cond t (record { ended = [] ∷ (lines_of more).ended; last = (lines_of more).last }) (in_front byte (lines_of more).ended (lines_of more).last))
    go true e s = record { whole = rw (eqb-true byte 10 e, s.whole); free = each; free_last = s.free_last }
      where
        each : (k : ℕ) → Free (get_or ([] ∷ (lines_of more).ended) k [])
        each zero i e = omega arith
        each (suc k) i e = s.free k i e
    go false e s = split_front byte more (lines_of more).ended (lines_of more).last (eqb-false byte 10 e) s

-- ---- bytes in front

-- the lines with the bytes of a line in front
abbrev onto : List ℕ → List (List ℕ) → List ℕ → Lines
onto line [] last = record { ended = []; last = line ++ last }
onto line (first ∷ more) last = record { ended = (line ++ first) ∷ more; last = last }

-- the lines of a script that goes on where a line was begun
abbrev pub after : List ℕ → List ℕ → Lines
after line script = onto line (lines_of script).ended (lines_of script).last

onto_nil : (ended : List (List ℕ)) (last : List ℕ) → onto [] ended last ≡ record { ended = ended; last = last }
onto_nil [] last = refl
onto_nil (first ∷ more) last = refl

pub after_nil : (script : List ℕ) → after [] script ≡ lines_of script
after_nil script = onto_nil (lines_of script).ended (lines_of script).last

onto_byte : (line : List ℕ) (byte : ℕ) (ended : List (List ℕ)) (last : List ℕ) →
    onto line (in_front byte ended last).ended (in_front byte ended last).last ≡ onto (line ++ (byte ∷ [])) ended last
onto_byte line byte [] last = rw append_assoc
onto_byte line byte (first ∷ more) last = rw append_assoc

-- a line goes on with a byte that is no line end
pub after_byte : (line : List ℕ) (byte : ℕ) (script : List ℕ) → eqb byte 10 ≡ false → after line (byte ∷ script) ≡ after (line ++ (byte ∷ [])) script
unfolding lines_of
after_byte line byte script e = rw e (onto_byte line byte (lines_of script).ended (lines_of script).last)
