-- The laws of specs/Laws.antt: a run is all that its test holds of, and the test fails where it ends. Assumes nothing.
use mathlib.Core.Path.{◌≡◌, refl, sym, ◌∙◌}
use mathlib.Core.Bool.{Bool, true, false, not, cond}
use mathlib.Core.List.{List, [], ◌∷◌}
use Prim.Native.Nat.{ℕ, zero, suc, ◌<◌}
use native.Mathlib.Nat.{le_of_suc-le-suc, not-suc-le-zero}
use native.Mathlib.Omega.{arith}
use borrow.Author.Tests.{eqb-false, not-true, not-false}
use lib.ListN.{length, get_or, drop, take-append-drop, length-take}
use lib.Seq.{get_or-take}
use Rattle.std.proofs.lemmas.List.FromFn.{length-map-range_with_len, get_or-map-range_with_len}
use Rattle.words.specs.Words.{run, is_space, leading, place_of, up_to, past_spaces, first_word, past_word, rest, word_of}
use Rattle.words.specs.Laws.{WordLaws, Example}
use Rattle.words.proofs.Names.{lookup_first}

-- ---- a run

-- a test holds of each byte of its run
run_holds : (p : ℕ → Bool) (text : List ℕ) (i : ℕ) → i < run p text → p (get_or text i 0) ≡ true
run_holds p [] i h = absurd (not-suc-le-zero h)
run_holds p (b ∷ bs) i h = go (p b) i refl h (run_holds p bs)
  where
    go : (q : Bool) (i : ℕ) → p b ≡ q → i < cond q (suc (run p bs)) 0 → ((j : ℕ) → j < run p bs → p (get_or bs j 0) ≡ true) → p (get_or (b ∷ bs) i 0) ≡ true
    go true zero e h f = e
    go true (suc j) e h f = f j (le_of_suc-le-suc h)
    go false i e h f = absurd (not-suc-le-zero h)

no_byte : (x : ℕ) (text : List ℕ) (i : ℕ) → i < length (up_to x text) → get_or (up_to x text) i 0 ≡ x → ⊥
unfolding up_to
no_byte x text i h e =
    let l : i < place_of x text = omega (arith, length-take (place_of x text) text) in
    eqb-false _ _ (not-true _ (run_holds _ text i l)) (sym (get_or-take (place_of x text) text i 0 l) ∙ e)

no_space : (text : List ℕ) (n i : ℕ) → i < length (word_of text n) → is_space (get_or (word_of text n) i 0) ≡ false
unfolding word_of first_word
no_space text n i h =
    let from = past_spaces (rest n text) in
    let l : i < leading false from = omega (arith, length-take (leading false from) from) in
    rw (get_or-take (leading false from) from i 0 l) (not-true _ (run_holds _ from i l))

-- ---- where a run ends

behind_run : (p : ℕ → Bool) (text : List ℕ) → 0 < length (drop (run p text) text) → p (get_or (drop (run p text) text) 0 0) ≡ false
behind_run p [] h = absurd (not-suc-le-zero h)
behind_run p (b ∷ bs) h = go (p b) refl h (behind_run p bs)
  where
    behind : Bool → List ℕ
    behind q = drop (cond q (suc (run p bs)) 0) (b ∷ bs)

    go : (q : Bool) → p b ≡ q → 0 < length (behind q) → (0 < length (drop (run p bs) bs) → p (get_or (drop (run p bs) bs) 0 0) ≡ false) → p (get_or (behind q) 0 0) ≡ false
    go true e h f = f h
    go false e h f = e

-- ---- all of them

pub word_laws : WordLaws
unfolding word_of first_word past_word up_to past_spaces
word_laws = record {
  no_byte = no_byte;
  no_space = no_space;
  word_start = λ text h. behind_run is_space text h;
  word_end = λ text h. not-false _ (behind_run (λ b. not (is_space b)) (past_spaces text) h);
  whole = λ text. rw take-append-drop (take-append-drop (leading true text) text);
  words_length = λ text n. length-map-range_with_len (word_of text) 0 n;
  words_at = λ text n i h. get_or-map-range_with_len (word_of text) 0 n i i [] h (omega arith);
  lookup_first = lookup_first;
}

pub example : Example
unfolding word_of first_word past_word up_to past_spaces
example = record { first = refl; second = refl; none = refl; found = refl; missing = refl; found_in = refl; missing_in = refl; empty_in = refl; key = refl }
