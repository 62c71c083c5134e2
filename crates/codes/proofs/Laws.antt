-- The laws of set codes, computed over all sets and over all codes. Assumes nothing.
use mathlib.Core.Path.{◌≡◌, refl, sym, ap, ◌∙◌, subst}
use mathlib.Core.Bool.{Bool, true, false, ◌&&◌, cond}
use mathlib.Core.List.{List, [], ◌∷◌}
use Prim.Native.Nat.{ℕ, zero, suc, ◌≤◌, ◌<◌}
use native.Mathlib.Nat.{le_of_suc-le-suc, not-suc-le-zero}
use native.Mathlib.Omega.{arith}
use borrow.Author.Tests.{ltb-true, ltb-false}
use lib.Dec.{T, eqb, ltb, eqb→eq, ltb→lt}
use lib.ListN.{length, get_or}
use Rattle.std.specs.Prelude.{Some, None}
use Rattle.std.proofs.lemmas.Option.{slice_get_past, slice_get-get_or}
use Rattle.modes.specs.declared.ModeSet.{ModeSet}
use Rattle.modes.specs.Sets.{engaged, armed, cleared, once, coherent, coherent_set}
use Rattle.modes.specs.Row.{coded_sets, same_set, place_in, code_of}
use Rattle.modes.proofs.Finite.{both_left, both_right}
use Rattle.modes.proofs.Every.{at_sets}
use Rattle.modes.proofs.Joins.{off_code}
use Rattle.codes.specs.Codes.{set_of}
use Rattle.codes.specs.Laws.{OneSet, rank, CodeLaws}
use Rattle.codes.proofs.Joins.{count, same_set_lem}
use Rattle.codes.proofs.Places.{every_from, at_place}

-- the set at the place of a set in a list is that set
place_back : (xs : List ModeSet) (s : ModeSet) → place_in xs s < length xs → get_or xs (place_in xs s) ModeSet.Off ≡ s
place_back [] s h = absurd (not-suc-le-zero h)
place_back (x ∷ xs) s h = go (same_set s x) refl h (place_back xs s)
  where
    go : (t : Bool) → same_set s x ≡ t → cond t 0 (suc (place_in xs s)) < suc (length xs) → (place_in xs s < length xs → get_or xs (place_in xs s) ModeSet.Off ≡ s) →
        get_or (x ∷ xs) (cond t 0 (suc (place_in xs s))) ModeSet.Off ≡ s
    go true e h more = sym (same_set_lem s x (subst T (sym e) tt))
    go false e h more = more (le_of_suc-le-suc h)

-- in a list whose ranks rise from each to the next, they rise from any to any later one
abbrev rises : List ModeSet → Bool
rises [] = true
rises (x ∷ []) = true
rises (x ∷ (y ∷ ys)) = ltb (rank x) (rank y) && rises (y ∷ ys)

tail_rises : (x : ModeSet) (xs : List ModeSet) → T (rises (x ∷ xs)) → T (rises xs)
tail_rises x [] t = tt
tail_rises x (y ∷ ys) t = both_right (ltb (rank x) (rank y)) (rises (y ∷ ys)) t

first_rises : (x : ModeSet) (xs : List ModeSet) (n : ℕ) → T (rises (x ∷ xs)) → n < length xs → rank x < rank (get_or xs n ModeSet.Off)
first_rises x [] n t h = absurd (not-suc-le-zero h)
first_rises x (y ∷ ys) zero t h = ltb→lt (rank x) (rank y) (both_left (ltb (rank x) (rank y)) (rises (y ∷ ys)) t)
first_rises x (y ∷ ys) (suc n) t h =
    let step = ltb→lt (rank x) (rank y) (both_left (ltb (rank x) (rank y)) (rises (y ∷ ys)) t) in
    let more = first_rises y ys n (tail_rises x (y ∷ ys) t) (le_of_suc-le-suc h) in
    omega arith

later_rises : (xs : List ModeSet) (m n : ℕ) → T (rises xs) → m < n → n < length xs → rank (get_or xs m ModeSet.Off) < rank (get_or xs n ModeSet.Off)
later_rises [] m n t l h = absurd (not-suc-le-zero h)
later_rises (x ∷ xs) m zero t l h = absurd (not-suc-le-zero l)
later_rises (x ∷ xs) zero (suc n) t l h = first_rises x xs n t (le_of_suc-le-suc h)
later_rises (x ∷ xs) (suc m) (suc n) t l h = later_rises xs m n (tail_rises x xs t) (le_of_suc-le-suc l) (le_of_suc-le-suc h)

-- ---- what is computed

abbrev coded : ModeSet → Bool
coded s = cond (coherent_set s) (ltb (code_of s) 108) (eqb (code_of s) 108)

all_coded : (s : ModeSet) → T (coded s)
unfolding code_of coded_sets coherent once cleared armed engaged
all_coded = at_sets coded tt

-- a set is coherent and has a code
abbrev placed : ℕ → ModeSet → Bool
placed code s = coherent_set s && eqb (code_of s) code

all_placed : T (every_from placed 0 coded_sets)
unfolding code_of coded_sets coherent once cleared armed engaged
all_placed = tt

all_rise : T (rises coded_sets)
unfolding coded_sets coherent once cleared armed engaged
all_rise = tt

-- ---- the laws

pub code_below : (s : ModeSet) → T (coherent_set s) → code_of s < 108
code_below s t = go (coherent_set s) t (all_coded s)
  where
    go : (b : Bool) → T b → T (cond b (ltb (code_of s) 108) (eqb (code_of s) 108)) → code_of s < 108
    go true t c = ltb→lt (code_of s) 108 c
    go false t c = absurd t

no_code : (s : ModeSet) → coherent_set s ≡ false → code_of s ≡ 108
no_code s e = eqb→eq (code_of s) 108 (subst (λ (b : Bool). T (cond b (ltb (code_of s) 108) (eqb (code_of s) 108))) e (all_coded s))

-- what is answered for any set at all
pub code_le : (s : ModeSet) → code_of s ≤ 108
code_le s = go (coherent_set s) (all_coded s)
  where
    go : (b : Bool) → T (cond b (ltb (code_of s) 108) (eqb (code_of s) 108)) → code_of s ≤ 108
    go true c = let l = ltb→lt (code_of s) 108 c in omega arith
    go false c = let e = eqb→eq (code_of s) 108 c in omega arith

-- the code of a coherent set is a place in the list, where the set stands
in_list : (s : ModeSet) → T (coherent_set s) → code_of s < length coded_sets
in_list s t = subst (λ (k : ℕ). code_of s < k) (sym count) (code_below s t)

at_code : (s : ModeSet) → T (coherent_set s) → get_or coded_sets (code_of s) ModeSet.Off ≡ s
unfolding code_of
at_code s t = place_back coded_sets s (in_list s t)

pub set_back : (s : ModeSet) → T (coherent_set s) → set_of (code_of s) ≡ Some s
unfolding set_of
set_back s t = slice_get-get_or coded_sets (code_of s) ModeSet.Off (in_list s t) ∙ ap Some (at_code s t)

ordered : (s t : ModeSet) → T (coherent_set s) → T (coherent_set t) → code_of s < code_of t → rank s < rank t
ordered s t c d l =
    let rise = later_rises coded_sets (code_of s) (code_of t) all_rise l (in_list t d) in
    let here = ap rank (at_code s c) in
    let there = ap rank (at_code t d) in
    omega arith

pub no_set : (n : ℕ) → 108 ≤ n → set_of n ≡ None
unfolding set_of
no_set n h = slice_get_past coded_sets n (subst (λ (k : ℕ). k ≤ n) (sym count) h)

set_at : (n : ℕ) → n < 108 → OneSet n
unfolding set_of
set_at n h =
    let s = get_or coded_sets n ModeSet.Off in
    let inside = subst (λ (k : ℕ). n < k) (sym count) h in
    let t = at_place placed ModeSet.Off coded_sets all_placed n inside in
    record {
      set = s;
      has = slice_get-get_or coded_sets n ModeSet.Off inside;
      coherent = both_left (coherent_set s) (eqb (code_of s) n) t;
      back = eqb→eq (code_of s) n (both_right (coherent_set s) (eqb (code_of s) n) t);
    }

pub code_laws : CodeLaws
code_laws = record { count = count; off = off_code; code = code_below; set_back = set_back; set = set_at; ordered = ordered; no_code = no_code; no_set = no_set }

-- where a number has a set, the set is coherent and has that code
pub decoded : (n : ℕ) (s : ModeSet) → set_of n ≡ Some s → T (coherent_set s) × (code_of s ≡ n)
decoded n s e = go (ltb n 108) refl
  where
    go : (t : Bool) → ltb n 108 ≡ t → T (coherent_set s) × (code_of s ≡ n)
    go true h =
        let found = set_at n (ltb-true n 108 h) in
        let same : found.set ≡ s = cc (found.has, e) in
        (subst (λ (s : ModeSet). T (coherent_set s)) same found.coherent, subst (λ (s : ModeSet). code_of s ≡ n) same found.back)
    go false h = let none = no_set n (ltb-false n 108 h) in absurd (cc)
