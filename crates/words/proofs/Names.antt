-- For `lookup` and `lookup_in`: what `position` finds among texts, and what that says of the names. Assumes nothing.
use Rattle.std.proofs.Common.{◌≡◌, ◌∙◌, ℕ, zero, suc, ◌+◌, ◌<◌, Bool, true, false, not, cond, ltb, ltb-true, ltb-false, lt-ltb, Option, Some, None, position, List, [], ◌∷◌, length, get_or, map, refl, sym, ap, arith}
use Rattle.std.specs.Option.{option_map}
use Rattle.std.specs.List.{prefix_len}
use mathlib.Core.Bool.{false≢true}
use lib.Pointwise.{bytes_decides}
use Rattle.words.specs.Words.{same_bytes, lookup_of}
use Rattle.words.specs.Laws.{IsFirst}

-- one more in front moves what is found by one
behind : (n m : ℕ) → cond (ltb (1 + n) (suc m)) (Some (1 + n)) None ≡ option_map suc (cond (ltb n m) (Some n) None)
behind n m = go (ltb n m) (ltb (1 + n) (suc m)) refl refl
  where
    go : (t u : Bool) → ltb n m ≡ t → ltb (1 + n) (suc m) ≡ u → cond u (Some (1 + n)) None ≡ option_map suc (cond t (Some n) None)
    go true true e f = ap (λ (k : ℕ). Some k) (omega arith)
    go false false e f = refl
    go true false e f = let l = ltb-true n m e in let g = ltb-false (1 + n) (suc m) f in absurd (omega arith)
    go false true e f = let l = ltb-false n m e in let g = ltb-true (1 + n) (suc m) f in absurd (omega arith)

-- v gives a name for what is searched: the text of a reference, or the word of a number
pub position_is : {A : Type 0} (v : A → List ℕ) (w : List ℕ) (xs : List A) → position (λ (x : A). same_bytes w (v x)) xs ≡ lookup_of w (map v xs)
position_is v w [] = refl
position_is {A} v w (x ∷ xs) = go (same_bytes w (v x)) (position_is v w xs)
  where
    n : ℕ
    n = prefix_len (λ (x : A). not (same_bytes w (v x))) xs

    at : Bool → ℕ
    at t = cond (not t) (1 + n) 0

    go : (t : Bool) → cond (ltb n (length xs)) (Some n) None ≡ lookup_of w (map v xs) → cond (ltb (at t) (suc (length xs))) (Some (at t)) None ≡ cond t (Some 0) (option_map suc (lookup_of w (map v xs)))
    go true h = rw (lt-ltb 0 (suc (length xs)) (omega arith)) refl
    go false h = behind n (length xs) ∙ ap (option_map suc) h

pub lookup_first : (w : List ℕ) (names : List (List ℕ)) → IsFirst w names (lookup_of w names)
lookup_first w [] = record { within = λ i e. absurd (none e); is = λ i e. absurd (none e); before = λ i j e. absurd (none e); missing = λ j e h. absurd (omega arith) }
  where
    none : {i : ℕ} → ◌≡◌ {A = Option ℕ} None (Some i) → ⊥
    none e = let z : ◌≡◌ {A = ℕ} 0 1 = cc in omega arith
lookup_first w (name ∷ names) = go (same_bytes w name) refl (lookup_of w names) (lookup_first w names)
  where
    go : (q : Bool) → same_bytes w name ≡ q → (found : Option ℕ) → IsFirst w names found → IsFirst w (name ∷ names) (cond q (Some 0) (option_map suc found))
    go true e found f = record { within = λ i g. let z : 0 ≡ i = cc in omega arith; is = first; before = λ i j g h. let z : 0 ≡ i = cc in absurd (omega arith); missing = λ j g. let z : ◌≡◌ {A = ℕ} 0 1 = cc in absurd (omega arith) }
      where
        first : (i : ℕ) → ◌≡◌ {A = Option ℕ} (Some 0) (Some i) → get_or (name ∷ names) i [] ≡ w
        first zero g = sym ((bytes_decides w name).0 e)
        first (suc i) g = let z : 0 ≡ suc i = cc in absurd (omega arith)
    go false e None f = record { within = λ i g. let z : ◌≡◌ {A = ℕ} 0 1 = cc in absurd (omega arith); is = λ i g. let z : ◌≡◌ {A = ℕ} 0 1 = cc in absurd (omega arith); before = λ i j g. let z : ◌≡◌ {A = ℕ} 0 1 = cc in absurd (omega arith); missing = missing }
      where
        differs : name ≡ w → ⊥
        differs k = let t : same_bytes w name ≡ true = (bytes_decides w name).1 (sym k) in let z : ◌≡◌ {A = Bool} false true = cc in false≢true z

        missing : (j : ℕ) → ◌≡◌ {A = Option ℕ} None None → j < suc (length names) → get_or (name ∷ names) j [] ≡ w → ⊥
        missing zero g h k = differs k
        missing (suc j) g h k = f.missing j refl (omega arith) k
    go false e (Some k) f = record { within = λ i g. let z : suc k ≡ i = cc in let l = f.within k refl in omega arith; is = is; before = before; missing = λ j g. let z : ◌≡◌ {A = ℕ} 0 1 = cc in absurd (omega arith) }
      where
        is : (i : ℕ) → ◌≡◌ {A = Option ℕ} (Some (suc k)) (Some i) → get_or (name ∷ names) i [] ≡ w
        is i g = let z : i ≡ suc k = cc in rw z (f.is k refl)

        before : (i j : ℕ) → ◌≡◌ {A = Option ℕ} (Some (suc k)) (Some i) → j < i → get_or (name ∷ names) j [] ≡ w → ⊥
        before i zero g h l = let t : same_bytes w name ≡ true = (bytes_decides w name).1 (sym l) in let z : ◌≡◌ {A = Bool} false true = cc in false≢true z
        before i (suc j) g h l = let z : i ≡ suc k = cc in f.before k j refl (omega arith) l
