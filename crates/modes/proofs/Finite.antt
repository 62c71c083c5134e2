-- Types with few values: a test that computes to true over the list of all values holds of each value, and two values of one number are equal.
-- This is how a law over all mode sets is proved by computing it. Assumes nothing.
use mathlib.Core.Path.{◌≡◌, refl, sym, ap, ◌∙◌, subst}
use mathlib.Core.Bool.{Bool, true, false, ◌&&◌}
use mathlib.Core.List.{List, [], ◌∷◌}
use Prim.Native.Nat.{ℕ, zero, suc, ◌≤◌}
use native.Mathlib.Nat.{le_of_suc-le-suc, not-suc-le-zero}
use lib.Dec.{T, eqb, eqb→eq}
use lib.ListN.{length}
use Rattle.modes.specs.Finite.{every, pick, Finite, all}

pub both_left : (a b : Bool) → T (a && b) → T a
both_left true b t = tt
both_left false b t = absurd t

pub both_right : (a b : Bool) → T (a && b) → T b
both_right true b t = t
both_right false b t = absurd t

pub every_pick : {A : Type 0} (p : A → Bool) (d : A) (xs : List A) → T (p d) → T (every p xs) → (k : ℕ) → T (p (pick d xs k))
every_pick p d [] h t k = h
every_pick p d (x ∷ xs) h t zero = both_left (p x) (every p xs) t
every_pick p d (x ∷ xs) h t (suc k) = every_pick p d xs h (both_right (p x) (every p xs) t) k

pub pick_past : {A : Type 0} (d : A) (xs : List A) (k : ℕ) → length xs ≤ k → pick d xs k ≡ d
pick_past d [] k h = refl
pick_past d (x ∷ xs) zero h = absurd (not-suc-le-zero h)
pick_past d (x ∷ xs) (suc k) h = pick_past d xs k (le_of_suc-le-suc h)

module _ {A : Type 0} (F : Finite A) where
  abbrev value_of : ℕ → A
  value_of n = pick F.first (all F) (F.place n)

  pub at : (p : A → Bool) → T (every p (all F)) → (x : A) → T (p x)
  at p t x =
      let first = both_left (p F.first) (every p F.rest) t in
      subst (λ (y : A). T (p y)) (F.back x) (every_pick p F.first (all F) first t (F.place (F.number x)))

  pub same_place : (x y : A) → T (eqb (F.number x) (F.number y)) → x ≡ y
  same_place x y t = sym (F.back x) ∙ ap value_of (eqb→eq (F.number x) (F.number y) t) ∙ F.back y
