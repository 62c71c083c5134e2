-- The laws of specs/Tables.antt: an entry's number is its name's. Assumes nothing.
use Rattle.std.proofs.Common.{◌≡◌, ◌∙◌, ℕ, zero, suc, ◌<◌, Bool, true, false, cond, List, [], ◌∷◌, Option, Some, None, length, get_or, refl, sym, ap, arith}
use Rattle.std.proofs.lemmas.List.{length-map}
use Rattle.std.specs.Prelude.{slice_get}
use Rattle.std.specs.Option.{option_map, option_and_then}
use Prim.Native.String.{String}
use Rattle.words.specs.Words.{same_bytes, lookup_of}
use Rattle.words.specs.Laws.{IsFirst}
use Rattle.words.proofs.Names.{lookup_first}
use Rattle.scripts.specs.Commands.{bytes, beside}
use Rattle.scripts.specs.Tables.{names_of, entries_of, BesideLaws, TableLaws}

module _ {T : Type 0} where
  -- what a number finds in a table
  abbrev entry : List (String × T) → Option ℕ → Option T
  entry es found = option_and_then (λ i. slice_get (entries_of es) i) found

  later : (e : String × T) (es : List (String × T)) (found : Option ℕ) → entry es found ≡ entry (e ∷ es) (option_map suc found)
  later e es None = refl
  later e es (Some i) = refl

  first : (es : List (String × T)) (w : List ℕ) → beside es w ≡ entry es (lookup_of w (names_of es))
  first [] w = refl
  first (e ∷ es) w = go (same_bytes w (bytes e.0)) (first es w)
    where
      go : (q : Bool) → beside es w ≡ entry es (lookup_of w (names_of es)) → cond q (Some e.1) (beside es w) ≡ entry (e ∷ es) (cond q (Some 0) (option_map suc (lookup_of w (names_of es))))
      go true h = refl
      go false h = h ∙ later e es (lookup_of w (names_of es))

  -- a number of an entry finds it
  inside : (es : List (String × T)) (i : ℕ) → i < length es → slice_get (entries_of es) i ≡ None → ⊥
  inside [] i l e = omega arith
  inside (e ∷ es) zero l f = let z : ◌≡◌ {A = ℕ} 0 1 = cc in omega arith
  inside (e ∷ es) (suc i) l f = inside es i (omega arith) f

  module _ (es : List (String × T)) (w : List ℕ) where
    as_many : length (names_of es) ≡ length es
    as_many = length-map es (λ (e : String × T). bytes e.0)

    missing : (i : ℕ) → beside es w ≡ None → i < length es → get_or (names_of es) i [] ≡ w → ⊥
    missing i e l h = go (lookup_of w (names_of es)) refl (lookup_first w (names_of es))
      where
        go : (found : Option ℕ) → lookup_of w (names_of es) ≡ found → IsFirst w (names_of es) found → ⊥
        go None f is = is.missing i refl (omega (arith, as_many)) h
        go (Some k) f is = inside es k (omega (arith, is.within k refl, as_many)) (sym (first es w ∙ ap (entry es) f) ∙ e)

    none : ((i : ℕ) → i < length es → get_or (names_of es) i [] ≡ w → ⊥) → beside es w ≡ None
    none h = first es w ∙ go (lookup_of w (names_of es)) (lookup_first w (names_of es))
      where
        go : (found : Option ℕ) → IsFirst w (names_of es) found → entry es found ≡ None
        go None is = refl
        go (Some k) is = absurd (h k (omega (arith, is.within k refl, as_many)) (is.is k refl))

  beside_laws : BesideLaws T
  beside_laws = record { first = first; missing = missing; none = none }

pub table_laws : TableLaws
table_laws = record { numbers = beside_laws; flags = beside_laws; kinds = beside_laws; contents = beside_laws; commands = beside_laws }
