-- What `beside` of specs/Commands.antt finds in a table of names. `table_laws` of proofs/Tables.antt proves it.
use Rattle.std.specs.Prelude.{◌≡◌, ℕ, ◌<◌, Bool, List, [], map, None, length, get_or, slice_get}
use Rattle.std.specs.Option.{option_and_then}
use Prim.Native.String.{String}
use Rattle.feed.specs.declared.Kind.{Kind}
use Rattle.words.specs.Words.{lookup_of}
use Rattle.scripts.specs.declared.Part.{Part}
use Rattle.scripts.specs.Commands.{Asked, bytes, beside}

-- the names of a table, and what stands beside them
abbrev pub names_of : {T : Type 0} → List (String × T) → List (List ℕ)
names_of es = map (λ e. bytes e.0) es

abbrev pub entries_of : {T : Type 0} → List (String × T) → List T
entries_of es = map (λ e. e.1) es

-- of every table with entries of a type
pub record BesideLaws (T : Type 0) : Type 0 where
  -- beside a word stands what has the number of the first name that is the word (`lookup_first` of `WordLaws`)
  pub first : (es : List (String × T)) (w : List ℕ) → beside es w ≡ option_and_then (λ i. slice_get (entries_of es) i) (lookup_of w (names_of es))
  -- nothing stands there exactly where no name is the word
  pub missing : (es : List (String × T)) (w : List ℕ) (i : ℕ) → beside es w ≡ None → i < length es → get_or (names_of es) i [] ≡ w → ⊥
  pub none : (es : List (String × T)) (w : List ℕ) → ((i : ℕ) → i < length es → get_or (names_of es) i [] ≡ w → ⊥) → beside es w ≡ None

-- of the tables of sides and knobs, of `watch`, of kinds, of what is damaged of a part, and of commands and what can be damaged
pub record TableLaws : Type 0 where
  pub numbers : BesideLaws ℕ
  pub flags : BesideLaws Bool
  pub kinds : BesideLaws Kind
  pub contents : BesideLaws (Part → List ℕ → Asked)
  pub commands : BesideLaws (List ℕ → Asked)
