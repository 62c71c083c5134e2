-- What the definitions of specs/Words.antt mean, and an example. `word_laws` and `example` of proofs/Laws.antt prove it.
use Rattle.std.specs.Prelude.{◌≡◌, true, false, List, [], ◌∷◌, ◌++◌, ℕ, ◌<◌, Option, Some, None, length, get_or, take}
use Rattle.words.specs.Words.{is_space, leading, up_to, past_spaces, first_word, past_word, word_of, words_of, lookup_of}

-- what is found is the number of the first of the names that is w, and nothing where none is
pub record IsFirst (w : List ℕ) (names : List (List ℕ)) (found : Option ℕ) : Type 0 where
  pub within : (i : ℕ) → found ≡ Some i → i < length names
  pub is : (i : ℕ) → found ≡ Some i → get_or names i [] ≡ w
  pub before : (i j : ℕ) → found ≡ Some i → j < i → get_or names j [] ≡ w → ⊥
  pub missing : (j : ℕ) → found ≡ None → j < length names → get_or names j [] ≡ w → ⊥

pub record WordLaws : Type 0 where
  -- a text up to a byte does not hold it, and a word holds no space
  pub no_byte : (x : ℕ) (text : List ℕ) (i : ℕ) → i < length (up_to x text) → get_or (up_to x text) i 0 ≡ x → ⊥
  pub no_space : (text : List ℕ) (n i : ℕ) → i < length (word_of text n) → is_space (get_or (word_of text n) i 0) ≡ false
  -- no space stands in front of a word, and what follows it, if anything, starts with one
  pub word_start : (text : List ℕ) → 0 < length (past_spaces text) → is_space (get_or (past_spaces text) 0 0) ≡ false
  pub word_end : (text : List ℕ) → 0 < length (past_word text) → is_space (get_or (past_word text) 0 0) ≡ true
  -- a text is its leading spaces, its first word and what follows that
  pub whole : (text : List ℕ) → take (leading true text) text ++ (first_word text ++ past_word text) ≡ text
  -- the first n words of a text are n texts, each the word of its number
  pub words_length : (text : List ℕ) (n : ℕ) → length (words_of text n) ≡ n
  pub words_at : (text : List ℕ) (n i : ℕ) → i < n → get_or (words_of text n) i [] ≡ word_of text i
  pub lookup_first : (w : List ℕ) (names : List (List ℕ)) → IsFirst w names (lookup_of w names)

-- "event"
abbrev pub event : List ℕ
event = 101 ∷ 118 ∷ 101 ∷ 110 ∷ 116 ∷ []

-- "16"
abbrev pub sixteen : List ℕ
sixteen = 49 ∷ 54 ∷ []

-- " event", a tab, a space, "16" and a carriage return
abbrev pub two_words : List ℕ
two_words = 32 ∷ event ++ 9 ∷ 32 ∷ sixteen ++ 13 ∷ []

pub record Example : Type 0 where
  pub first : word_of two_words 0 ≡ event
  pub second : word_of two_words 1 ≡ sixteen
  pub none : word_of two_words 2 ≡ []
  pub found : lookup_of sixteen (event ∷ sixteen ∷ []) ≡ Some 1
  pub missing : lookup_of (54 ∷ []) (event ∷ sixteen ∷ []) ≡ None
  pub found_in : lookup_of sixteen (words_of two_words 2) ≡ Some 1
  pub missing_in : lookup_of (54 ∷ []) (words_of two_words 2) ≡ None
  -- a word that a text does not have is empty
  pub empty_in : lookup_of [] (words_of two_words 3) ≡ Some 2
  pub key : up_to 32 (event ++ 32 ∷ sixteen) ≡ event
