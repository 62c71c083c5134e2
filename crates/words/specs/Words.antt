-- The words of a text, which is a list of bytes: the runs of bytes that are no spaces. The console's page, 'Script'.
use Rattle.std.specs.Prelude.{ℕ, zero, suc, Bool, true, false, not, cond, ◌||◌, List, [], ◌∷◌, eqb, take, drop, map, Option, Some, None}
use Rattle.std.specs.List.{range_with_len}
use Rattle.std.specs.Option.{option_map}
use denote.Bor.{Bor}
use Rattle.std.specs.Cmp.Lexicographic.{pointwise}

-- how many bytes a text has in front of the first that a test does not hold of
abbrev pub run : (ℕ → Bool) → List ℕ → ℕ
run p [] = 0
run p (b ∷ bs) = cond (p b) (suc (run p bs)) 0

-- bytes that separate words: the space, the tab and the carriage return
abbrev pub is_space : ℕ → Bool
is_space b = eqb b 32 || (eqb b 9 || eqb b 13)

-- a byte is a space, or it is none
abbrev pub is_of : Bool → ℕ → Bool
is_of spaces b = cond spaces (is_space b) (not (is_space b))

-- how many spaces a text starts with, or how many bytes that are none
abbrev pub leading : Bool → List ℕ → ℕ
leading spaces text = run (is_of spaces) text

-- where the byte x first stands in a text; its length where it does not
abbrev pub place_of : ℕ → List ℕ → ℕ
place_of x text = run (λ b. not (eqb b x)) text

-- a text up to the first x; all of it where there is none
unfoldable pub up_to : ℕ → List ℕ → List ℕ
up_to x text = take (place_of x text) text

-- a text behind the spaces that it starts with
unfoldable pub past_spaces : List ℕ → List ℕ
past_spaces text = drop (leading true text) text

-- a text's first word; nothing where it has none
unfoldable pub first_word : List ℕ → List ℕ
first_word text = take (leading false (past_spaces text)) (past_spaces text)

-- what follows a text's first word
unfoldable pub past_word : List ℕ → List ℕ
past_word text = drop (leading false (past_spaces text)) (past_spaces text)

-- what follows a text's first n words
abbrev pub rest : ℕ → List ℕ → List ℕ
rest zero text = text
rest (suc n) text = past_word (rest n text)

-- a text's word number n, from 0; nothing where it has no such word
unfoldable pub word_of : List ℕ → ℕ → List ℕ
word_of text n = first_word (rest n text)

-- two texts are the same, byte by byte
abbrev pub same_bytes : List ℕ → List ℕ → Bool
same_bytes s t = pointwise eqb s t

-- the texts that a slice of them refers to
abbrev pub texts : List (Bor (List ℕ)) → List (List ℕ)
texts names = map (λ b. b.now) names

-- a text's words number 0 to n - 1; one that it does not have is empty
abbrev pub words_of : List ℕ → ℕ → List (List ℕ)
words_of text n = map (word_of text) (range_with_len 0 n)

-- the number of the first of the names that is w, if one is
abbrev pub lookup_of : List ℕ → List (List ℕ) → Option ℕ
lookup_of w [] = None
lookup_of w (name ∷ names) = cond (same_bytes w name) (Some 0) (option_map suc (lookup_of w names))
