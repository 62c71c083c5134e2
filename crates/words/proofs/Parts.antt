-- For `word`: the parts of a text between its spaces, without the empty ones, are its words. Assumes nothing.
use Rattle.std.proofs.Common.{◌≡◌, ◌∙◌, ℕ, zero, suc, Bool, true, false, not, cond, eqb, Option, Some, None, unwrap_or, List, [], ◌∷◌, length, take, drop, Bor, refl, ap, arith, ne_eqb}
use Rattle.std.specs.List.{filter, slice_get, onto_first, slice_split}
use Rattle.std.specs.Option.{option_map}
use Rattle.words.specs.Words.{is_space, leading, past_spaces, first_word, past_word, rest, word_of}

abbrev pub has_bytes : List ℕ → Bool
has_bytes w = not (eqb (length w) 0)

abbrev pub parts : List ℕ → List (List ℕ)
parts text = filter has_bytes (slice_split is_space text)

-- what a cut makes of the text behind its first part: that begins with the space of the cut
abbrev behind : List ℕ → List (List ℕ)
behind [] = []
behind (b ∷ bs) = slice_split is_space bs

-- the first part ends at the first space
cut : (text : List ℕ) → slice_split is_space text ≡ take (leading false text) text ∷ behind (drop (leading false text) text)
cut [] = refl
cut (b ∷ bs) = go (is_space b) (cut bs)
  where
    k : Bool → ℕ
    k q = cond (not q) (suc (leading false bs)) 0

    go : (q : Bool) → slice_split is_space bs ≡ take (leading false bs) bs ∷ behind (drop (leading false bs) bs) →
        cond q ([] ∷ slice_split is_space bs) (onto_first b (slice_split is_space bs)) ≡ take (k q) (b ∷ bs) ∷ behind (drop (k q) (b ∷ bs))
    go true h = refl
    go false h = ap (onto_first b) h

-- an empty part in front of them changes no words
others : (text : List ℕ) → filter has_bytes (behind (drop (leading false text) text)) ≡ parts (drop (leading false text) text)
others [] = refl
others (b ∷ bs) = go (is_space b) refl (others bs)
  where
    k : Bool → ℕ
    k q = cond (not q) (suc (leading false bs)) 0

    go : (q : Bool) → is_space b ≡ q → filter has_bytes (behind (drop (leading false bs) bs)) ≡ parts (drop (leading false bs) bs) →
        filter has_bytes (behind (drop (k q) (b ∷ bs))) ≡ parts (drop (k q) (b ∷ bs))
    go true e h = rw e refl
    go false e h = h

-- the words of a text that begins with no space
abbrev begun : List ℕ → List (List ℕ)
begun [] = []
begun (b ∷ bs) = take (leading false (b ∷ bs)) (b ∷ bs) ∷ parts (drop (leading false (b ∷ bs)) (b ∷ bs))

parts_are : (text : List ℕ) → parts text ≡ begun (past_spaces text)
unfolding past_spaces
parts_are [] = refl
parts_are (b ∷ bs) = go (is_space b) refl (parts_are bs)
  where
    go : (q : Bool) → is_space b ≡ q → parts bs ≡ begun (drop (leading true bs) bs) →
        filter has_bytes (cond q ([] ∷ slice_split is_space bs) (onto_first b (slice_split is_space bs))) ≡ begun (drop (cond q (suc (leading true bs)) 0) (b ∷ bs))
    go true e h = h
    go false e h = rw (cut bs, e, ne_eqb (suc (length (take (leading false bs) bs))) 0 (λ z. omega arith)) (ap (λ (ws : List (List ℕ)). (b ∷ take (leading false bs) bs) ∷ ws) (others bs))

first : (from : List ℕ) → unwrap_or (slice_get (begun from) 0) [] ≡ take (leading false from) from
first [] = refl
first (b ∷ bs) = refl

next : (from : List ℕ) (n : ℕ) → unwrap_or (slice_get (begun from) (suc n)) [] ≡ unwrap_or (slice_get (parts (drop (leading false from) from)) n) []
next [] n = refl
next (b ∷ bs) n = refl

-- the first word is passed before the others or behind them
passed : (n : ℕ) (text : List ℕ) → rest n (past_word text) ≡ past_word (rest n text)
passed zero text = refl
passed (suc n) text = ap past_word (passed n text)

pub word_is : (n : ℕ) (text : List ℕ) → unwrap_or (slice_get (parts text) n) [] ≡ word_of text n
unfolding word_of first_word past_word
word_is zero text = rw (parts_are text) (first (past_spaces text))
word_is (suc n) text = rw (parts_are text) (next (past_spaces text) n) ∙ word_is n (past_word text) ∙ ap first_word (passed n text)

-- a reference that is there, or one to nothing
pub picked : (r : Option (Bor (List ℕ))) (d : Bor (List ℕ)) → d.now ≡ [] → (unwrap_or r d).now ≡ unwrap_or (option_map (λ b. b.now) r) []
picked None d h = h
picked (Some b) d h = refl
