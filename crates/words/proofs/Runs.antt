-- What the searches over a text share: how many bytes in front a test p holds of. Assumes nothing.
use Rattle.std.proofs.Common.{◌≡◌, ℕ, suc, ◌+◌, ◌-◌, ◌≤◌, Bool, true, false, not, cond, eqb, ltb, Some, None, unwrap_or, position, List, [], ◌∷◌, length, take, drop, refl, arith, length-drop, take_all, ltb-false}
use Rattle.std.specs.List.{prefix_len, position_or_len}
use Rattle.words.specs.Words.{run, place_of}

pub run_within : (p : ℕ → Bool) (text : List ℕ) → run p text ≤ length text
run_within p [] = omega arith
run_within p (b ∷ bs) = go (p b) (run_within p bs)
  where
    go : (q : Bool) → run p bs ≤ length bs → cond q (suc (run p bs)) 0 ≤ suc (length bs)
    go true h = omega arith
    go false h = omega arith

pub place_within : (x : ℕ) (text : List ℕ) → place_of x text ≤ length text
place_within x text = run_within (λ b. not (eqb b x)) text

-- a run is as long as what `take_while` gives
pub run_is : (p : ℕ → Bool) (text : List ℕ) → prefix_len p text ≡ run p text
run_is p [] = refl
run_is p (b ∷ bs) = rw (run_is p bs) (go (p b))
  where
    go : (t : Bool) → cond t (1 + run p bs) 0 ≡ cond t (suc (run p bs)) 0
    go true = omega arith
    go false = refl

-- where `position` finds the first byte that passes q, or the text's length, a run of those that do not ends
pub first_or_all : (q : ℕ → Bool) (text : List ℕ) → unwrap_or (position q text) (length text) ≡ run (λ b. not (q b)) text
first_or_all q text =
    let e = run_is (λ b. not (q b)) text in
    let l = run_within (λ b. not (q b)) text in
    go (ltb (position_or_len q text) (length text)) refl e l
  where
    go : (t : Bool) → ltb (position_or_len q text) (length text) ≡ t → position_or_len q text ≡ run (λ b. not (q b)) text → run (λ b. not (q b)) text ≤ length text →
        unwrap_or (cond t (Some (position_or_len q text)) None) (length text) ≡ run (λ b. not (q b)) text
    go true f e l = e
    go false f e l = let m = ltb-false (position_or_len q text) (length text) f in omega arith

-- a part of a text that goes on to its end
pub to_the_end : (k : ℕ) (text : List ℕ) → take (length text - k) (drop k text) ≡ drop k text
to_the_end k text = take_all (length text - k) (drop k text) (omega (arith, length-drop k text))
