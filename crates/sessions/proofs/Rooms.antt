-- A room of bytes with zeros behind them. Assumes nothing.
use Rattle.std.proofs.Common.{◌≡◌, ℕ, ◌+◌, ◌-◌, List, length, take, drop, replicate, slice_set, [], ◌++◌, ◌≤◌, refl, sym, ◌∙◌, arith, drop-drop, take_all, length-append}
use Prim.Native.Nat.{min}
use lib.Seq.{length-take-le, take-append_seam, drop-append_seam}
use native.Mathlib.Decide.{dec_le}
use Rattle.numerals.specs.Pairs.{laid_over}
use Rattle.std.proofs.lemmas.List.{drop-set-lt, drop-replicate, drop_all, take-append-le}
use Rattle.std.proofs.Math.Nat.{min-eq_left}

-- a byte is written over the first of the zeros
pub one_more : (N n : ℕ) (room : List ℕ) (byte : ℕ) → drop n room ≡ replicate (N - n) 0 → drop (n + 1) (slice_set room n byte) ≡ replicate (N - (n + 1)) 0
one_more N n room byte z =
    let less : N - n - 1 ≡ N - (n + 1) = omega arith in
    rw (drop-set-lt (n + 1) room n byte (omega arith), ← drop-drop 1 n room, z, drop-replicate {X = ℕ} 1 (N - n) 0, less) refl

module _ (N : ℕ) (xs room : List ℕ) (e : length room ≡ N) where
  -- of bytes that are laid over a room those are in it that fit
  pub fitting : take (min (length xs) N) (laid_over xs room) ≡ take N xs
  fitting = rw e (go (dec_le (length xs) N))
    where
      go : Dec (length xs ≤ N) → take (min (length xs) N) (take N xs ++ drop (length xs) room) ≡ take N xs
      go (yes h) = rw (take_all N xs h, min-eq_left h) (take-append_seam xs (drop (length xs) room))
      go (no h) =
          let size : length (take N xs) ≡ N = length-take-le N xs (omega arith) in
          let least : min (length xs) N ≡ N = omega arith in
          rw (least, take-append-le N (take N xs) (drop (length xs) room) (omega arith)) (take_all N (take N xs) (omega arith))

  -- and zeros stay behind them, if they are as many as there were
  pub behind : (n : ℕ) → min (length xs) N ≡ n → drop n room ≡ replicate (N - n) 0 → drop n (laid_over xs room) ≡ replicate (N - n) 0
  behind n f z = rw e (go (dec_le (length xs) N))
    where
      go : Dec (length xs ≤ N) → drop n (take N xs ++ drop (length xs) room) ≡ replicate (N - n) 0
      go (yes h) =
          let same : length xs ≡ n = sym (min-eq_left h) ∙ f in
          rw (take_all N xs h, ← same) (drop-append_seam xs (drop (length xs) room) ∙ rw same z)
      go (no h) =
          let size : length (take N xs) ≡ N = length-take-le N xs (omega arith) in
          let all : N ≡ n = omega (arith, f) in
          let none : N - N ≡ 0 = omega arith in
          rw (← all, none, drop_all (length xs) room (omega (arith, e))) (drop_all N (take N xs ++ []) (omega (arith, size, length-append (take N xs) [])))
