-- What holds of sides and of pairs. Here are the statements; the proofs are in proofs/Laws.antt.
use Rattle.std.specs.Prelude.{◌≡◌, ◌↔◌, ℕ, ◌≤◌, Ok, Err}
use Rattle.refusals.specs.declared.Refusal.{Refusal}
use Rattle.sides.specs.declared.Side.{Side}
use Rattle.sides.specs.declared.Pair.{Pair}
use Rattle.sides.specs.Sides.{number, other, side_of, at, with_at, each}

pub record SideLaws : Type 0 where
  -- a side's number names it, and no other number does
  pub named : (n : ℕ) (s : Side) → (side_of n ≡ Ok s) ↔ (n ≡ number s)
  -- a number above 1 is refused with 2
  pub refused : (n : ℕ) → 2 ≤ n → side_of n ≡ Err Refusal.UnknownSide
  -- the other side of the other side is the side
  pub twice : (s : Side) → other (other s) ≡ s
  pub apart : (s : Side) → number (other s) ≡ number s → ⊥

-- what was put in a side's place is read there, and what the other side has stays
pub record PairLaws (T : Type 0) : Type 0 where
  pub read : (s : Side) (x : T) (p : Pair T) → at s (with_at s x p) ≡ x
  pub stays : (s : Side) (x : T) (p : Pair T) → at (other s) (with_at s x p) ≡ at (other s) p
  -- and each is what is made of it
  pub made : (s : Side) (f : Side → T → T) (p : Pair T) → at s (each f p) ≡ f s (at s p)
