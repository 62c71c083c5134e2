-- The laws of sides and pairs, by the two sides. Assumes nothing.
use mathlib.Core.Path.{◌≡◌, refl}
use Prim.Native.Nat.{ℕ, zero, suc, ◌≤◌}
use native.Mathlib.Omega.{arith}
use borrow.Author.Tests.{ne_eqb}
use Rattle.std.specs.Prelude.{◌↔◌, Ok, Err}
use Rattle.refusals.specs.declared.Refusal.{Refusal}
use Rattle.sides.specs.declared.Side.{Side}
use Rattle.sides.specs.declared.Pair.{Pair}
use Rattle.sides.specs.Sides.{number, other, side_of, at, with_at, each, Both}
use Rattle.sides.specs.Laws.{SideLaws, PairLaws}

-- what holds of both sides holds of a side
pub by_side : (P : Side → Type 0) → P Side.Left → P Side.Right → (s : Side) → P s
by_side P x y Side.Left = x
by_side P x y Side.Right = y

-- what is asked of both is had of each
pub of_both : {T : Type 0} {P : T → Type 0} {p : Pair T} → Both P p → (s : Side) → P (at s p)
of_both {T} {P} {p} h s = by_side (λ s. P (at s p)) h.left h.right s

-- past the two there is none
beyond : (n : ℕ) → side_of (suc (suc n)) ≡ Err Refusal.UnknownSide
beyond n = rw (ne_eqb (suc (suc n)) 0 (λ e. omega arith), ne_eqb (suc (suc n)) 1 (λ e. omega arith))

pub named : (n : ℕ) (s : Side) → (side_of n ≡ Ok s) ↔ (n ≡ number s)
named zero Side.Left = (λ e. refl, λ e. refl)
named zero Side.Right = (λ e. cc, λ e. absurd (omega arith))
named (suc zero) Side.Left = (λ e. cc, λ e. absurd (omega arith))
named (suc zero) Side.Right = (λ e. refl, λ e. refl)
named (suc (suc n)) Side.Left = (λ e. let b = beyond n in cc, λ e. absurd (omega arith))
named (suc (suc n)) Side.Right = (λ e. let b = beyond n in cc, λ e. absurd (omega arith))

refused : (n : ℕ) → 2 ≤ n → side_of n ≡ Err Refusal.UnknownSide
refused zero h = absurd (omega arith)
refused (suc zero) h = absurd (omega arith)
refused (suc (suc n)) h = beyond n

pub side_laws : SideLaws
side_laws = record {
  named = named;
  refused = refused;
  twice = by_side _ refl refl;
  apart = by_side _ (λ e. omega arith) (λ e. omega arith);
}

pub pair_laws : {T : Type 0} → PairLaws T
pair_laws {T} = record {
  read = λ s x p. by_side (λ (s : Side). at s (with_at s x p) ≡ x) refl refl s;
  stays = λ s x p. by_side (λ (s : Side). at (other s) (with_at s x p) ≡ at (other s) p) refl refl s;
  made = λ s f p. by_side (λ (s : Side). at s (each f p) ≡ f s (at s p)) refl refl s;
}
