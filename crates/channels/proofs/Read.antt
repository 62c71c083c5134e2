-- The laws of references, by the seven. Assumes nothing.
use mathlib.Core.Path.{◌≡◌, refl}
use lib.IntN.{ℤ}
use native.Mathlib.Omega.{arith}
use Rattle.std.proofs.Common.{◌≢◌}
use Rattle.channels.specs.declared.references.References.{References}
use Rattle.channels.specs.declared.references.Reference.{Reference}
use Rattle.channels.specs.References.{reference_at, with_reference}
use Rattle.channels.specs.Laws.{ReferenceLaws}

-- what holds of the seven holds of a reference
pub by_reference : (P : Reference → Type 0) → P Reference.Heading → P Reference.Preselected → P Reference.Held → P Reference.VerticalSpeed → P Reference.Ias
    → P Reference.Roll → P Reference.Pitch → (n : Reference) → P n
by_reference P a b c d e f g n = elim n as P [ Reference.Heading ↦ a | Reference.Preselected ↦ b | Reference.Held ↦ c | Reference.VerticalSpeed ↦ d | Reference.Ias ↦ e | Reference.Roll ↦ f | Reference.Pitch ↦ g ]

pub reference_read : (n : Reference) (x : ℤ) (r : References) → reference_at n (with_reference n x r) ≡ x
reference_read n x r = by_reference (λ n. reference_at n (with_reference n x r) ≡ x) refl refl refl refl refl refl refl n

references_stay : (n m : Reference) → n ≢ m → (x : ℤ) (r : References) → reference_at m (with_reference n x r) ≡ reference_at m r
references_stay n m h x r = grind arith

-- what holds of the number that is written, and of each that was there, holds of each
pub written : (P : Reference → ℤ → Type 0) (n : Reference) (x : ℤ) (r : References) → P n x → ((m : Reference) → P m (reference_at m r)) → (m : Reference) → P m (reference_at m (with_reference n x r))
written P n x r k h m = grind (arith, k, h)

pub reference_laws : ReferenceLaws
reference_laws = record { read = reference_read; stays = references_stay }
