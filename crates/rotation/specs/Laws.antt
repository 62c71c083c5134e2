-- The laws of knob arithmetic: what a reader may take `specs/Rotation.antt` to say. `rotation_laws` of `proofs/Laws.antt` proves them.
use Rattle.std.specs.Prelude.{◌≡◌, ℕ, ◌<◌, ℤ, pos, negsuc, ◌+ℤ◌, ◌*ℤ◌, ◌≤ℤ◌}
use Rattle.rotation.specs.Rotation.{mod_of, clamp_of, rotation_of}

pub record RotationLaws : Type 0 where
  -- modulo: a remainder below m, which differs from z by a multiple of m
  pub mod_below : (z : ℤ) (m : ℕ) → 0 < m → mod_of z m < m
  pub mod_is : (z : ℤ) (m : ℕ) → 0 < m → (k : ℤ) × (z ≡ k *ℤ pos m +ℤ pos (mod_of z m))
  -- the rotation: from -128 to 127, it takes the old count to the new one, and no other number does both
  pub rotation_range : (old new : ℕ) → (negsuc 127 ≤ℤ rotation_of old new) × (rotation_of old new ≤ℤ pos 127)
  pub rotation_turns : (old new : ℕ) → old < 256 → new < 256 → mod_of (pos old +ℤ rotation_of old new) 256 ≡ new
  pub rotation_only : (old new : ℕ) (r : ℤ) → old < 256 → new < 256 →
      negsuc 127 ≤ℤ r → r ≤ℤ pos 127 → mod_of (pos old +ℤ r) 256 ≡ new → r ≡ rotation_of old new
  -- the clamp: within the range, and the number itself where that is within it
  pub clamp_range : (low high z : ℤ) → low ≤ℤ high → (low ≤ℤ clamp_of low high z) × (clamp_of low high z ≤ℤ high)
  pub clamp_same : (low high z : ℤ) → low ≤ℤ z → z ≤ℤ high → clamp_of low high z ≡ z
