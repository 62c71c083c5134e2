-- Signed numbers at 32 and 64 bits: sums, bounds and remainders. Assumes nothing.
use mathlib.Core.Path.{◌≡◌, refl, ◌∙◌}
use mathlib.Core.Bool.{Bool, true, false, cond, true≢false}
use Prim.Native.Nat.{ℕ, zero, suc, ◌+◌, ◌-◌, ◌%◌, ◌^◌, ◌≤◌, ◌<◌}
use native.Mathlib.Omega.{arith}
use borrow.Author.Tests.{ltb-true, ltb-false, leb-false}
use lib.Dec.{ltb}
use lib.IntN.{ℤ, pos, negsuc, sub_ℕ, ◌+ℤ◌, ◌-ℤ◌}
use lib.Signed.{mag, le_z}
use mir.Syntax.{Width, w32, w64}
use mir.Val.{SFits, to_z, of_z}
use mir.ValLaws.{to_z-of_z}
use Rattle.rotation.specs.Rotation.{mod_of}

pub up : {z : ℤ} → SFits w32 z → SFits w64 z
up {z} h = record { sfits = let k = h.sfits in omega arith }

pub same32 : (z : ℤ) → SFits w32 z → to_z w32 (of_z w32 z) ≡ z
same32 z h = to_z-of_z w32 z h

-- a number that is known by another name
pub as_bits : {w : Width} {z v : ℤ} → z ≡ v → SFits w v → to_z w (of_z w z) ≡ v
as_bits {w} {z} {v} e h = rw e (to_z-of_z w v h)

-- ---- a difference and a sum are no larger than the parts allow

sub_mag : (a b m : ℕ) → a < m → b ≤ m → mag (sub_ℕ a b) < m
sub_mag a b m h k = go (ltb a b)
  where
    go : (t : Bool) → mag (cond t (negsuc (b - suc a)) (pos (a - b))) < m
    go true = omega arith
    go false = omega arith

pub sum_mag : (m : ℕ) (x y : ℤ) → mag x < m → mag y < m → mag (x +ℤ y) < m + m
sum_mag m (pos a) (pos b) h k = omega arith
sum_mag m (pos a) (negsuc b) h k = sub_mag a (suc b) (m + m) (omega arith) (omega arith)
sum_mag m (negsuc a) (pos b) h k = sub_mag b (suc a) (m + m) (omega arith) (omega arith)
sum_mag m (negsuc a) (negsuc b) h k = omega arith

pub sum_fits : (x y : ℤ) → SFits w32 x → SFits w32 y → SFits w64 (x +ℤ y)
sum_fits x y h k = record { sfits = let z = sum_mag (2 ^ 31) x y h.sfits k.sfits in omega arith }

-- between two numbers that fit 32 bits
pub between : (m : ℕ) (a z b : ℤ) → le_z z a ≡ false → le_z b z ≡ false → mag a < m → mag b < m → mag z < m
between m a (pos z) (pos b) h k p q = let l = leb-false b z k in omega arith
between m a (pos z) (negsuc b) h k p q = absurd (true≢false k)
between m (pos a) (negsuc z) b h k p q = absurd (true≢false h)
between m (negsuc a) (negsuc z) b h k p q = let l = leb-false a z h in omega arith

-- what `wide_sum` ensures speaks of the arguments' bits
pub passed_sum : {s x y : ℤ} → s ≡ to_z w32 (of_z w32 x) +ℤ to_z w32 (of_z w32 y) → SFits w32 x → SFits w32 y → s ≡ x +ℤ y
passed_sum {s} {x} {y} e h k = e ∙ rw (same32 x h, same32 y k)

-- ---- a difference of naturals, by cases

pub sub_case : (P : ℤ → Type 0) (a b : ℕ) → (a < b → P (negsuc (b - suc a))) → (b ≤ a → P (pos (a - b))) → P (sub_ℕ a b)
sub_case P a b p q = go (ltb a b) refl
  where
    go : (t : Bool) → ltb a b ≡ t → P (cond t (negsuc (b - suc a)) (pos (a - b)))
    go true e = p (ltb-true a b e)
    go false e = q (ltb-false a b e)

-- ---- the rotation

pub turned : (old new : ℕ) → old < 256 → new < 256 → mod_of (pos new -ℤ pos old +ℤ pos 128) 256 ≡ (new + 384 - old) % 256
turned zero new h k = omega arith
turned (suc o) new h k =
    sub_case (λ (z : ℤ). mod_of (z +ℤ pos 128) 256 ≡ (new + 384 - suc o) % 256) new (suc o)
    (λ l. sub_case (λ (z : ℤ). mod_of z 256 ≡ (new + 384 - suc o) % 256) 128 (suc (suc o - suc new)) (λ m. omega arith) (λ m. omega arith))
    (λ l. omega arith)
