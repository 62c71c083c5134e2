-- The laws of specs/Laws.antt, each as a lemma for callers too: by cases of the sign, and by which of two naturals is the larger (`sub_case`). Assumes nothing.
use mathlib.Core.Path.{◌≡◌, refl, sym, ap, subst}
use mathlib.Core.Bool.{Bool, true, false, cond, true≢false}
use Prim.Native.Nat.{ℕ, zero, suc, ◌+◌, ◌-◌, ◌*◌, ◌/◌, ◌%◌, ◌≤◌, ◌<◌}
use native.Mathlib.Nat.{div-add-mod', mod-lt, suc-mul}
use native.Mathlib.Omega.{arith}
use borrow.Author.Tests.{leb-false}
use lib.Dec.{T, leb→le, le→leb}
use lib.IntN.{ℤ, pos, negsuc, neg_ℤ, ◌+ℤ◌, ◌-ℤ◌, ◌*ℤ◌}
use lib.Signed.{le_z, ◌≤ℤ◌, le_z_yes, ≤ℤ_refl}
use Rattle.rotation.specs.Rotation.{mod_of, clamp_of, rotation_of}
use Rattle.rotation.specs.Laws.{RotationLaws}
use Rattle.rotation.proofs.Signed.{sub_case, turned}

-- ---- the order of ℤ

not_le : (a b : ℤ) → le_z a b ≡ false → b ≤ℤ a
not_le (pos a) (pos b) e = let l = leb-false a b e in le_z_yes (le→leb b a (omega arith))
not_le (pos a) (negsuc b) e = le_z_yes tt
not_le (negsuc a) (pos b) e = absurd (true≢false e)
not_le (negsuc a) (negsuc b) e = let l = leb-false b a e in le_z_yes (le→leb a b (omega arith))

le_antisym : (a b : ℤ) → a ≤ℤ b → b ≤ℤ a → a ≡ b
le_antisym (pos a) (pos b) h k = let x = leb→le a b h.le in let y = leb→le b a k.le in ap pos (omega arith)
le_antisym (pos a) (negsuc b) h k = absurd h.le
le_antisym (negsuc a) (pos b) h k = absurd k.le
le_antisym (negsuc a) (negsuc b) h k = let x = leb→le b a h.le in let y = leb→le a b k.le in ap negsuc (omega arith)

-- ---- modulo

pub mod_below : (z : ℤ) (m : ℕ) → 0 < m → mod_of z m < m
mod_below (pos n) m h = mod-lt n h
mod_below (negsuc n) m h = omega arith

pub mod_is : (z : ℤ) (m : ℕ) → 0 < m → (k : ℤ) × (z ≡ k *ℤ pos m +ℤ pos (mod_of z m))
mod_is (pos n) m h = (pos (n / m), ap pos (sym (div-add-mod' n m)))
mod_is (negsuc n) m h = (negsuc (n / m), go (suc (n / m) * m) (m - suc (n % m)) (omega (arith, suc-mul (n / m) m, div-add-mod' n m, mod-lt n h)))
  where
    go : (q r : ℕ) → q ≡ n + suc r → negsuc n ≡ neg_ℤ (pos q) +ℤ pos r
    go zero r e = absurd (omega arith)
    go (suc q) r e = sub_case (λ (z : ℤ). negsuc n ≡ z) r (suc q) (λ l. ap negsuc (omega arith)) (λ l. absurd (omega arith))

-- ---- the rotation

pub rotation_range : (old new : ℕ) → (negsuc 127 ≤ℤ rotation_of old new) × (rotation_of old new ≤ℤ pos 127)
rotation_range old new = go (mod_of (pos new -ℤ pos old +ℤ pos 128) 256) (mod_below (pos new -ℤ pos old +ℤ pos 128) 256 (omega arith))
  where
    go : (n : ℕ) → n < 256 → (negsuc 127 ≤ℤ (pos n -ℤ pos 128)) × ((pos n -ℤ pos 128) ≤ℤ pos 127)
    go n h =
        sub_case (λ (z : ℤ). (negsuc 127 ≤ℤ z) × (z ≤ℤ pos 127)) n 128
        (λ l. (le_z_yes (le→leb (128 - suc n) 127 (omega arith)), le_z_yes tt)) (λ l. (le_z_yes tt, le_z_yes (le→leb (n - 128) 127 (omega arith))))

pub rotation_turns : (old new : ℕ) → old < 256 → new < 256 → mod_of (pos old +ℤ rotation_of old new) 256 ≡ new
rotation_turns old new h k = rw (turned old new h k) (go ((new + 384 - old) % 256) refl)
  where
    go : (n : ℕ) → n ≡ (new + 384 - old) % 256 → mod_of (pos old +ℤ (pos n -ℤ pos 128)) 256 ≡ new
    go n e =
        sub_case (λ (z : ℤ). mod_of (pos old +ℤ z) 256 ≡ new) n 128
        (λ l. sub_case (λ (z : ℤ). mod_of z 256 ≡ new) old (suc (128 - suc n)) (λ b. omega arith) (λ b. omega arith)) (λ l. omega arith)

pub rotation_only : (old new : ℕ) (r : ℤ) → old < 256 → new < 256 → negsuc 127 ≤ℤ r → r ≤ℤ pos 127 → mod_of (pos old +ℤ r) 256 ≡ new → r ≡ rotation_of old new
rotation_only old new r h k low high e = rw (turned old new h k) (go r low.le high.le e)
  where
    go : (r : ℤ) → T (le_z (negsuc 127) r) → T (le_z r (pos 127)) → mod_of (pos old +ℤ r) 256 ≡ new → r ≡ pos ((new + 384 - old) % 256) -ℤ pos 128
    go (pos n) low high e =
        let small : n ≤ 127 = leb→le n 127 high in
        sub_case (λ (z : ℤ). pos n ≡ z) ((new + 384 - old) % 256) 128 (λ l. absurd (omega arith)) (λ l. ap pos (omega arith))
    go (negsuc n) low high e =
        let small : n ≤ 127 = leb→le n 127 low in
        let m : (old + 256 - suc n) % 256 ≡ new =
        sub_case (λ (z : ℤ). mod_of z 256 ≡ new → (old + 256 - suc n) % 256 ≡ new) old (suc n) (λ l e. omega arith) (λ l e. omega arith) e in
        sub_case (λ (z : ℤ). negsuc n ≡ z) ((new + 384 - old) % 256) 128 (λ l. ap negsuc (omega arith)) (λ l. absurd (omega arith))

-- ---- the clamp

pub clamp_range : (low high z : ℤ) → low ≤ℤ high → (low ≤ℤ clamp_of low high z) × (clamp_of low high z ≤ℤ high)
clamp_range low high z h = go (le_z z low) refl (le_z high z) refl
  where
    go : (a : Bool) → le_z z low ≡ a → (b : Bool) → le_z high z ≡ b → (low ≤ℤ cond a low (cond b high z)) × (cond a low (cond b high z) ≤ℤ high)
    go true e b f = (≤ℤ_refl low, h)
    go false e true f = (h, ≤ℤ_refl high)
    go false e false f = (not_le z low e, not_le high z f)

pub clamp_same : (low high z : ℤ) → low ≤ℤ z → z ≤ℤ high → clamp_of low high z ≡ z
clamp_same low high z h k = go (le_z z low) refl (le_z high z) refl
  where
    go : (a : Bool) → le_z z low ≡ a → (b : Bool) → le_z high z ≡ b → cond a low (cond b high z) ≡ z
    go true e b f = le_antisym low z h (le_z_yes (subst T (sym e) tt))
    go false e true f = le_antisym high z (le_z_yes (subst T (sym f) tt)) k
    go false e false f = refl

pub rotation_laws : RotationLaws
rotation_laws = record {
  mod_below = mod_below;
  mod_is = mod_is;
  rotation_range = rotation_range;
  rotation_turns = rotation_turns;
  rotation_only = rotation_only;
  clamp_range = clamp_range;
  clamp_same = clamp_same;
}
