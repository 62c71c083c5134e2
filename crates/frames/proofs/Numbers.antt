-- Numbers of a frame: raised on the way in, lowered on the way out. Assumes nothing.
use mathlib.Core.Path.{◌≡◌, refl, sym, ap, ◌∙◌}
use mathlib.Core.Bool.{Bool, true, false, false≢true}
use Prim.Native.Nat.{ℕ, zero, suc, ◌+◌, ◌*◌, ◌^◌, ◌≤◌, ◌<◌}
use native.Mathlib.Omega.{arith}
use borrow.Author.Tests.{leb-true}
use lib.Dec.{T, ltb, leb→le, ltb→lt}
use lib.IntN.{ℤ, pos, negsuc, neg_ℤ, nat_abs, ◌+ℤ◌, ◌-ℤ◌, +ℤ-neg_ℤ_cancel, -ℤ-+ℤ_cancel}
use lib.Signed.{le_z}
use Rattle.std.specs.Prelude.{Result, Ok, Err}
use Rattle.std.specs.Result.{OkIff, result_unwrap_or}
use Rattle.std.specs.Int.{FitsUnsignedBits, from_bool}
use Rattle.modes.specs.Every.{flag_number}
use Rattle.rotation.proofs.Signed.{sub_case}
use Rattle.refusals.proofs.Choices.{and_left, and_right}
use Rattle.feed.specs.Ranges.{range, within}
use Rattle.channels.specs.declared.references.References.{References}
use Rattle.channels.specs.declared.references.Reference.{Reference}
use Rattle.channels.specs.References.{range_of, reference_at}
use Rattle.channels.specs.Sound.{in_range}
use Rattle.channels.proofs.Read.{by_reference}
use Rattle.frames.specs.Frames.{added, natural, raised, high, low}

-- ---- raised, by what a conversion to 64 bits answers

pub natural_by : {E : Type 0} (z : ℤ) (r : Result ℕ E) → nat_abs z < 2 ^ 64 → OkIff r (FitsUnsignedBits 64 z) (nat_abs z) → result_unwrap_or r 0 ≡ natural z
natural_by (pos n) (Ok x) h e = e.1
natural_by (pos n) (Err e) h none = absurd (none h)
natural_by (negsuc n) (Ok x) h e = absurd e.0
natural_by (negsuc n) (Err e) h none = refl

-- a flag as a byte
pub flag_byte : (f : Bool) → from_bool f ≡ flag_number f
flag_byte true = refl
flag_byte false = refl

-- ---- there and back

-- a number of a range that begins no lower than -by is raised to one without a sign, of at most high + by
pub record Raised (by most : ℕ) (x : ℤ) : Type 0 where
  pub same : x +ℤ pos by ≡ pos (natural (x +ℤ pos by))
  pub below : natural (x +ℤ pos by) ≤ most

raised_from : (by high : ℕ) (low x : ℤ) → T (le_z (neg_ℤ (pos by)) low) → le_z low x ≡ true → le_z x (pos high) ≡ true → Raised by (high + by) x
raised_from by high low (pos n) l h k = record { same = refl; below = let m = leb-true n high k in omega arith }
raised_from by high (pos m) (negsuc n) l h k = absurd (false≢true h)
raised_from zero high (negsuc m) (negsuc n) l h k = absurd l
raised_from (suc by) high (negsuc m) (negsuc n) l h k =
    let a = leb→le m by l in
    let b = leb-true n m h in
    let ends = sub_case (λ (z : ℤ). (z ≡ pos (natural z)) × (natural z ≤ high + suc by)) (suc by) (suc n) (λ c. absurd (omega arith)) (λ c. (refl, omega arith)) in
    record { same = ends.0; below = ends.1 }

within_range : (by high : ℕ) (low x : ℤ) → T (le_z (neg_ℤ (pos by)) low) → within (range low (pos high)) x ≡ true → Raised by (high + by) x
within_range by high low x l h = raised_from by high low x l (and_left (le_z low x) (le_z x (pos high)) h) (and_right (le_z low x) (le_z x (pos high)) h)

-- the highest number that a reference within its range is raised to; two bytes have room for it
abbrev pub top : Reference → ℕ
top n = natural (range_of n).high + added n

fits_two : (n : Reference) → T (ltb (top n) 65536)
fits_two n = by_reference (λ n. T (ltb (top n) 65536)) tt tt tt tt tt tt tt n

raised_in : (n : Reference) (r : References) → in_range n r ≡ true → Raised (added n) (top n) (reference_at n r)
raised_in n r =
    by_reference (λ n. in_range n r ≡ true → Raised (added n) (top n) (reference_at n r))
    (within_range 0 359 (pos 0) r.heading tt) (within_range 8000 56000 (negsuc 7999) r.preselected tt) (within_range 8000 56000 (negsuc 7999) r.held tt)
    (within_range 50 50 (negsuc 49) r.vertical_speed tt) (within_range 0 400 (pos 60) r.ias tt) (within_range 27 27 (negsuc 26) r.roll tt)
    (within_range 20 20 (negsuc 19) r.pitch tt) n

-- raised and lowered again
raised_back : {by most : ℕ} {x : ℤ} → Raised by most x → pos (natural (x +ℤ pos by)) -ℤ pos by ≡ x
raised_back {by} {most} {x} r = ap (λ (z : ℤ). z -ℤ pos by) (sym r.same) ∙ +ℤ-neg_ℤ_cancel x (pos by)

-- lowered and raised again
pub lowered_back : (by n : ℕ) → natural ((pos n -ℤ pos by) +ℤ pos by) ≡ n
lowered_back by n = ap natural (-ℤ-+ℤ_cancel (pos n) (pos by))

-- the bytes of a number, and the number of two bytes
pub joined : (n : ℕ) → n < 65536 → high n * 256 + low n ≡ n
joined n h = omega arith

pub kept_low : (n : ℕ) → n < 256 → low n ≡ n
kept_low n h = omega arith

pub high_of : (h l : ℕ) → h < 256 → l < 256 → high (h * 256 + l) ≡ h
high_of h l p q = omega arith

pub low_of : (h l : ℕ) → l < 256 → low (h * 256 + l) ≡ l
low_of h l q = omega arith

-- ---- the bytes of a reference within its range give it back

pub two_back : (n : Reference) (r : References) → in_range n r ≡ true → pos (high (raised n r) * 256 + low (raised n r)) -ℤ pos (added n) ≡ reference_at n r
unfolding raised
two_back n r h =
    let k = raised_in n r h in
    let l = k.below in
    let m = ltb→lt (top n) 65536 (fits_two n) in
    ap (λ (z : ℕ). pos z -ℤ pos (added n)) (joined _ (omega arith)) ∙ raised_back k

pub one_back : (n : Reference) (r : References) → T (ltb (top n) 256) → in_range n r ≡ true → pos (low (raised n r)) -ℤ pos (added n) ≡ reference_at n r
unfolding raised
one_back n r t h =
    let k = raised_in n r h in
    let l = k.below in
    let m = ltb→lt (top n) 256 t in
    ap (λ (z : ℕ). pos z -ℤ pos (added n)) (kept_low _ (omega arith)) ∙ raised_back k
