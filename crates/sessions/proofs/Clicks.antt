-- A line turns a knob by as many clicks as it says. Assumes nothing.
use Rattle.std.proofs.Common.{◌≡◌, ℕ, zero, suc, ◌+◌, ◌-◌, ◌%◌, ◌<◌, ◌≤◌, Bool, true, false, cond, ℤ, pos, negsuc, ap, arith}
use Rattle.rounding.specs.Whole.{signed_of}
use Rattle.numerals.specs.Numbers.{clicks_back}
use Rattle.rotation.specs.Rotation.{rotation_of}
use Rattle.rotation.proofs.Signed.{sub_case, turned}
use Rattle.sessions.specs.Laws.{added}

forward : (last n : ℕ) → last < 256 → n ≤ 127 → rotation_of last ((last + n) % 256) ≡ pos n
forward last n h k =
    rw (turned last ((last + n) % 256) h (omega arith))
    (sub_case (λ (z : ℤ). z ≡ pos n) (((last + n) % 256 + 384 - last) % 256) 128 (λ l. absurd (omega arith)) (λ l. ap pos (omega arith)))

pub turns : (last : ℕ) (back : Bool) (n : ℕ) → last < 256 → n ≤ cond back 128 127 → rotation_of last ((last + added back n) % 256) ≡ signed_of back n
turns last false n h k = forward last n h k
turns last true zero h k = forward last 0 h (omega arith)
turns last true (suc m) h k =
    let step = clicks_back (suc m) in
    rw (turned last ((last + step) % 256) h (omega arith))
    (sub_case (λ (z : ℤ). z ≡ negsuc m) (((last + step) % 256 + 384 - last) % 256) 128 (λ l. ap negsuc (omega arith)) (λ l. absurd (omega arith)))
