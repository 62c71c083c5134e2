-- `rotation::clamp_add` meets its contract between the ends: 64 bits hold the sum and both ends in full, so the two tests that failed
-- are those of `clamp_of`, and the sum fits 32 bits as both ends do. Assumes nothing.
use Rattle.std.proofs.Common.{◌≡◌, ◌∙◌, ◌^◌, false, ◌+ℤ◌, w32, w64, SFits, to_z, of_z}
use Rattle.std.specs.Int.Signed.{le_z}
use Rattle.rotation.proofs.Signed.{up, same32, as_bits, sum_fits, between, passed_sum}
use Rattle.rotation.proofs.clamp_add.Goals as goal

pub returns-else-from-sum : goal.returns-else-from-sum
returns-else-from-sum c =
    let z = c.args.reference +ℤ c.args.amount in
    let sum_is : to_z w64 (of_z w64 c.wide_sum-sum.result) ≡ z =
    as_bits (passed_sum c.wide_sum-sum.ensures c.ranges.reference c.ranges.amount) (sum_fits _ _ c.ranges.reference c.ranges.amount) in
    let low_is : to_z w64 (of_z w64 c.from.result) ≡ c.args.low = as_bits (c.from.ensures ∙ same32 c.args.low c.ranges.low) (up c.ranges.low) in
    let high_is : to_z w64 (of_z w64 c.from-else-sum-from.result) ≡ c.args.high =
    as_bits (c.from-else-sum-from.ensures ∙ same32 c.args.high c.ranges.high) (up c.ranges.high) in
    let above : le_z z c.args.low ≡ false = rw (sum_is, low_is) at c.if-sum-from.false in
    let below : le_z c.args.high z ≡ false = rw (high_is, sum_is) at c.if-from-sum.false in
    let fits : SFits w32 z = record { sfits = between (2 ^ 31) c.args.low z c.args.high above below c.ranges.low.sfits c.ranges.high.sfits } in
    rw (above, below) (as_bits sum_is fits)
