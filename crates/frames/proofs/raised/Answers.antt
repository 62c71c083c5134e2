-- `frames::raised` meets its contract: the sum at 64 bits is exact, and 0 stands for what is negative.
use Rattle.std.proofs.Common.{◌≡◌, ◌∙◌, ◌^◌, ◌<◌, arith, pos, ◌+ℤ◌, to_z, of_z, w64}
use Rattle.std.specs.Prelude.{unsigned_abs}
use Rattle.std.proofs.lemmas.Int.{ints}
use Rattle.channels.specs.References.{reference_at}
use Rattle.frames.specs.Frames.{added, raised}
use Rattle.frames.proofs.Numbers.{natural_by}
use Rattle.frames.proofs.raised.Goals as goal

pub returns : goal.returns
unfolding raised
returns c =
    let x = reference_at c.args.name c.args.r.now in
    let by = pos (added c.args.name) in
    let exact : to_z w64 (of_z w64 (to_z w64 (of_z w64 c.from.result) +ℤ to_z w64 (of_z w64 c.from-2.result))) ≡ x +ℤ by = omega (arith, ints) in
    let small : unsigned_abs (x +ℤ by) < 2 ^ 64 = omega (arith, ints) in
    c.unwrap_or.ensures ∙ natural_by (x +ℤ by) c.try_from.result small (rw exact at c.try_from.ensures)
