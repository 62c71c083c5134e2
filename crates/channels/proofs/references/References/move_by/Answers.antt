-- `References::move_by` meets its contract: the amount is added to the reference of that name, and the sum is clamped to its range.
use Rattle.rotation.proofs.Signed.{same32}
use Rattle.channels.specs.Turns.{moved}
use Rattle.channels.proofs.references.References.move_by.Goals as goal

pub returns : goal.returns
unfolding moved
returns c =
    cc (
      same32 c.args.amount c.ranges.amount,
      same32 c.get.result (record { sfits = c.get.type_inv }),
      same32 c.clamped_sum-next.result (record { sfits = c.clamped_sum-next.type_inv }),
    )
