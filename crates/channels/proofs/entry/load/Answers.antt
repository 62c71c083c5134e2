-- `entry::load` meets its contract: the reference takes the clamped whole value, to which 0 is added.
use Rattle.std.proofs.Common.{rules}
use lib.IntN.{+ℤ_idr}
use Rattle.rotation.proofs.Signed.{same32}
use Rattle.channels.specs.Entry.{loaded}
use Rattle.channels.proofs.entry.load.Goals as goal

pub returns : goal.returns
unfolding loaded
returns c = let sum = +ℤ_idr c.args.whole in search rules
