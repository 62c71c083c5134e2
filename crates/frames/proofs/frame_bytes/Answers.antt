-- `frames::frame_bytes`: what is answered for any set is a byte.
use Rattle.std.proofs.Common.{arith}
use Rattle.codes.proofs.Laws.{code_le}
use Rattle.frames.proofs.frame_bytes.Goals as goal

pub overflow_cast-result-2 : goal.overflow_cast-result-2
overflow_cast-result-2 c = let h = code_le c.args.c.now.set in record { fits = omega arith }
