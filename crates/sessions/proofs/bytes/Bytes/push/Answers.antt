use Rattle.std.proofs.Common.{rules}
use Rattle.sessions.proofs.Rooms.{one_more}
use Rattle.sessions.proofs.bytes.Bytes.push.Goals as goal

pub invariant_of-self : goal.invariant_of-self
invariant_of-self g c =
    (search rules, one_more g.row.N c.self.inside.count c.self.inside.room c.args.byte c.self.invariant.1)
