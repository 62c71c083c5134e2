-- `replay::run`: the claim of the list that was made.
use Rattle.claim.proofs.Claimed.{claim_from, refused_from}
use Rattle.replay.proofs.run.Goals as goal

pub returns-clause-from_sound : goal.returns-clause-from_sound
returns-clause-from_sound c = λ h. claim_from c.args.b.now h _

pub returns-clause-from_unsound : goal.returns-clause-from_unsound
returns-clause-from_unsound c = λ h. refused_from c.args.b.now h _
