-- `replay::fly`: the calls are made from the bench of the start, which is sound, and so is the one that they leave.
use Rattle.std.proofs.Common.{◌≡◌, true, ℤ, ap, ◌∙◌}
use Rattle.rotation.proofs.Signed.{same32}
use Rattle.sides.specs.declared.Side.{Side}
use Rattle.bench.specs.declared.Bench.{Bench}
use Rattle.bench.specs.Holds.{started}
use Rattle.bench.specs.Sound.{sound}
use Rattle.bench.proofs.StartLaws.{start_sound}
use Rattle.calls.specs.declared.sound.SoundStart.{SoundStart}
use Rattle.claim.specs.Lists.{after}
use Rattle.claim.proofs.Claimed.{claim, sound_from}
use Rattle.replay.specs.Made.{made}
use Rattle.replay.proofs.Flights.{flies}
use Rattle.replay.proofs.fly.Goals as goal

pub returns-clause-page_twelve : goal.returns-clause-page_twelve
returns-clause-page_twelve c =
    let cs = made c.args.calls.now c.args.answers.now in
    let start : c.from-judged.result ≡ (started c.args.speed).bench = c.from-judged.ensures ∙ ap (λ (x : SoundStart). x.bench) c.at-start.ensures ∙ ap (λ (z : ℤ). (started z).bench) (same32 c.args.speed c.ranges.speed) in
    let left : c.bench.result.now ≡ after (started c.args.speed).bench cs = c.bench.ensures ∙ c.make.ensures.bench ∙ ap (λ (b : Bench). after b cs) start in
    let h : sound c.bench.result.now ≡ true = rw left (sound_from (started c.args.speed).bench (start_sound c.args.speed) cs) in
    record { left = rw c.pick.ensures (flies c.bench.result.now h Side.Left); right = rw c.pick-2.ensures (flies c.bench.result.now h Side.Right) }

pub returns-clause-demand_3 : goal.returns-clause-demand_3
returns-clause-demand_3 c = claim c.args.speed _
