-- `bench::starts::start` meets its contract: the range is asked of the speed, and decides between its bench and the default one.
use Rattle.std.proofs.Common.{◌≡◌, sym, ap, ◌∙◌}
use Rattle.rotation.proofs.Signed.{same32}
use Rattle.feed.specs.Ranges.{within}
use Rattle.bench.specs.Holds.{power_on, start_speeds, started}
use Rattle.bench.proofs.starts.start.Goals as goal

pub returns-then-is_within : goal.returns-then-is_within
unfolding started
returns-then-is_within c =
    let speed = same32 c.args.speed c.ranges.speed in
    let inside : within start_speeds c.args.speed ≡ c.is_within.result = sym (c.is_within.ensures ∙ ap (within start_speeds) speed) in
    rw (c.bench_at.ensures, speed, inside, c.if-is_within.true)

pub returns-else-is_within : goal.returns-else-is_within
unfolding started power_on
returns-else-is_within c =
    let speed = same32 c.args.speed c.ranges.speed in
    let inside : within start_speeds c.args.speed ≡ c.is_within.result = sym (c.is_within.ensures ∙ ap (within start_speeds) speed) in
    rw (c.bench_at-else-is_within.ensures, inside, c.if-is_within.false)
