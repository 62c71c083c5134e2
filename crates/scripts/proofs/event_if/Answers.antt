-- `event_if`: the test that the closure computes takes the event, whose number is below 21.
use Rattle.std.proofs.Common.{rules, ◌≡◌, ◌∙◌, tests, true, Some}
use Rattle.scripts.specs.Commands.{event_if, event_named}
use Rattle.scripts.proofs.Events.{named_below}
use Rattle.scripts.proofs.event_if.Goals as goal

pub returns : goal.returns
unfolding event_if
returns g c = λ test computes.
    let e : event_named c.args.text.now ≡ Some c.in_ok-n.n = search (rules, tests) in
    let below = named_below c.args.text.now c.in_ok-n.n e in
    let t : test c.in_ok-n.n ≡ true = computes c.in_ok-n.n c.takes.result c.takes.ensures ∙ search (rules, tests) in
    rw (e, t) (search (rules, tests))
