-- `judged::apply`: a display leaves the bench.
use Rattle.std.proofs.Common.{◌∙◌, ap, sym}
use Rattle.bench.specs.declared.call.Call.{Call}
use Rattle.rules.specs.Calls.{asked, left_by}
use Rattle.calls.proofs.Accepted.{display_stays}
use Rattle.calls.proofs.judged.apply.Goals as goal

pub returns-in_ok-display-in-Display-clause-bench : goal.returns-in_ok-display-in-Display-clause-bench
returns-in_ok-display-in-Display-clause-bench c h =
    display_stays c.args.b.now c.in-Display.side h ∙ ap (λ (x : Call). left_by c.args.b.now (asked x)) (sym c.in-Display.is)
