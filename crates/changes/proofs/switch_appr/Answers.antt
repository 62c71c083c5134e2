-- `changes::switch_appr` meets its contract: LAPPR is cleared where the rule finds it engaged or armed; else it and VAPPR are armed.
use Rattle.std.proofs.Common.{◌≡◌, ◌⊎◌, rules}
use Rattle.modes.specs.declared.Lateral.{Lateral}
use Rattle.modes.specs.declared.ArmedLateral.{ArmedLateral}
use Rattle.changes.proofs.Joins.{lateral_not, lappr_not_armed, appr_switched, lappr_switched_off}
use Rattle.changes.proofs.switch_appr.Goals.{After-clear_lappr}
use Rattle.changes.proofs.switch_appr.Goals as goal

-- what led to the first arm
selected : (c : After-clear_lappr) → (c.args.m.lateral ≡ Lateral.Lappr) ⊎ (c.args.m.armed ≡ ArmedLateral.Lappr)
selected c = search rules

pub returns-in-Lappr-default : goal.returns-in-Lappr-default
returns-in-Lappr-default c = rw c.clear_lappr.ensures (lappr_switched_off _ (selected c))

pub returns-in_default : goal.returns-in_default
returns-in_default c = appr_switched _ _ _ (lateral_not c.in_default.not-Lappr-0) (lappr_not_armed _ c.in_default.not-Lappr-1)
