-- `changes::switch_nav` meets its contract: NAV is cleared where the rule finds it engaged or armed, and else it is armed.
use Rattle.std.proofs.Common.{◌≡◌, ◌⊎◌, rules}
use Rattle.modes.specs.declared.Lateral.{Lateral}
use Rattle.modes.specs.declared.ArmedLateral.{ArmedLateral}
use Rattle.changes.proofs.Joins.{lateral_not, nav_switched, nav_switched_off}
use Rattle.changes.proofs.switch_nav.Goals.{After-clear_nav, After-clear_lappr}
use Rattle.changes.proofs.switch_nav.Goals as goal

-- what led to each arm, as far as it has no name
selected : (c : After-clear_nav) → (c.args.m.lateral ≡ Lateral.Nav) ⊎ (c.args.m.armed ≡ ArmedLateral.Nav)
selected c = search rules

not_engaged_beside_lappr : (c : After-clear_lappr) → c.args.m.lateral ≡ Lateral.Nav → ⊥
not_engaged_beside_lappr c e = search rules

not_engaged_beside_none : (c : goal.In_default-Neither) → c.args.m.lateral ≡ Lateral.Nav → ⊥
not_engaged_beside_none c e = search rules

pub returns-in-Nav-default : goal.returns-in-Nav-default
returns-in-Nav-default c = rw c.clear_nav.ensures (nav_switched_off _ (selected c))

pub returns-in_default-Lappr : goal.returns-in_default-Lappr
returns-in_default-Lappr c = rw c.clear_lappr.ensures (nav_switched _ _ _ (lateral_not (not_engaged_beside_lappr c)) c.in_default-Lappr.is-1)

pub returns-in_default-Neither : goal.returns-in_default-Neither
returns-in_default-Neither c = nav_switched _ _ _ (lateral_not (not_engaged_beside_none c)) c.in_default-Neither.is-1
