-- `changes::capture_vappr` meets its contract: beside an engaged LAPPR it asks what the rule asks, and then VAPPR engages, which ends its arming.
use Rattle.std.proofs.Common.{◌≡◌, ◌&&◌, true, not, refl, rules}
use Rattle.modes.specs.declared.Lateral.{Lateral}
use Rattle.changes.proofs.Joins.{lateral_is, lateral_not, vappr_captured}
use Rattle.changes.proofs.capture_vappr.Goals as goal

pub returns-in-Lappr : goal.returns-in-Lappr
returns-in-Lappr c =
    let asked : (c.args.m.vappr_armed && not c.args.flag) ≡ true = c.if-m-flag.true in
    vappr_captured _ _ _ _ (lateral_is c.in-Lappr.is) asked

pub returns-in_default : goal.returns-in_default
returns-in_default c = vappr_captured _ _ _ _ (lateral_is c.in-Lappr.is) c.if-m-flag.false

not_lappr : (c : goal.In_default) → c.args.m.lateral ≡ Lateral.Lappr → ⊥
not_lappr c e = search rules

pub returns-in_default-2 : goal.returns-in_default-2
returns-in_default-2 c = vappr_captured _ _ _ _ (lateral_not (not_lappr c)) refl
