-- `calls::shows::lamps_of` meets its contract: the lamps of the side's set, of AP and of PF are added, and all together are small.
use Rattle.std.proofs.Common.{◌≡◌, Bool, ℕ, ◌≤◌, arith}
use Rattle.modes.specs.declared.ModeSet.{ModeSet}
use Rattle.modes.specs.Numbers.{mode_lamps, worth}
use Rattle.modes.proofs.Joins.{worth_le}
use Rattle.calls.specs.Displays.{pf_lamp}
use Rattle.calls.proofs.Lamps.{mode_lamps_le, pf_lamp_le}
use Rattle.calls.proofs.shows.lamps_of.Goals as goal

-- each part is small
modes_small : {n : ℕ} (s : ModeSet) → n ≡ mode_lamps s → n ≤ 63
modes_small s e = rw e (mode_lamps_le s)

ap_small : {n : ℕ} (t : Bool) → n ≡ worth t 64 → n ≤ 64
ap_small t e = rw e (worth_le t 64)

pf_small : {n : ℕ} (pf : ℕ) → n ≡ pf_lamp pf → n ≤ 256
pf_small pf e = rw e (pf_lamp_le pf)

pub overflow_add-result : goal.overflow_add-result
overflow_add-result c = omega (arith, modes_small c.get.result.set c.mode_lamps-modes_lit.ensures, ap_small c.args.b.now.shared.ap c.worth.ensures)

pub overflow_add-result-2 : goal.overflow_add-result-2
overflow_add-result-2 c =
    omega (
      arith,
      modes_small c.get.result.set c.mode_lamps-modes_lit.ensures,
      ap_small c.args.b.now.shared.ap c.worth.ensures,
      pf_small c.args.b.now.shared.pf c.pf_lamp.ensures,
    )
