-- A start, the calls after it, and what the picker names in the end. Document 01, 'Display' and 'The claim over a list of calls'; document 02, 2026-06.
-- That the laws are laws which the aircraft model can fly is what the customer's manual promises of both panels. Here are definitions and statements; the proofs are in proofs/.
use Rattle.std.specs.Prelude.{◌≡◌, true, List, ℕ, ◌≤◌, ◌<◌, ℤ, Result, Ok, Err}
use Rattle.refusals.specs.declared.Refusal.{Refusal}
use Rattle.refusals.specs.Told.{told}
use Rattle.sides.specs.declared.Side.{Side}
use Rattle.sides.specs.Sides.{number, at}
use Rattle.modes.specs.declared.ModeSet.{ModeSet}
use Rattle.bench.specs.declared.Bench.{Bench}
use Rattle.bench.specs.declared.call.Call.{Call}
use Rattle.bench.specs.Holds.{started}
use Rattle.bench.specs.Sound.{sound}
use Rattle.guidance.specs.declared.Laws.{Laws}
use Rattle.guidance.specs.Picker.{no_laws, picked}
use Rattle.claim.specs.Lists.{after}
use Rattle.replay.specs.declared.Flight.{Flight}

-- the rules' bench after a start and calls, and what is picked on it for either side
unfoldable pub flight : ℤ → List Call → Flight
flight speed cs = record {
  started = (started speed).outcome;
  bench = after (started speed).bench cs;
  left = picked (after (started speed).bench cs) 0;
  right = picked (after (started speed).bench cs) 1;
}

-- ---- laws to fly

-- what is picked for a side that has this set. With modes on it is a lateral law from 1 to 5 (ROLL, HDG, NAV, LAPPR, LGA) and a vertical law from 1 to 8 (PITCH, VS, FLC,
-- ALT, ALTSEL in capture and on track, VAPPR, VGA); with modes off 0 and 0; and it is never refused
abbrev pub Flies : ModeSet → Result Laws Refusal → Type 0
Flies (ModeSet.On m) (Ok laws) = (1 ≤ laws.lateral) × (laws.lateral ≤ 5) × (1 ≤ laws.vertical) × (laws.vertical ≤ 8)
Flies ModeSet.Off (Ok laws) = (laws.lateral ≡ 0) × (laws.vertical ≡ 0)
Flies set (Err refusal) = ⊥

-- page twelve of the customer's manual, of what the code answers after a start and calls: it is said of the bench that the code left and of what its own picker then picks
pub record PageTwelve (f : Flight) : Type 0 where
  pub left : Flies f.bench.sides.left.set f.left
  pub right : Flies f.bench.sides.right.set f.right

-- the same of a list of calls from any sound bench, by the rules
pub record Guides (start : Bench) (cs : List Call) : Type 0 where
  pub flies : (s : Side) → Flies (at s (after start cs).sides).set (picked (after start cs) (number s))
  -- a number that names no side tells 2, and no laws
  pub no_side : (s : ℕ) → 1 < s → told no_laws (picked (after start cs) s) ≡ record { refusal = 2; value = no_laws }

abbrev pub GuidesFrom : Type 0
GuidesFrom = (start : Bench) → sound start ≡ true → (cs : List Call) → Guides start cs
