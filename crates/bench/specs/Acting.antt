-- Which sides act, and what is made on those. Document 01, 'What a bench value holds'; document 02, 2026-03.
use Rattle.std.specs.Prelude.{Bool, ◌||◌, cond, ℕ, eqb}
use Rattle.sides.specs.declared.Side.{Side}
use Rattle.sides.specs.Sides.{number, at, each}
use Rattle.channels.specs.declared.Channel.{Channel}
use Rattle.channels.specs.declared.Inputs.{Inputs}
use Rattle.bench.specs.declared.Bench.{Bench}

-- PF is a side's number; a damaged bench may have another one. This is the number of the other side of two
abbrev pub other_side : ℕ → ℕ
other_side pf = cond (eqb pf 0) 1 0

-- whether a side acts in a call: the PF side does, which is document 01's active side, and in independent operation (document 02, 2026-03) both do
unfoldable pub acts : Bench → Side → Bool
acts b s = eqb (number s) b.shared.pf || b.shared.independent

-- what a side's rule may read besides its channel, with the overspeed flag as it was handed in
abbrev pub inputs : Bool → Bench → Side → Inputs
inputs flag b s = record { ap = b.shared.ap; overspeed = flag; sent_fd = (at s b.inboxes).fd; wholes = b.wholes }

-- a side's rule, made on each side that acts
abbrev pub on_acting : (Inputs → Channel → Channel) → Bool → Bench → Bench
on_acting rule flag b = record b { sides = each (λ s c. cond (acts b s) (rule (inputs flag b s) c) c) b.sides }
