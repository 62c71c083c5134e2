-- Sends and refreshes. Document 01, 'Sends, refreshes, knobs'; document 02, 2026-03, by which in independent operation both sides act.
use Rattle.std.specs.Prelude.{cond}
use Rattle.sides.specs.declared.Side.{Side}
use Rattle.sides.specs.Sides.{other, at, with_at}
use Rattle.channels.specs.declared.Channel.{Channel}
use Rattle.channels.specs.Rules.{after_refresh, taken}
use Rattle.bench.specs.declared.Bench.{Bench}
use Rattle.bench.specs.Acting.{acts, inputs}

-- what a side holds is put into the other side's inbox
abbrev pub sent : Side → Bench → Bench
sent s b = record b { inboxes = with_at (other s) (at s b.sides) b.inboxes }

-- a side that acts goes through an event's second step and entry; any other takes over its inbox
abbrev pub side_refreshed : Bench → Side → Channel
side_refreshed b s = cond (acts b s) (after_refresh (inputs b.shared.overspeed b s) (at s b.sides)) (taken (at s b.inboxes) (at s b.sides))

abbrev pub refreshed : Side → Bench → Bench
refreshed s b = record b { sides = with_at s (side_refreshed b s) b.sides }
