-- What `damage` changes in a bench, whatever the rules say. The console's page, 'damage'.
use Rattle.std.specs.Prelude.{Bool, ℕ, ℤ}
use Rattle.sides.specs.Sides.{at, with_at}
use Rattle.modes.specs.declared.ModeSet.{ModeSet}
use Rattle.feed.specs.declared.Kind.{Kind}
use Rattle.feed.specs.declared.Reading.{Reading}
use Rattle.feed.specs.Readings.{stored, with_whole}
use Rattle.channels.specs.declared.Channel.{Channel}
use Rattle.channels.specs.declared.references.Reference.{Reference}
use Rattle.channels.specs.References.{with_reference}
use Rattle.bench.specs.declared.Bench.{Bench}
use Rattle.scripts.specs.declared.Part.{Part}

unfoldable pub pf_damaged : ℕ → Bench → Bench
pf_damaged n b = record b { shared = record b.shared { pf = n } }

unfoldable pub independent_damaged : Bool → Bench → Bench
independent_damaged on b = record b { shared = record b.shared { independent = on } }

-- what a part of the bench holds, and another channel in its place
abbrev pub held : Part → Bench → Channel
held (Part.Side s) b = at s b.sides
held (Part.Inbox s) b = at s b.inboxes

abbrev pub with_part : Part → Channel → Bench → Bench
with_part (Part.Side s) c b = record b { sides = with_at s c b.sides }
with_part (Part.Inbox s) c b = record b { inboxes = with_at s c b.inboxes }

unfoldable pub set_damaged : Part → ModeSet → Bench → Bench
set_damaged part set b = with_part part (record (held part b) { set = set }) b

unfoldable pub reference_damaged : Part → Reference → ℤ → Bench → Bench
reference_damaged part name x b = with_part part (record (held part b) { references = with_reference name x (held part b).references }) b

-- a float, whose whole value stays what it was
unfoldable pub reading_damaged : Reading → Bench → Bench
reading_damaged r b = record b { readings = stored r b.readings }

-- the whole value of a kind, whose float stays what it was
unfoldable pub whole_damaged : Kind → ℤ → Bench → Bench
whole_damaged kind x b = record b { wholes = with_whole kind x b.wholes }
