-- What a command does to the bench and what it answers. The console's page, 'Script' and 'Words for people'. A call does and answers what its definition says, `damage` writes past all rules, and
-- what only shows leaves the bench as it is, and so does what is for the bus area.
use Rattle.std.specs.Prelude.{ℕ, ◌+◌, ◌%◌, Result, Ok}
use Rattle.std.specs.Result.{result_and}
use Rattle.refusals.specs.declared.Refusal.{Refusal}
use Rattle.channels.specs.declared.knobs.Knob.{Knob}
use Rattle.channels.specs.Turns.{knob_number}
use Rattle.scripts.specs.Commands.{Asked}
use Rattle.scripts.specs.declared.Command.{Command}
use Rattle.bench.specs.declared.Bench.{Bench}
use Rattle.bench.specs.declared.call.Call.{Call}
use Rattle.bench.specs.Holds.{power_on, started}
use Rattle.bench.specs.Counts.{count_of}
use Rattle.calls.specs.declared.reply.Reply.{Reply}
use Rattle.rules.specs.Calls.{next}
use Rattle.calls.specs.Answers.{reply}
use Rattle.acts.specs.declared.Effect.{Effect}
use Rattle.scripts.specs.declared.AreaAct.{AreaAct}
use Rattle.acts.specs.Damage.{pf_damaged, independent_damaged, set_damaged, reference_damaged, reading_damaged, whole_damaged}

-- a knob that goes so many clicks from its last count, modulo 256, is turned to the count that it comes to
abbrev pub clicked : Knob → ℕ → Bench → Call
clicked knob clicks b = Call.Turn (knob_number knob) ((count_of knob b.counts + clicks) % 256)

-- what a line answers that asks for a command: a call and a start may be refused, and nothing else
unfoldable pub answer_to : Asked → Bench → Result Reply Refusal
answer_to (Ok (Command.Call call)) b = reply b call
answer_to (Ok (Command.Knob knob clicks)) b = reply b (clicked knob clicks b)
answer_to (Ok (Command.Start speed)) b = result_and (started speed).outcome (Ok Reply.Done)
answer_to asked b = Ok Reply.Done

-- the bench after a command
unfoldable pub bench_after : Asked → Bench → Bench
bench_after (Ok (Command.Call call)) b = next b call
bench_after (Ok (Command.Knob knob clicks)) b = next b (clicked knob clicks b)
bench_after (Ok Command.PowerOn) b = power_on
bench_after (Ok (Command.Start speed)) b = (started speed).bench
bench_after (Ok (Command.DamagePf n)) b = pf_damaged n b
bench_after (Ok (Command.DamageReading r)) b = reading_damaged r b
bench_after (Ok (Command.DamageWhole kind x)) b = whole_damaged kind x b
bench_after (Ok (Command.DamageSet part set)) b = set_damaged part set b
bench_after (Ok (Command.DamageReference part name x)) b = reference_damaged part name x b
bench_after (Ok (Command.DamageIndependent on)) b = independent_damaged on b
bench_after asked b = b

-- ---- what a command is for: it can change the bench, it turns the watch on or off, it changes the bus area, or else it shows something

abbrev pub effect_of : Asked → Effect
effect_of (Ok (Command.Call (Call.Display side))) = Effect.Shows
effect_of (Ok (Command.Call call)) = Effect.Acts
effect_of (Ok (Command.Knob knob clicks)) = Effect.Acts
effect_of (Ok Command.PowerOn) = Effect.Acts
effect_of (Ok (Command.Start speed)) = Effect.Acts
effect_of (Ok (Command.DamagePf n)) = Effect.Acts
effect_of (Ok (Command.DamageReading r)) = Effect.Acts
effect_of (Ok (Command.DamageWhole kind x)) = Effect.Acts
effect_of (Ok (Command.DamageSet part set)) = Effect.Acts
effect_of (Ok (Command.DamageReference part name x)) = Effect.Acts
effect_of (Ok (Command.DamageIndependent on)) = Effect.Acts
effect_of (Ok (Command.Watch on)) = Effect.Watches on
effect_of (Ok (Command.Area n)) = Effect.Stores (AreaAct.Clears n)
effect_of (Ok (Command.Poke start)) = Effect.Stores (AreaAct.Pokes start)
effect_of (Ok (Command.Write side start)) = Effect.Stores (AreaAct.Writes side start)
effect_of asked = Effect.Shows
