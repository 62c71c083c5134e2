-- `replay::make`: one call more.
use Rattle.std.proofs.Common.{List, ◌<◌, length, set, get_or, ap, ◌∙◌, arith, Result}
use Rattle.refusals.specs.declared.Refusal.{Refusal}
use Rattle.bench.specs.declared.Bench.{Bench}
use Rattle.bench.specs.declared.call.Call.{Call}
use Rattle.calls.specs.declared.reply.Reply.{Reply}
use Rattle.rules.specs.Calls.{next}
use Rattle.calls.specs.Answers.{reply}
use Rattle.replay.proofs.Made.{bench_more, answers_more}
use Rattle.replay.proofs.make.Goals as goal

pub loop-i-preserved : goal.loop-i-preserved
loop-i-preserved c =
    let i = c.loop-i.i in
    let b = c.args.b.now in
    let calls = c.args.calls.now in
    let answers = c.args.answers.now in
    let far : i < c.min-count.result = c.loop-i-test.true in
    let has_call : i < length calls = omega (arith, c.min-count.ensures) in
    let has_place : i < length answers = omega (arith, c.min-count.ensures) in
    let none = Call.Event 0 in
    let call : Call = get_or calls i none in
    let left = c.loop-i.invariant.bench in
    record {
      bench = c.apply.ensures.bench ∙ ap (λ (x : Bench). next x call) left ∙ bench_more b calls answers i none has_call has_place;
      answers = ap (λ (xs : List (Result Reply Refusal)). set xs i c.apply.result) c.loop-i.invariant.answers
          ∙ answers_more b calls answers i none has_call has_place c.apply.result (c.apply.ensures.answer ∙ ap (λ (x : Bench). reply x call) left);
    }
