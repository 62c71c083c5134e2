-- `frames::read_frame` meets its contract: the frame is the part's first 19 bytes, and no byte behind them is read.
use Rattle.std.proofs.Common.{Bool, cond, sym, ap, ◌∙◌}
use Rattle.std.specs.Prelude.{Err}
use Rattle.refusals.specs.declared.Refusal.{Refusal}
use Rattle.frames.specs.Frames.{fields_read}
use Rattle.frames.proofs.Reading.{read_by}
use Rattle.frames.proofs.read_frame.Goals as goal

pub returns-then-not-is_marked : goal.returns-then-not-is_marked
returns-then-not-is_marked c =
    let chunk = rw c.in_ok-frame.ensures.ok_part at c.first_chunk.ensures.cases in
    let read = read_by c.args.part.now c.in_ok-frame.frame.now chunk.enough chunk.same in
    sym (read ∙ ap (λ (t : Bool). cond t (fields_read c.in_ok-frame.frame.now) (Err Refusal.NoFrame)) (sym c.is_marked.ensures ∙ c.if-not-is_marked.true))

pub returns : goal.returns
returns c =
    let chunk = rw c.in_ok-frame.ensures.ok_part at c.first_chunk.ensures.cases in
    let read = read_by c.args.part.now c.in_ok-frame.frame.now chunk.enough chunk.same in
    c.read_fields.ensures ∙ sym (read ∙ ap (λ (t : Bool). cond t (fields_read c.in_ok-frame.frame.now) (Err Refusal.NoFrame)) (sym c.is_marked.ensures ∙ c.if-not-is_marked.false))
