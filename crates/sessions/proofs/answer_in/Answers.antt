-- `answer_in`: the new area stands first in the room (`fitting`), and zeros behind it: they are put there where its length is another one, and else have stayed (`behind`).
use Rattle.std.proofs.Common.{rules, ◌≡◌, ℕ, List, length, take, drop, ap, ◌∙◌, arith}
use Prim.Native.Nat.{min}
use Rattle.std.proofs.lemmas.Slice.{take-put_mid_below}
use Rattle.numerals.specs.Pairs.{laid_over}
use Rattle.areas.specs.declared.AreaAnswer.{AreaAnswer}
use Rattle.areas.specs.Areas.{area_by, area_answer}
use Rattle.sessions.proofs.Rooms.{fitting, behind}
use Rattle.sessions.proofs.answer_in.Goals as goal

pub invariant_of-area-else-count-area : goal.invariant_of-area-else-count-area
unfolding area_answer
invariant_of-area-else-count-area g c =
    let i = c.area.inside in
    let new = area_by c.args.act c.args.line.now c.args.b.now (take i.count i.room) in
    let size : length i.room ≡ g.row.N = search rules in
    let count : c.min-count.result ≡ min (length new) g.row.N = c.min-count.ensures ∙ ap (λ (r : AreaAnswer). min r.length g.row.N) c.answer_in-done.ensures.answer in
    let stays = c.if-count-area.false in
    (search rules, ap (drop i.count) c.answer_in-done.ensures.new_store ∙ behind g.row.N new i.room size i.count (omega (arith, count, stays)) c.area.invariant.1)

pub returns-then-count-area-clause-new_area : goal.returns-then-count-area-clause-new_area
unfolding area_answer
returns-then-count-area-clause-new_area g c =
    let i = c.area.inside in
    let done = c.answer_in-done in
    let new = area_by c.args.act c.args.line.now c.args.b.now (take i.count i.room) in
    let size : length i.room ≡ g.row.N = search rules in
    let count : c.min-count.result ≡ min (length new) g.row.N = c.min-count.ensures ∙ ap (λ (r : AreaAnswer). min r.length g.row.N) done.ensures.answer in
    take-put_mid_below c.min-count.result _ done.new.store c.fill.new.self c.min-count.result (omega arith) (omega arith)
    ∙ ap (take c.min-count.result) done.ensures.new_store
    ∙ ap (λ (n : ℕ). take n (laid_over new i.room)) count
    ∙ fitting g.row.N new i.room size
    ∙ ap (λ (s : List ℕ). take g.row.N (area_by c.args.act c.args.line.now c.args.b.now s)) c.area.view_is

pub returns-else-count-area-clause-new_area : goal.returns-else-count-area-clause-new_area
unfolding area_answer
returns-else-count-area-clause-new_area g c =
    let i = c.area.inside in
    let new = area_by c.args.act c.args.line.now c.args.b.now (take i.count i.room) in
    let size : length i.room ≡ g.row.N = search rules in
    let count : c.min-count.result ≡ min (length new) g.row.N = c.min-count.ensures ∙ ap (λ (r : AreaAnswer). min r.length g.row.N) c.answer_in-done.ensures.answer in
    let stays = c.if-count-area.false in
    let same : i.count ≡ min (length new) g.row.N = omega (arith, count, stays) in
    ap (take i.count) c.answer_in-done.ensures.new_store
    ∙ ap (λ (n : ℕ). take n (laid_over new i.room)) same
    ∙ fitting g.row.N new i.room size
    ∙ ap (λ (s : List ℕ). take g.row.N (area_by c.args.act c.args.line.now c.args.b.now s)) c.area.view_is
