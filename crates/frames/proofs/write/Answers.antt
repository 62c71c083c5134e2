-- `frames::write` meets its contract: the part that the frame was put into comes back into the area.
use Rattle.std.proofs.Common.{sym, ◌∙◌}
use Rattle.frames.proofs.Areas.{area_is}
use Rattle.frames.proofs.write.Goals as goal

pub returns-clause-new_area : goal.returns-clause-new_area
returns-clause-new_area c =
    area_is c.args.b.now c.args.side c.args.start c.args.area.now c.in_ok-side.side (sym c.is_sound.ensures ∙ c.if-not-is_sound.false)
    (sym c.try_from.ensures ∙ c.in_ok-side.was) c.if-area-start.false c.get.result c.get.ensures c.write_frame.new.part c.write_frame.ensures.new_part
