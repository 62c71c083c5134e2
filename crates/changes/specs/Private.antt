-- What the private functions of this crate compute, by their own cases. This is no part of the promise: the contracts of the public functions cite the paper's
-- rules in the crate `modes`, and computing over all sets shows that these agree with them.
use Rattle.std.specs.Prelude.{false}
use Rattle.modes.specs.declared.Lateral.{Lateral}
use Rattle.modes.specs.declared.Vertical.{Vertical}
use Rattle.modes.specs.declared.Vertical.TheVariants.{Pitch, Vs, Flc, Alt, AltselCapture, AltselTrack, Vappr, Vga}
use Rattle.modes.specs.declared.Modes.{Modes}
use Rattle.modes.specs.Sets.{NAV, LAPPR, clear, with_lateral, with_vertical, with_vappr_armed}

-- what a lateral mode that is left takes with it: NAV and LAPPR are cleared
abbrev pub leave_lateral : Lateral → Modes → Modes
leave_lateral Lateral.Roll m = m
leave_lateral Lateral.Hdg m = m
leave_lateral Lateral.Nav m = clear NAV m
leave_lateral Lateral.Lappr m = clear LAPPR m
leave_lateral Lateral.Lga m = m

-- from any lateral mode to l
abbrev pub to_lateral : Lateral → Modes → Modes
to_lateral l m = with_lateral l (leave_lateral m.lateral m)

-- what a vertical mode that is left takes with it: an engaged VAPPR is cleared, and an armed one stays
abbrev pub leave_vertical : Vertical → Modes → Modes
leave_vertical Pitch m = m
leave_vertical Vs m = m
leave_vertical Flc m = m
leave_vertical Alt m = m
leave_vertical AltselCapture m = m
leave_vertical AltselTrack m = m
leave_vertical Vappr m = with_vappr_armed false m
leave_vertical Vga m = m

-- from any vertical mode to v
abbrev pub to_vertical : Vertical → Modes → Modes
to_vertical v m = with_vertical v (leave_vertical m.vertical m)
