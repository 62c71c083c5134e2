-- What a panel marks. The console's page, 'Panel'.
use Rattle.modes.specs.Sets.{Mode, ROLL, HDG, PITCH, VS, FLC, ALT, ALTSEL}
use Rattle.channels.specs.declared.references.Reference.{Reference}

-- the mode that steers to a reference while it is engaged
abbrev pub steering : Reference → Mode
steering Reference.Heading = HDG
steering Reference.Preselected = ALTSEL
steering Reference.Held = ALT
steering Reference.VerticalSpeed = VS
steering Reference.Ias = FLC
steering Reference.Roll = ROLL
steering Reference.Pitch = PITCH
