-- Lines and what they ask for, or what is wrong with them: examples for the reader. `lines` of proofs/Lines.antt computes them.
use Rattle.std.specs.Prelude.{◌≡◌, true, false, List, [], ◌∷◌, map, pos, negsuc, Ok, Err}
use Prim.Native.String.{String}
use Rattle.std.specs.Float.{inf, nan}
use Rattle.modes.specs.declared.Lateral.{Lateral}
use Rattle.modes.specs.declared.ArmedLateral.{ArmedLateral}
use Rattle.modes.specs.declared.Vertical.{Vertical}
use Rattle.modes.specs.declared.Modes.{Modes}
use Rattle.modes.specs.declared.ModeSet.{ModeSet}
use Rattle.sides.specs.declared.Side.{Side}
use Rattle.feed.specs.declared.Kind.{Kind}
use Rattle.feed.specs.declared.Reading.{Reading}
use Rattle.channels.specs.declared.knobs.Knob.{Knob}
use Rattle.channels.specs.declared.references.Reference.{Reference}
use Rattle.bench.specs.declared.call.Call.{Call}
use Rattle.scripts.specs.declared.Part.{Part}
use Rattle.scripts.specs.declared.Command.{Command}
use Rattle.scripts.specs.declared.Mistake.TheVariants.{NoCommand, TooManyWords, NoWord, NoSide, NoKnobNumber, NoCount, NoKnob, NoClicks, NoSwitch, NoSignal, NoWatch, NoKind, NoValue}
use Rattle.scripts.specs.declared.Mistake.TheVariants.{NoDamage, NoPf, NoReference, NoSigned, NoSet, NoLength, NoStart, NoPairs, NoFlag, NoSpeed}
use Rattle.scripts.specs.Commands.{Asked, bytes, command_of}

abbrev pub lga_vga : Modes
lga_vga = record { lateral = Lateral.Lga; armed = ArmedLateral.Lappr; vertical = Vertical.Vga; vappr_armed = true }

abbrev pub examples : List (String × Asked)
examples =
    ("", Ok Command.Blank)
    ∷ ("  # event 4", Ok Command.Blank)
    ∷ ("event 4", Ok (Command.Call (Call.Event 4)))
    ∷ ("  event   4294967295 # all", Ok (Command.Call (Call.Event 4294967295)))
    ∷ ("event 4294967296", Err NoWord)
    ∷ ("event", Err NoWord)
    ∷ ("event 4 5", Err TooManyWords)
    ∷ ("events 4", Err NoCommand)
    ∷ ("send 1", Ok (Command.Call (Call.Send 1)))
    ∷ ("refresh left", Ok (Command.Call (Call.Refresh 0)))
    ∷ ("display right", Ok (Command.Call (Call.Display 1)))
    ∷ ("pick 7", Ok (Command.Pick 7))
    ∷ ("pick both", Err NoSide)
    ∷ ("turn 3 255", Ok (Command.Call (Call.Turn 3 255)))
    ∷ ("turn altitude 255", Ok (Command.Call (Call.Turn 1 255)))
    ∷ ("turn x 1", Err NoKnobNumber)
    ∷ ("turn 3 256", Err NoCount)
    ∷ ("knob heading 9", Ok (Command.Knob Knob.Heading 9))
    ∷ ("knob 0 -9", Ok (Command.Knob Knob.Wheel 247))
    ∷ ("knob 4 9", Err NoKnob)
    ∷ ("knob wheel 128", Err NoClicks)
    ∷ ("press hdg", Ok (Command.Call (Call.Event 16384)))
    ∷ ("press alt", Ok (Command.Call (Call.Event 524288)))
    ∷ ("press independent", Ok (Command.Call (Call.Event 1048576)))
    ∷ ("press go around", Err NoSwitch)
    ∷ ("press nav-captured", Err NoSwitch)
    ∷ ("signal nav-captured", Ok (Command.Call (Call.Event 512)))
    ∷ ("signal nav", Err NoSignal)
    ∷ ("signal independent", Err NoSignal)
    ∷ ("watch on", Ok (Command.Watch true))
    ∷ ("watch off", Ok (Command.Watch false))
    ∷ ("watch", Err NoWatch)
    ∷ ("help", Ok Command.Help)
    ∷ ("reading airspeed inf", Ok (Command.Call (Call.Reading (Reading.Airspeed (inf false)))))
    ∷ ("reading heading nan", Ok (Command.Call (Call.Reading (Reading.Heading nan))))
    ∷ ("reading speed 1", Err NoKind)
    ∷ ("reading roll x", Err NoValue)
    ∷ ("power-on", Ok Command.PowerOn)
    ∷ ("start 120", Ok (Command.Start (pos 120)))
    ∷ ("start -2147483648", Ok (Command.Start (negsuc 2147483647)))
    ∷ ("start 2147483648", Err NoSpeed)
    ∷ ("start 90.0", Err NoSpeed)
    ∷ ("start", Err NoSpeed)
    ∷ ("start 90 90", Err TooManyWords)
    ∷ ("bench", Ok Command.Bench)
    ∷ ("panel", Ok Command.Panel)
    ∷ ("panel 1", Err TooManyWords)
    ∷ ("damage", Err NoDamage)
    ∷ ("damage pf 255", Ok (Command.DamagePf 255))
    ∷ ("damage pf 256", Err NoPf)
    ∷ ("damage independent 1", Ok (Command.DamageIndependent true))
    ∷ ("damage independent 0", Ok (Command.DamageIndependent false))
    ∷ ("damage independent 2", Err NoFlag)
    ∷ ("damage independent on", Err NoFlag)
    ∷ ("damage independent 1 1", Err TooManyWords)
    ∷ ("damage right-inbox set 0 9 9 9", Ok (Command.DamageSet (Part.Inbox Side.Right) ModeSet.Off))
    ∷ ("damage left set 0 9 9 x", Err NoSet)
    ∷ ("damage left set 5 2 8 1", Ok (Command.DamageSet (Part.Side Side.Left) (ModeSet.On lga_vga)))
    ∷ ("damage left set 5 2 0 1", Err NoSet)
    ∷ ("damage right pitch -12", Ok (Command.DamageReference (Part.Side Side.Right) Reference.Pitch (negsuc 11)))
    ∷ ("damage left-inbox heading 12", Ok (Command.DamageReference (Part.Inbox Side.Left) Reference.Heading (pos 12)))
    ∷ ("damage left heading 1.5", Err NoSigned)
    ∷ ("damage left speed 1", Err NoReference)
    ∷ ("damage reading pitch -inf", Ok (Command.DamageReading (Reading.Pitch (inf true))))
    ∷ ("damage whole heading 360", Ok (Command.DamageWhole Kind.Heading (pos 360)))
    ∷ ("damage whole altitude -2147483648", Ok (Command.DamageWhole Kind.Altitude (negsuc 2147483647)))
    ∷ ("damage whole altitude 2147483648", Err NoSigned)
    ∷ ("damage whole left 0", Err NoKind)
    ∷ ("damage whole roll", Err NoSigned)
    ∷ ("damage whole roll 1 1", Err TooManyWords)
    ∷ ("area 2048", Ok (Command.Area 2048))
    ∷ ("area 0", Ok (Command.Area 0))
    ∷ ("area 2049", Err NoLength)
    ∷ ("area 1 1", Err TooManyWords)
    ∷ ("poke 18446744073709551615 0fF0", Ok (Command.Poke 18446744073709551615))
    ∷ ("poke 18446744073709551616 0fF0", Err NoStart)
    ∷ ("poke 0 0fF", Err NoPairs)
    ∷ ("poke 0 0g", Err NoPairs)
    ∷ ("poke 0", Err NoPairs)
    ∷ ("poke 0 00 00", Err TooManyWords)
    ∷ ("write right 12", Ok (Command.Write 1 12))
    ∷ ("write 4294967295 0", Ok (Command.Write 4294967295 0))
    ∷ ("write both 0", Err NoSide)
    ∷ ("write left", Err NoStart)
    ∷ ("read 7", Ok (Command.Read 7))
    ∷ ("read -1", Err NoStart)
    ∷ ("bytes", Ok Command.Bytes)
    ∷ ("bytes 1", Err TooManyWords)
    ∷ ("codes", Ok Command.Codes)
    ∷ ("codes 1", Err TooManyWords)
    ∷ []

-- each line asks for what stands beside it
pub record Lines : Type 0 where
  pub each : map (λ (e : String × Asked). command_of (bytes e.0)) examples ≡ map (λ (e : String × Asked). e.1) examples
