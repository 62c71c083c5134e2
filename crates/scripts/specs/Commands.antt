-- What a line of a script asks for, or what is wrong with it. The console's page, 'Script' and 'Words for people', which docs/MANUAL.md has as its section 5.
use Rattle.std.specs.Prelude.{◌≡◌, ℕ, ◌+◌, ◌^◌, Bool, true, false, map, not, ◌&&◌, ◌||◌, cond, List, [], ◌∷◌, eqb, leb, ℤ, length, Option, Some, None, Result, Ok, Err}
use Rattle.std.specs.Option.{option_or, option_and_then}
use Rattle.std.specs.Result.{result_ok}
use Prim.Native.Char.{code}
use Prim.Native.String.{String, [] as nil, ◌∷◌ as ◌then◌}
use Rattle.modes.specs.declared.Lateral.{Lateral}
use Rattle.modes.specs.declared.ArmedLateral.{ArmedLateral}
use Rattle.modes.specs.declared.Vertical.{Vertical}
use Rattle.modes.specs.declared.ModeSet.{ModeSet}
use Rattle.modes.specs.Numbers.{lateral_of, armed_of, vertical_of}
use Rattle.sides.specs.declared.Side.{Side}
use Rattle.feed.specs.declared.Kind.{Kind}
use Rattle.feed.specs.declared.Reading.{Reading}
use Rattle.feed.specs.Readings.{of_kind}
use Rattle.channels.specs.declared.knobs.Knob.{Knob}
use Rattle.channels.specs.declared.references.Reference.{Reference}
use Rattle.channels.specs.Turns.{knob_of}
use Rattle.bench.specs.declared.call.Call.{Call}
use Rattle.words.specs.Words.{up_to, word_of, same_bytes, lookup_of}
use Rattle.numerals.specs.Numbers.{number_in, clicks_in}
use Rattle.numerals.specs.Pairs.{are_pairs}
use Rattle.numerals.specs.Integers.{signed_in}
use Rattle.numerals.specs.Values.{value_in}
use Rattle.scripts.specs.declared.Command.{Command}
use Rattle.scripts.specs.declared.Part.{Part}
use Rattle.scripts.specs.declared.Mistake.{Mistake}
use Rattle.scripts.specs.declared.Mistake.TheVariants.{NoCommand, TooManyWords, NoWord, NoSide, NoKnobNumber, NoCount, NoKnob, NoClicks, NoSwitch, NoSignal, NoWatch, NoKind, NoValue}
use Rattle.scripts.specs.declared.Mistake.TheVariants.{NoDamage, NoPf, NoReference, NoSigned, NoSet, NoLength, NoStart, NoPairs, NoFlag, NoSpeed}

-- a text as its bytes
abbrev pub bytes : String → List ℕ
bytes nil = []
bytes (c then s) = code c ∷ bytes s

-- ---- what a line asks for, or what is wrong with it: the place that the line went wrong in. `command_of` never answers `TooLong` nor `NoRoom`, bytes that do not lie
-- inside the bus area: those are for who reads the line and who holds the area

abbrev pub Asked : Type 0
Asked = Result Command Mistake

-- what is asked of a value that a word gives, or else what is wrong
abbrev pub if_some : {T U : Type 0} → Option T → (T → Result U Mistake) → Mistake → Result U Mistake
if_some (Some x) ask mistake = ask x
if_some None ask mistake = Err mistake

-- ---- names: each stands in a table beside what it means

-- what stands beside a word in a table
abbrev pub beside : {T : Type 0} → List (String × T) → List ℕ → Option T
beside [] w = None
beside (e ∷ es) w = cond (same_bytes w (bytes e.0)) (Some e.1) (beside es w)

unfoldable pub sides : List (String × ℕ)
sides = ("left", 0) ∷ ("right", 1) ∷ []

unfoldable pub knobs : List (String × ℕ)
knobs = ("wheel", 0) ∷ ("altitude", 1) ∷ ("speed", 2) ∷ ("heading", 3) ∷ []

-- the events, which are switches and signals, in the order of their numbers from 0
unfoldable pub event_names : List (List ℕ)
event_names =
    map bytes
    ("ap-disconnect" ∷ "ap" ∷ "overspeed-begins" ∷ "overspeed-ends" ∷ "go-around" ∷ "transfer" ∷ "fd-left" ∷ "fd-right"
    ∷ "source-changed" ∷ "nav-captured" ∷ "lappr-captured" ∷ "vappr-captured" ∷ "altsel-captured" ∷ "altsel-on-track"
    ∷ "hdg" ∷ "nav" ∷ "appr" ∷ "vs" ∷ "flc" ∷ "alt" ∷ "independent" ∷ [])

-- ---- the end of a command. A word that is missing is an empty one, which no place accepts

abbrev pub absent : List ℕ → ℕ → Bool
absent text n = eqb (length (word_of text n)) 0

-- what is asked, of a text that has no word behind its first n
unfoldable pub ends_at : List ℕ → ℕ → Command → Asked
ends_at text n asked = cond (absent text n) (Ok asked) (Err TooManyWords)

-- ---- numbers: event words, knobs and sides have 32 bits, a count has 8

-- word n as a number of at most `most`
abbrev pub number_at : List ℕ → ℕ → ℕ → Option ℕ
number_at text n most = number_in most (word_of text n)

-- event WORD, damage pf N, damage independent N (0 is off and 1 is on) and area LENGTH: a number of at most `most`, which is word n and the last one
unfoldable pub with_number : (ℕ → Command) → ℕ → ℕ → Mistake → List ℕ → Asked
with_number ask n most mistake text = if_some (number_at text n most) (λ x. ends_at text (n + 1) (ask x)) mistake

-- the calls of a closure answer what a function of numbers has
abbrev pub Computes : {T : Type 0} → (ℕ → T → Type 0) → (ℕ → T) → Type 0
Computes {T} answers f = (n : ℕ) (x : T) → answers n x → f n ≡ x

-- word 1 as a side, by its name or by a number
unfoldable pub side_at : List ℕ → Option ℕ
side_at text = option_or (beside sides (word_of text 1)) (number_at text 1 4294967295)

-- send SIDE, refresh SIDE, display SIDE, pick SIDE
unfoldable pub with_side : (ℕ → Command) → List ℕ → Asked
with_side ask text = if_some (side_at text) (λ n. ends_at text 2 (ask n)) NoSide

-- word 1 as a knob, by its name or by a number
unfoldable pub knob_at : List ℕ → Option ℕ
knob_at text = option_or (beside knobs (word_of text 1)) (number_at text 1 4294967295)

-- turn KNOB COUNT
unfoldable pub turn_of : List ℕ → Asked
turn_of text = if_some (knob_at text) (λ knob. if_some (number_at text 2 255) (λ n. ends_at text 3 (Command.Call (Call.Turn knob n))) NoCount) NoKnobNumber

-- one of the four knobs
abbrev pub one_knob : Option ℕ → Option Knob
one_knob x = option_and_then (λ n. result_ok (knob_of n)) x

-- knob KNOB CLICKS, of one of the four knobs; the clicks are kept modulo 256
unfoldable pub clicks_of : List ℕ → Asked
clicks_of text = if_some (one_knob (knob_at text)) (λ knob. if_some (clicks_in (word_of text 2)) (λ n. ends_at text 3 (Command.Knob knob n)) NoClicks) NoKnob

-- ---- press SWITCH and signal SIGNAL: the event of that name alone, as the word with its bit

-- the events that no switch makes
abbrev pub is_signal : ℕ → Bool
is_signal n = leb 2 n && leb n 3 || leb 8 n && leb n 13

abbrev pub is_switch : ℕ → Bool
is_switch n = leb n 20 && not (is_signal n)

-- the event whose name word 1 is
unfoldable pub event_named : List ℕ → Option ℕ
event_named text = lookup_of (word_of text 1) event_names

-- an event, if it is one of those that the command takes
unfoldable pub event_if : (ℕ → Bool) → Mistake → List ℕ → Asked
event_if takes why text = if_some (event_named text) (λ n. cond (takes n) (ends_at text 2 (Command.Call (Call.Event (2 ^ n)))) (Err why)) why

-- ---- watch on, watch off

unfoldable pub watches : List (String × Bool)
watches = ("off", false) ∷ ("on", true) ∷ []

unfoldable pub watch_of : List ℕ → Asked
watch_of text = if_some (beside watches (word_of text 1)) (λ on. ends_at text 2 (Command.Watch on)) NoWatch

-- ---- start SPEED, of any signed number: the start itself refuses what it does not accept (document 02, 2026-06)

unfoldable pub start_of : List ℕ → Asked
start_of text = if_some (signed_in (word_of text 1)) (λ speed. ends_at text 2 (Command.Start speed)) NoSpeed

-- ---- readings: reading KIND VALUE, and damage reading KIND VALUE

-- the kinds of readings
unfoldable pub kinds : List (String × Kind)
kinds =
    ("altitude", Kind.Altitude)
    ∷ ("airspeed", Kind.Airspeed)
    ∷ ("vertical-speed", Kind.VerticalSpeed)
    ∷ ("roll", Kind.Roll)
    ∷ ("pitch", Kind.Pitch)
    ∷ ("heading", Kind.Heading)
    ∷ []

-- the words n and n + 1 as a kind and its value, or what is wrong with them
unfoldable pub reading_at : List ℕ → ℕ → Result Reading Mistake
reading_at text n = if_some (beside kinds (word_of text n)) (λ kind. if_some (value_in (word_of text (n + 1))) (λ x. Ok (of_kind kind x)) NoValue) NoKind

abbrev pub if_reading : Result Reading Mistake → (Reading → Asked) → Asked
if_reading (Ok r) ask = ask r
if_reading (Err mistake) ask = Err mistake

-- ---- sets, by four numbers of 32 bits: lateral law, armed lateral mode, vertical law, VAPPR armed

-- whether VAPPR is armed, by 0 or 1
abbrev pub flag_of : ℕ → Option Bool
flag_of n = cond (eqb n 0) (Some false) (cond (eqb n 1) (Some true) None)

-- the set that is on and has these modes, if there is each of them
abbrev pub on_of : Option Lateral → Option ArmedLateral → Option Vertical → Option Bool → Option ModeSet
on_of (Some l) (Some a) (Some v) (Some f) = Some (ModeSet.On (record { lateral = l; armed = a; vertical = v; vappr_armed = f }))
on_of l a v f = None

-- lateral 0 is Off, whatever the other three are
unfoldable pub set_by : ℕ → ℕ → ℕ → ℕ → Option ModeSet
set_by lateral armed vertical vappr =
    cond (eqb lateral 0) (Some ModeSet.Off) (on_of (lateral_of lateral) (armed_of armed) (vertical_of vertical) (flag_of vappr))

-- ---- damage

-- what is asked of a number of a set, word n; a word that is no number of 32 bits gives no set
abbrev pub if_number : List ℕ → ℕ → (ℕ → Asked) → Asked
if_number text n ask = if_some (number_at text n 4294967295) ask NoSet

-- damage BOX set LATERAL ARMED VERTICAL VAPPR-ARMED, where BOX is a part of the bench that has a set and references
unfoldable pub damage_set : Part → List ℕ → Asked
damage_set part text =
    if_number text 3 (λ lateral. if_number text 4 (λ armed. if_number text 5 (λ vertical. if_number text 6 (λ vappr.
    if_some (set_by lateral armed vertical vappr) (λ set. ends_at text 7 (Command.DamageSet part set)) NoSet))))

-- damage BOX REFERENCE N and damage whole KIND N, a signed number of 32 bits
unfoldable pub damage_number : (ℤ → Command) → List ℕ → Asked
damage_number ask text = if_some (signed_in (word_of text 3)) (λ x. ends_at text 4 (ask x)) NoSigned

abbrev pub damage_reference : Reference → Part → List ℕ → Asked
damage_reference name part text = damage_number (λ x. Command.DamageReference part name x) text

-- what can be damaged of a part: its references and its set
unfoldable pub contents : List (String × (Part → List ℕ → Asked))
contents =
    ("heading", damage_reference Reference.Heading)
    ∷ ("preselected", damage_reference Reference.Preselected)
    ∷ ("held", damage_reference Reference.Held)
    ∷ ("vertical-speed", damage_reference Reference.VerticalSpeed)
    ∷ ("ias", damage_reference Reference.Ias)
    ∷ ("roll", damage_reference Reference.Roll)
    ∷ ("pitch", damage_reference Reference.Pitch)
    ∷ ("set", damage_set)
    ∷ []

unfoldable pub damage_part : Part → List ℕ → Asked
damage_part part text = if_some (beside contents (word_of text 2)) (λ damage. damage part text) NoReference

-- the whole value of a kind
unfoldable pub damage_whole : List ℕ → Asked
damage_whole text = if_some (beside kinds (word_of text 2)) (λ kind. damage_number (λ x. Command.DamageWhole kind x) text) NoKind

unfoldable pub damage_reading : List ℕ → Asked
damage_reading text = if_reading (reading_at text 2) (λ r. ends_at text 4 (Command.DamageReading r))

-- parts, whole values, and the three other things that can be damaged
unfoldable pub damages : List (String × (List ℕ → Asked))
damages =
    ("left", damage_part (Part.Side Side.Left))
    ∷ ("right", damage_part (Part.Side Side.Right))
    ∷ ("left-inbox", damage_part (Part.Inbox Side.Left))
    ∷ ("right-inbox", damage_part (Part.Inbox Side.Right))
    ∷ ("whole", damage_whole)
    ∷ ("reading", damage_reading)
    ∷ ("pf", with_number (λ n. Command.DamagePf n) 2 255 NoPf)
    ∷ ("independent", with_number (λ n. Command.DamageIndependent (eqb n 1)) 2 1 NoFlag)
    ∷ []

unfoldable pub damage_of : List ℕ → Asked
damage_of text = if_some (beside damages (word_of text 1)) (λ damage. damage text) NoDamage

-- ---- the bus area

-- word n as a place in the area, of 64 bits
unfoldable pub start_at : List ℕ → ℕ → Option ℕ
start_at text n = number_in 18446744073709551615 (word_of text n)

-- poke START HEX
unfoldable pub poke_of : List ℕ → Asked
poke_of text = if_some (start_at text 1) (λ start. cond (are_pairs (word_of text 2)) (ends_at text 3 (Command.Poke start)) (Err NoPairs)) NoStart

-- write SIDE START
unfoldable pub write_of : List ℕ → Asked
write_of text = if_some (side_at text) (λ side. if_some (start_at text 2) (λ start. ends_at text 3 (Command.Write side start)) NoStart) NoSide

-- read START
unfoldable pub read_of : List ℕ → Asked
read_of text = if_some (start_at text 1) (λ start. ends_at text 2 (Command.Read start)) NoStart

-- ---- commands

unfoldable pub commands : List (String × (List ℕ → Asked))
commands =
    ("event", with_number (λ word. Command.Call (Call.Event word)) 1 4294967295 NoWord)
    ∷ ("send", with_side (λ side. Command.Call (Call.Send side)))
    ∷ ("refresh", with_side (λ side. Command.Call (Call.Refresh side)))
    ∷ ("display", with_side (λ side. Command.Call (Call.Display side)))
    ∷ ("pick", with_side (λ side. Command.Pick side))
    ∷ ("turn", turn_of)
    ∷ ("knob", clicks_of)
    ∷ ("reading", λ text. if_reading (reading_at text 1) (λ r. ends_at text 3 (Command.Call (Call.Reading r))))
    ∷ ("press", event_if is_switch NoSwitch)
    ∷ ("signal", event_if is_signal NoSignal)
    ∷ ("power-on", λ text. ends_at text 1 Command.PowerOn)
    ∷ ("bench", λ text. ends_at text 1 Command.Bench)
    ∷ ("panel", λ text. ends_at text 1 Command.Panel)
    ∷ ("help", λ text. ends_at text 1 Command.Help)
    ∷ ("watch", watch_of)
    ∷ ("damage", damage_of)
    ∷ ("area", with_number (λ n. Command.Area n) 1 2048 NoLength)
    ∷ ("poke", poke_of)
    ∷ ("write", write_of)
    ∷ ("read", read_of)
    ∷ ("bytes", λ text. ends_at text 1 Command.Bytes)
    ∷ ("start", start_of)
    ∷ ("codes", λ text. ends_at text 1 Command.Codes)
    ∷ []

-- the command of a name, of a text
unfoldable pub command_by : List ℕ → List ℕ → Asked
command_by name text = if_some (beside commands name) (λ command. command text) NoCommand

-- a line without a word asks for nothing
unfoldable pub command_in : List ℕ → Asked
command_in text = cond (absent text 0) (Ok Command.Blank) (command_by (word_of text 0) text)

-- byte 35, '#', starts a comment
abbrev pub text_of : List ℕ → List ℕ
text_of line = up_to 35 line

unfoldable pub command_of : List ℕ → Asked
command_of line = command_in (text_of line)

-- the word of a poke line that holds its bytes, as pairs of digits
unfoldable pub pairs_of : List ℕ → List ℕ
pairs_of line = word_of (text_of line) 2
