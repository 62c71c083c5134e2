-- The laws of lines: one test of a command and its text, which every case of the table of commands passes. Assumes nothing.
use Rattle.std.proofs.Common.{◌≡◌, ℕ, ◌+◌, ◌^◌, Bool, true, false, cond, eqb, leb, List, [], ◌∷◌, ℤ, Option, Some, None, Ok, Err, refl, leb-true, le-leb}
use Prim.Native.String.{String}
use Rattle.std.specs.Prelude.{Result}
use Rattle.std.specs.Bool.{⊤}
use Rattle.sides.specs.declared.Side.{Side}
use Rattle.feed.specs.declared.Reading.{Reading}
use Rattle.channels.specs.declared.references.Reference.{Reference}
use Rattle.bench.specs.declared.call.Call.{Call}
use Rattle.words.specs.Words.{word_of, same_bytes}
use Rattle.numerals.specs.Numbers.{clicks_in}
use Rattle.numerals.specs.Integers.{signed_in}
use Rattle.numerals.specs.Pairs.{are_pairs}
use Rattle.numerals.proofs.Numerals.{number_fits}
use Rattle.scripts.specs.declared.Part.{Part}
use Rattle.scripts.specs.declared.Command.{Command}
use Rattle.scripts.specs.declared.Mistake.{Mistake}
use Rattle.scripts.specs.declared.Mistake.TheVariants.{NoCommand, TooManyWords, NoWord, NoSide, NoKnobNumber, NoCount, NoKnob, NoClicks, NoSwitch, NoSignal, NoWatch, NoKind}
use Rattle.scripts.specs.declared.Mistake.TheVariants.{NoDamage, NoPf, NoReference, NoSigned, NoSet, NoLength, NoStart, NoPairs, NoFlag, NoSpeed}
use Rattle.scripts.specs.Commands.{Asked, bytes, beside, watches, kinds, contents, damages, commands, absent, ends_at, if_some, if_reading}
use Rattle.scripts.specs.Commands.{number_at, side_at, knob_at, one_knob, reading_at, start_at, set_by, is_switch, is_signal, event_named}
use Rattle.scripts.specs.Commands.{with_number, with_side, turn_of, clicks_of, event_if, watch_of, start_of, poke_of, write_of, read_of}
use Rattle.scripts.specs.Commands.{if_number, damage_set, damage_number, damage_reference, damage_part, damage_whole, damage_reading, damage_of, command_by, command_in, text_of, command_of, pairs_of}
use Rattle.scripts.specs.Laws.{LineLaws}

-- an area of at most 2,048 bytes, and a poke with pairs in word 2
abbrev allows : List ℕ → Command → Bool
allows text Command.Blank = true
allows text (Command.Call call) = true
allows text (Command.Pick side) = true
allows text (Command.Knob knob clicks) = true
allows text Command.PowerOn = true
allows text (Command.Start speed) = true
allows text Command.Bench = true
allows text Command.Panel = true
allows text Command.Help = true
allows text (Command.Watch on) = true
allows text (Command.DamagePf n) = true
allows text (Command.DamageReading r) = true
allows text (Command.DamageSet part set) = true
allows text (Command.DamageReference part name x) = true
allows text (Command.DamageWhole kind x) = true
allows text (Command.DamageIndependent on) = true
allows text (Command.Area n) = leb n 2048
allows text (Command.Poke start) = are_pairs (word_of text 2)
allows text (Command.Write side start) = true
allows text (Command.Read start) = true
allows text Command.Bytes = true
allows text Command.Codes = true

-- what is wrong with a line stays within them
abbrev meets : List ℕ → Asked → Bool
meets text (Ok c) = allows text c
meets text (Err mistake) = true

record Meets (text : List ℕ) (a : Asked) : Type 0 where
  holds : meets text a ≡ true

-- each entry of a table meets them
abbrev Each : {T : Type 0} → List ℕ → (T → Asked) → List (String × T) → Type 0
Each text ask [] = ⊤
Each text ask (e ∷ es) = Meets text (ask e.1) × Each text ask es

module _ {text : List ℕ} where
  wrong : (mistake : Mistake) → Meets text (Err mistake)
  wrong mistake = record { holds = refl }

  -- ---- the forms that the table is made of

  either : (t : Bool) {x y : Asked} → (t ≡ true → Meets text x) → Meets text y → Meets text (cond t x y)
  either true h k = h refl
  either false h k = k

  ends : (n : ℕ) (c : Command) → allows text c ≡ true → Meets text (ends_at text n c)
  unfolding ends_at
  ends n c h = either (absent text n) (λ t. record { holds = h }) (wrong TooManyWords)

  given : {T : Type 0} (x : Option T) {ask : T → Asked} (mistake : Mistake) → ((v : T) → x ≡ Some v → Meets text (ask v)) → Meets text (if_some x ask mistake)
  given (Some v) mistake h = h v refl
  given None mistake h = wrong mistake

  table : {T : Type 0} (ask : T → Asked) (es : List (String × T)) (mistake : Mistake) (w : List ℕ) → Each text ask es → Meets text (if_some (beside es w) ask mistake)
  table ask [] mistake w h = wrong mistake
  table ask (e ∷ es) mistake w h = go (same_bytes w (bytes e.0)) (table ask es mistake w h.1)
    where
      go : (t : Bool) → Meets text (if_some (beside es w) ask mistake) → Meets text (if_some (cond t (Some e.1) (beside es w)) ask mistake)
      go true k = h.0
      go false k = k

  reading : (x : Result Reading Mistake) {ask : Reading → Asked} → ((r : Reading) → Meets text (ask r)) → Meets text (if_reading x ask)
  reading (Ok r) h = h r
  reading (Err mistake) h = wrong mistake

-- ---- the commands

module _ (text : List ℕ) where
  number : (ask : ℕ → Command) (n most : ℕ) (mistake : Mistake) → ((x : ℕ) → number_at text n most ≡ Some x → allows text (ask x) ≡ true) → Meets text (with_number ask n most mistake text)
  unfolding with_number
  number ask n most mistake h = given (number_at text n most) mistake (λ x e. ends (n + 1) (ask x) (h x e))

  of_side : (ask : ℕ → Command) → ((n : ℕ) → allows text (ask n) ≡ true) → Meets text (with_side ask text)
  unfolding with_side
  of_side ask h = given (side_at text) NoSide (λ n e. ends 2 (ask n) (h n))

  turn : Meets text (turn_of text)
  unfolding turn_of
  turn = given (knob_at text) NoKnobNumber (λ knob e. given (number_at text 2 255) NoCount (λ n f. ends 3 (Command.Call (Call.Turn knob n)) refl))

  clicks : Meets text (clicks_of text)
  unfolding clicks_of
  clicks = given (one_knob (knob_at text)) NoKnob (λ knob e. given (clicks_in (word_of text 2)) NoClicks (λ n f. ends 3 (Command.Knob knob n) refl))

  event_taken : (takes : ℕ → Bool) (mistake : Mistake) → Meets text (event_if takes mistake text)
  unfolding event_if
  event_taken takes mistake = given (event_named text) mistake (λ n e. either (takes n) (λ t. ends 2 (Command.Call (Call.Event (2 ^ n))) refl) (wrong mistake))

  watch : Meets text (watch_of text)
  unfolding watch_of
  watch = given (beside watches (word_of text 1)) NoWatch (λ on e. ends 2 (Command.Watch on) refl)

  begin : Meets text (start_of text)
  unfolding start_of
  begin = given (signed_in (word_of text 1)) NoSpeed (λ z e. ends 2 (Command.Start z) refl)

  signed_number : (ask : ℤ → Command) → ((z : ℤ) → allows text (ask z) ≡ true) → Meets text (damage_number ask text)
  unfolding damage_number
  signed_number ask h = given (signed_in (word_of text 3)) NoSigned (λ z e. ends 4 (ask z) (h z))

  set_number : (n : ℕ) {ask : ℕ → Asked} → ((v : ℕ) → Meets text (ask v)) → Meets text (if_number text n ask)
  set_number n h = given (number_at text n 4294967295) NoSet (λ v e. h v)

  of_set : (part : Part) → Meets text (damage_set part text)
  unfolding damage_set
  of_set part =
      set_number 3 (λ lateral. set_number 4 (λ armed. set_number 5 (λ vertical. set_number 6 (λ vappr.
      given (set_by lateral armed vertical vappr) NoSet (λ s e. ends 7 (Command.DamageSet part s) refl)))))

  part : (p : Part) → Meets text (damage_part p text)
  unfolding damage_part contents
  part p =
      table (λ damage. damage p text) contents NoReference (word_of text 2)
      (at Reference.Heading, (at Reference.Preselected, (at Reference.Held, (at Reference.VerticalSpeed, (at Reference.Ias, (at Reference.Roll, (at Reference.Pitch, (of_set p, tt))))))))
    where
      at : (name : Reference) → Meets text (damage_reference name p text)
      at name = signed_number (λ z. Command.DamageReference p name z) (λ z. refl)

  whole : Meets text (damage_whole text)
  unfolding damage_whole
  whole = given (beside kinds (word_of text 2)) NoKind (λ kind e. signed_number (λ z. Command.DamageWhole kind z) (λ z. refl))

  damage : Meets text (damage_of text)
  unfolding damage_of damages damage_reading
  damage =
      table (λ damage. damage text) damages NoDamage (word_of text 1) (
        part (Part.Side Side.Left),
        (
          part (Part.Side Side.Right),
          (
            part (Part.Inbox Side.Left),
            (
              part (Part.Inbox Side.Right),
              (
                whole,
                (
                  reading (reading_at text 2) (λ r. ends 4 (Command.DamageReading r) refl),
                  (
                    number (λ n. Command.DamagePf n) 2 255 NoPf (λ n e. refl),
                    (number (λ n. Command.DamageIndependent (eqb n 1)) 2 1 NoFlag (λ n e. refl), tt),
                  ),
                ),
              ),
            ),
          ),
        ),
      )

  poke : Meets text (poke_of text)
  unfolding poke_of
  poke = given (start_at text 1) NoStart (λ n e. either (are_pairs (word_of text 2)) (λ t. ends 3 (Command.Poke n) t) (wrong NoPairs))

  write : Meets text (write_of text)
  unfolding write_of
  write = given (side_at text) NoSide (λ side e. given (start_at text 2) NoStart (λ n f. ends 3 (Command.Write side n) refl))

  read : Meets text (read_of text)
  unfolding read_of
  read = given (start_at text 1) NoStart (λ n e. ends 2 (Command.Read n) refl)

  -- the table
  by_name : (name : List ℕ) → Meets text (command_by name text)
  unfolding command_by commands
  by_name name =
      table (λ command. command text) commands NoCommand name (
        number (λ word. Command.Call (Call.Event word)) 1 4294967295 NoWord (λ n e. refl),
        (
          of_side (λ side. Command.Call (Call.Send side)) (λ n. refl),
          (
            of_side (λ side. Command.Call (Call.Refresh side)) (λ n. refl),
            (
              of_side (λ side. Command.Call (Call.Display side)) (λ n. refl),
              (
                of_side (λ side. Command.Pick side) (λ n. refl),
                (
                  turn,
                  (
                    clicks,
                    (
                      reading (reading_at text 1) (λ r. ends 3 (Command.Call (Call.Reading r)) refl),
                      (
                        event_taken is_switch NoSwitch,
                        (
                          event_taken is_signal NoSignal,
                          (
                            ends 1 Command.PowerOn refl,
                            (
                              ends 1 Command.Bench refl,
                              (
                                ends 1 Command.Panel refl,
                                (
                                  ends 1 Command.Help refl,
                                  (
                                    watch,
                                    (
                                      damage,
                                      (
                                        number (λ n. Command.Area n) 1 2048 NoLength (λ n e. le-leb n 2048 (number_fits 2048 (word_of text 1) n e)),
                                        (
                                          poke,
                                          (
                                            write,
                                            (
                                              read,
                                              (
                                                ends 1 Command.Bytes refl,
                                                (begin, (ends 1 Command.Codes refl, tt)),
                                              ),
                                            ),
                                          ),
                                        ),
                                      ),
                                    ),
                                  ),
                                ),
                              ),
                            ),
                          ),
                        ),
                      ),
                    ),
                  ),
                ),
              ),
            ),
          ),
        ),
      )

  in_text : Meets text (command_in text)
  unfolding command_in
  in_text = either (absent text 0) (λ t. record { holds = refl }) (by_name (word_of text 0))

pub line_laws : LineLaws
unfolding command_of pairs_of
line_laws = record {
  area_length = λ line n e. leb-true n 2048 (rw e at (in_text (text_of line)).holds);
  poke_pairs = λ line start e. rw e at (in_text (text_of line)).holds;
}
