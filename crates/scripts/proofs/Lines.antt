-- The examples of specs/Lines.antt, each by computing `command_of`. Assumes nothing.
use mathlib.Core.Path.{refl}
use Rattle.words.specs.Words.{up_to, past_spaces, first_word, past_word, word_of}
use Rattle.numerals.specs.Digits.{all_digits, numeral_value, is_numeral}
use Rattle.numerals.specs.Numbers.{number_in, clicks_in}
use Rattle.numerals.specs.Pairs.{are_pairs}
use Rattle.numerals.specs.Integers.{signed_as}
use Rattle.numerals.specs.Values.{pattern_of, decimal_as}
use Rattle.scripts.specs.Commands.{event_names, sides, knobs, kinds, watches, damages, contents, commands, ends_at}
use Rattle.scripts.specs.Commands.{with_number, side_at, with_side, knob_at, turn_of, clicks_of, event_named, event_if, watch_of, start_of, reading_at, set_by}
use Rattle.scripts.specs.Commands.{damage_set, damage_number, damage_part, damage_whole, damage_reading, damage_of, start_at, poke_of, write_of, read_of, command_by, command_in, command_of}
use Rattle.scripts.specs.Lines.{Lines}

pub lines : Lines
unfolding up_to past_spaces first_word past_word word_of all_digits numeral_value is_numeral number_in clicks_in are_pairs signed_as pattern_of decimal_as
    event_names sides knobs kinds watches damages contents commands ends_at
    with_number side_at with_side knob_at turn_of clicks_of event_named event_if watch_of start_of reading_at set_by
    damage_set damage_number damage_part damage_whole damage_reading damage_of start_at poke_of write_of read_of command_by command_in command_of
lines = record { each = refl }
