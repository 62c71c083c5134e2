-- `promises::promises_hold`: each promise by its theorem.
use Rattle.claim.proofs.Claimed.{claims}
use Rattle.claim.proofs.Reached.{reached}
use Rattle.replay.proofs.Made.{made_whole}
use Rattle.claim.proofs.Sheet.{sheet}
use Rattle.claim.proofs.Independent.{independent_laws}
use Rattle.replay.proofs.Flights.{guides_from}
use Rattle.guidance.proofs.Picks.{pick_laws}
use Rattle.rules.proofs.Laws.{stays_laws}
use Rattle.soundness.proofs.Kept.{keeps_sound, laws_in_range}
use Rattle.soundness.proofs.Lowest.{names}
use Rattle.modes.proofs.Laws.{mode_laws}
use Rattle.sides.proofs.Laws.{side_laws, pair_laws}
use Rattle.feed.proofs.WholeLaws.{reading_laws, reading_examples}
use Rattle.feed.proofs.Put.{put_laws}
use Rattle.channels.proofs.Read.{reference_laws}
use Rattle.channels.proofs.Named.{knob_laws}
use Rattle.channels.proofs.Sound.{channel_laws}
use Rattle.channels.proofs.ByLaw.{turn_laws}
use Rattle.bench.proofs.Laws.{count_laws, acting_laws}
use Rattle.bench.proofs.StartLaws.{start_laws}
use Rattle.soundness.proofs.Feed.{feed_laws}
use Rattle.channels.proofs.Rounded.{entry_laws, entry_examples}
use Rattle.codes.proofs.Laws.{code_laws}
use Rattle.codes.proofs.Poster.{poster_laws}
use Rattle.frames.proofs.Laws.{frame_laws, frame_examples}
use Rattle.promises.proofs.Sends.{same_as_sent}
use Rattle.rounding.proofs.Laws.{whole_laws}
use Rattle.rounding.proofs.Sheet.{sheet_whole, edges}
use Rattle.rotation.proofs.Laws.{rotation_laws}
use Rattle.rotation.proofs.Sheet.{sheet_knobs}
use Rattle.words.proofs.Laws.{word_laws, example}
use Rattle.numerals.proofs.Examples.{numbers, pairs, integers, values}
use Rattle.numerals.proofs.Laws.{value_laws}
use Rattle.scripts.proofs.Lines.{lines}
use Rattle.scripts.proofs.Tables.{table_laws}
use Rattle.scripts.proofs.Laws.{line_laws}
use Rattle.sessions.proofs.Laws.{session_laws}
use Rattle.promises.proofs.promises_hold.Goals as goal

pub returns-clause-claims : goal.returns-clause-claims
returns-clause-claims c = claims

pub returns-clause-reached : goal.returns-clause-reached
returns-clause-reached c = reached

pub returns-clause-made_whole : goal.returns-clause-made_whole
returns-clause-made_whole c = made_whole

pub returns-clause-bench_sheet : goal.returns-clause-bench_sheet
returns-clause-bench_sheet c = sheet

pub returns-clause-independent_laws : goal.returns-clause-independent_laws
returns-clause-independent_laws c = independent_laws

pub returns-clause-guides_from : goal.returns-clause-guides_from
returns-clause-guides_from c = guides_from

pub returns-clause-pick_laws : goal.returns-clause-pick_laws
returns-clause-pick_laws c = pick_laws

pub returns-clause-keeps_sound : goal.returns-clause-keeps_sound
returns-clause-keeps_sound c = keeps_sound

pub returns-clause-laws_in_range : goal.returns-clause-laws_in_range
returns-clause-laws_in_range c = laws_in_range

pub returns-clause-names_lowest : goal.returns-clause-names_lowest
returns-clause-names_lowest c = names

pub returns-clause-mode_laws : goal.returns-clause-mode_laws
returns-clause-mode_laws c = mode_laws

pub returns-clause-side_laws : goal.returns-clause-side_laws
returns-clause-side_laws c = side_laws

pub returns-clause-pair_laws : goal.returns-clause-pair_laws
returns-clause-pair_laws c = pair_laws

pub returns-clause-reference_laws : goal.returns-clause-reference_laws
returns-clause-reference_laws c = reference_laws

pub returns-clause-knob_laws : goal.returns-clause-knob_laws
returns-clause-knob_laws c = knob_laws

pub returns-clause-put_laws : goal.returns-clause-put_laws
returns-clause-put_laws c = put_laws

pub returns-clause-count_laws : goal.returns-clause-count_laws
returns-clause-count_laws c = count_laws

pub returns-clause-stays_laws : goal.returns-clause-stays_laws
returns-clause-stays_laws c = stays_laws

pub returns-clause-acting_laws : goal.returns-clause-acting_laws
returns-clause-acting_laws c = acting_laws

pub returns-clause-channel_laws : goal.returns-clause-channel_laws
returns-clause-channel_laws c = channel_laws

pub returns-clause-turn_laws : goal.returns-clause-turn_laws
returns-clause-turn_laws c = turn_laws

pub returns-clause-start_laws : goal.returns-clause-start_laws
returns-clause-start_laws c = start_laws

pub returns-clause-reading_laws : goal.returns-clause-reading_laws
returns-clause-reading_laws c = reading_laws

pub returns-clause-reading_examples : goal.returns-clause-reading_examples
returns-clause-reading_examples c = reading_examples

pub returns-clause-feed_laws : goal.returns-clause-feed_laws
returns-clause-feed_laws c = feed_laws

pub returns-clause-entry_laws : goal.returns-clause-entry_laws
returns-clause-entry_laws c = entry_laws

pub returns-clause-entry_examples : goal.returns-clause-entry_examples
returns-clause-entry_examples c = entry_examples

pub returns-clause-code_laws : goal.returns-clause-code_laws
returns-clause-code_laws c = code_laws

pub returns-clause-poster_laws : goal.returns-clause-poster_laws
returns-clause-poster_laws c = poster_laws

pub returns-clause-frame_laws : goal.returns-clause-frame_laws
returns-clause-frame_laws c = frame_laws

pub returns-clause-frame_examples : goal.returns-clause-frame_examples
returns-clause-frame_examples c = frame_examples

pub returns-clause-same_as_sent : goal.returns-clause-same_as_sent
returns-clause-same_as_sent c = same_as_sent

pub returns-clause-whole_laws : goal.returns-clause-whole_laws
returns-clause-whole_laws c = whole_laws

pub returns-clause-whole_sheet : goal.returns-clause-whole_sheet
returns-clause-whole_sheet c = sheet_whole

pub returns-clause-whole_edges : goal.returns-clause-whole_edges
returns-clause-whole_edges c = edges

pub returns-clause-rotation_laws : goal.returns-clause-rotation_laws
returns-clause-rotation_laws c = rotation_laws

pub returns-clause-rotation_sheet : goal.returns-clause-rotation_sheet
returns-clause-rotation_sheet c = sheet_knobs

pub returns-clause-word_laws : goal.returns-clause-word_laws
returns-clause-word_laws c = word_laws

pub returns-clause-word_example : goal.returns-clause-word_example
returns-clause-word_example c = example

pub returns-clause-number_examples : goal.returns-clause-number_examples
returns-clause-number_examples c = numbers

pub returns-clause-pair_examples : goal.returns-clause-pair_examples
returns-clause-pair_examples c = pairs

pub returns-clause-integer_examples : goal.returns-clause-integer_examples
returns-clause-integer_examples c = integers

pub returns-clause-value_examples : goal.returns-clause-value_examples
returns-clause-value_examples c = values

pub returns-clause-value_laws : goal.returns-clause-value_laws
returns-clause-value_laws c = value_laws

pub returns-clause-script_lines : goal.returns-clause-script_lines
returns-clause-script_lines c = lines

pub returns-clause-table_laws : goal.returns-clause-table_laws
returns-clause-table_laws c = table_laws

pub returns-clause-line_laws : goal.returns-clause-line_laws
returns-clause-line_laws c = line_laws

pub returns-clause-session_laws : goal.returns-clause-session_laws
returns-clause-session_laws c = session_laws
