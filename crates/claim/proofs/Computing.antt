-- All that a list of calls from a start computes with: a proof that says `unfolding rules` opens every definition on the `unfolding` lines below.
use lib.Count.{count_trailing_zeros}
use lib.Ieee.{of_bits, of_int}
use Rattle.rounding.specs.Whole.{whole_of}
use Rattle.modes.specs.Sets.{engaged, armed, cleared, once, coherent, put, disarm, arm, drop, clear, engage}
use Rattle.modes.specs.Numbers.{armed_sum, mode_lamps}
use Rattle.modes.specs.Events.{overspeed, go_around, clear_armed, take_basic, clear_navigation, capture, capture_vappr, track, switch, switch_nav, switch_appr, switch_flc}
use Rattle.feed.specs.Readings.{whole_reading, reading_verdict, whole_number}
use Rattle.feed.specs.Sound.{readings_sound}
use Rattle.channels.specs.Sound.{references_sound, channel_sound}
use Rattle.channels.specs.Entry.{loaded, entry, enter}
use Rattle.channels.specs.Rules.{is_on, second_step, third_step, after_event, after_refresh}
use Rattle.channels.specs.Turns.{moved, reference_moved, pitched, wheel_turned, altitude_turned, heading_turned, after_turn}
use Rattle.bench.specs.Acting.{acts}
use Rattle.bench.specs.Independent.{both_approach, independent_sound, begun, ended}
use Rattle.bench.specs.Holds.{start_channel, bench_at, power_on, started}
use Rattle.bench.specs.Sound.{sound}
use Rattle.rules.specs.Steps.{shared_after, asks_for, is_asked, fd_after, first_step, three_steps, acted}
use Rattle.rules.specs.Turns.{turned}
use Rattle.calls.specs.Displays.{lamps, shown}
use Rattle.rules.specs.Calls.{granted, next}

-- mode sets and their changes
unfoldable sets : Unit {0}
unfolding engaged armed cleared once coherent put disarm arm drop clear engage armed_sum mode_lamps
sets = tt

unfoldable changes : Unit {0}
unfolding overspeed go_around clear_armed take_basic clear_navigation capture capture_vappr track switch switch_nav switch_appr switch_flc
changes = tt

-- readings, channels and benches, and their soundness
unfoldable benches : Unit {0}
unfolding of_bits of_int whole_of whole_reading reading_verdict whole_number readings_sound references_sound channel_sound start_channel bench_at power_on started both_approach independent_sound sound
benches = tt

-- the rules of one side
unfoldable channels : Unit {0}
unfolding loaded entry enter is_on second_step third_step after_event after_refresh moved reference_moved pitched wheel_turned altitude_turned heading_turned after_turn
channels = tt

-- and of the bench
unfoldable steps : Unit {0}
unfolding count_trailing_zeros acts begun ended shared_after asks_for is_asked fd_after first_step three_steps acted turned
steps = tt

-- the calls
unfoldable pub rules : Unit {0}
unfolding sets changes benches channels steps lamps shown granted next
rules = tt
