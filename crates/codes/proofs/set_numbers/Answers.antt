-- `codes::set_numbers` meets its contract: the table and the numbers of the list's sets are computed, and are one list.
use Rattle.std.proofs.Common.{refl}
use Rattle.modes.specs.Sets.{engaged, armed, cleared, once, coherent}
use Rattle.modes.specs.Numbers.{armed_sum}
use Rattle.modes.specs.Row.{coded_sets}
use Rattle.codes.specs.Poster.{set_numbers}
use Rattle.codes.proofs.set_numbers.Goals as goal

pub returns : goal.returns
unfolding set_numbers coded_sets armed_sum coherent once cleared armed engaged
returns c = refl
