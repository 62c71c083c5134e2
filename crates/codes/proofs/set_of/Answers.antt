-- `codes::set_of` meets its contract: past the table there is no set, and the number of a code shows the list's set.
use Rattle.std.proofs.Common.{◌≡◌, ◌<◌, sym, ap, ◌∙◌, arith}
use Rattle.std.specs.Prelude.{Some}
use Rattle.modes.specs.Sets.{engaged, armed, cleared, once, coherent}
use Rattle.modes.specs.Numbers.{armed_sum}
use Rattle.modes.specs.Row.{coded_sets}
use Rattle.codes.specs.Poster.{set_numbers, number_at}
use Rattle.codes.proofs.Joins.{set_in}
use Rattle.codes.proofs.Laws.{no_set}
use Rattle.codes.proofs.Poster.{shown_at}
use Rattle.codes.proofs.set_of.Goals as goal

pub returns-in_err-get : goal.returns-in_err-get
returns-in_err-get c = c.from_residual.ensures ∙ sym (no_set c.args.code c.in_err-get.ensures.lookup.3)

-- the table and the list of the sets' numbers are computed, and are one list
pub returns : goal.returns
unfolding set_numbers coded_sets armed_sum coherent once cleared armed engaged
returns c =
    let inside : c.args.code < 108 = c.in_ok-get.ensures.lookup.3.0 in
    let entry : c.in_ok-get.field-0.now ≡ number_at c.args.code = c.in_ok-get.ensures.lookup.4 (omega arith) 0 in
    ap Some (c.set_shown.ensures ∙ ap set_in (c.from-digits.ensures ∙ entry)) ∙ shown_at c.args.code inside
