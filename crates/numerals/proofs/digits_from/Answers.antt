-- `numerals::digits_from` meets its contract: a turn reads the first digit of the rest, as `read_on` does. Assumes nothing.
use Rattle.std.proofs.Common.{◌≡◌, ℕ, ◌+◌, ◌<◌, ◌≤◌, List, length, get_or, drop, sym, ◌∙◌, add-one, drop_of_length-le, drop-cons, Option, Some, None}
use Rattle.std.specs.Option.{option_and_then}
use Rattle.numerals.specs.Private.{base_number, step, read_on}
use Rattle.numerals.proofs.digits_from.Goals as goal

-- reading on from place i: what the digit there gives, then the rest
at_digit : (base most v : ℕ) (w : List ℕ) (i : ℕ) (d : Option ℕ) → i < length w → d ≡ step base most v (get_or w i 0) →
    read_on base most v (drop i w) ≡ option_and_then (λ n. read_on base most n (drop (i + 1) w)) d
unfolding read_on
at_digit base most v w i d l e = rw (add-one, drop-cons w i 0, e)

at_end : (base most v : ℕ) (w : List ℕ) (i : ℕ) → length w ≤ i → read_on base most v (drop i w) ≡ Some v
unfolding read_on
at_end base most v w i l = rw (drop_of_length-le w {i = i} l)

pub returns-in_err-v : goal.returns-in_err-v
returns-in_err-v c =
    let a = c.args in
    let e = sym (at_digit (base_number a.base) a.most c.loop-b.v a.w.now c.loop-b.b-index None c.loop-b-test.true c.in_err-v.ensures) ∙ c.loop-b.invariant in
    cc

pub loop-b-preserved : goal.loop-b-preserved
loop-b-preserved c =
    let a = c.args in
    sym (at_digit (base_number a.base) a.most c.loop-b.v a.w.now c.loop-b.b-index (Some c.in_ok-v.v) c.loop-b-test.true c.in_ok-v.ensures) ∙ c.loop-b.invariant

pub returns : goal.returns
returns c = sym (at_end (base_number c.args.base) c.args.most c.loop-b.v c.args.w.now c.loop-b.b-index c.loop-b-test.false) ∙ c.loop-b.invariant
