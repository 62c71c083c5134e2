-- `word`: `split` cuts at the spaces, `filter` leaves the parts that are not empty, and `nth` picks one of them.
use Rattle.std.proofs.Common.{◌∙◌, ℕ, Option, unwrap_or, List, [], Bor, refl, ap, rules, tests}
use Rattle.std.proofs.lemmas.Iterator.Consumers.{YieldsList-at, YieldsList-from_filter, nth_from_yields_List}
use Rattle.std.proofs.lemmas.Iterator.Splits.{YieldsList-from_slice_split}
use Rattle.words.specs.Words.{is_space}
use Rattle.words.proofs.Parts.{has_bytes, picked, word_is}
use Rattle.words.proofs.word.Goals as goal

pub returns : goal.returns
returns c =
    let text = c.args.text.now in
    let found =
    nth_from_yields_List c.nth.result c.nth.new.self c.args.n c.nth.ensures.ran
    (YieldsList-from_filter _ has_bytes
    (YieldsList-at c.filter.ensures.source (YieldsList-from_slice_split _ is_space text c.split.ensures.rest c.split.ensures.done c.split.ensures.closure (λ x b q k. search (rules, tests))))
    c.filter.ensures.closure (λ x b q k. search (rules, tests))) in
    ap (λ (b : Bor (List ℕ)). b.now) c.unwrap_or.ensures
    ∙ picked c.nth.result _ refl
    ∙ ap (λ (o : Option (List ℕ)). unwrap_or o []) found
    ∙ word_is c.args.n text
