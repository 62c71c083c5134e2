-- `lookup`: `position` finds the first name that is w.
use Rattle.std.proofs.Common.{◌∙◌, ℕ, List, Bor, rules, tests}
use Rattle.std.proofs.lemmas.Iterator.{YieldsList-from_slice}
use Rattle.std.proofs.lemmas.Iterator.Search.{position_from_yields_List}
use Rattle.words.specs.Words.{same_bytes}
use Rattle.words.proofs.Names.{position_is}
use Rattle.words.proofs.lookup.Goals as goal

pub returns : goal.returns
returns c =
    let q = λ (b : Bor (List ℕ)). same_bytes c.args.w.now b.now in
    position_from_yields_List q _ _ _ c.position.ensures.ran (YieldsList-from_slice c.args.names.now cc) (λ x b f k. search (rules, tests))
    ∙ position_is (λ (b : Bor (List ℕ)). b.now) c.args.w.now c.args.names.now
