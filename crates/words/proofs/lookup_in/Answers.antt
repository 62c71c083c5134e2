-- `lookup_in`: `position` finds the first number whose word is w.
use Rattle.std.proofs.Common.{◌∙◌, ℕ, rules, tests, arith}
use Rattle.std.specs.List.{range_with_len}
use Rattle.std.proofs.lemmas.Iterator.{YieldsList-from_range}
use Rattle.std.proofs.lemmas.Iterator.Search.{position_from_yields_List}
use Rattle.words.specs.Words.{same_bytes, word_of}
use Rattle.words.proofs.Names.{position_is}
use Rattle.words.proofs.lookup_in.Goals as goal

pub returns : goal.returns
returns c =
    let name = word_of c.args.text.now in
    let q = λ (i : ℕ). same_bytes c.args.w.now (name i) in
    position_from_yields_List q _ _ _ c.position.ensures.ran (YieldsList-from_range 0 c.args.total c.args.total (cc) (omega arith)) (λ x b f k. search (rules, tests))
    ∙ position_is name c.args.w.now (range_with_len 0 c.args.total)
