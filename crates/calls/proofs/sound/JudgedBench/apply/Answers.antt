-- `JudgedBench::apply`: a bench that was found sound is left sound.
use Rattle.std.proofs.Common.{◌≡◌, true, ◌∙◌, sym}
use Rattle.bench.specs.Sound.{sound}
use Rattle.soundness.proofs.Kept.{left_is_sound}
use Rattle.calls.proofs.sound.JudgedBench.apply.Goals as goal

pub invariant_of-self : goal.invariant_of-self
invariant_of-self c =
    let h : sound c.self.inside.bench ≡ true = sym c.self.invariant ∙ c.if-self.true in
    c.if-self.true ∙ sym (left_is_sound c.self.inside.bench _ c.args.call (c.apply.ensures.bench h) h)
