-- What private functions of this crate compute. This is no part of the promise: the contracts of the public functions cite Entry, Rules and Turns.
use Rattle.std.specs.Prelude.{cond, ℕ, eqb, ℤ}
use Rattle.feed.specs.declared.Wholes.{Wholes}
use Rattle.channels.specs.declared.references.References.{References}
use Rattle.channels.specs.declared.references.Reference.{Reference}
use Rattle.channels.specs.Entry.{loaded}

-- what law n loads: nothing where it was the law before
abbrev pub new_law : ℕ → ℕ → Reference → ℤ → References → References
new_law n was name whole r = cond (eqb was n) r (loaded name whole r)

-- entry by the lateral law before and after
abbrev pub lateral_entry : Wholes → ℕ → ℕ → References → References
lateral_entry k was law r = cond (eqb law 1) (new_law 1 was Reference.Roll k.roll r) r

-- entry by the vertical law before and after
abbrev pub vertical_entry : Wholes → ℕ → ℕ → References → References
vertical_entry k was law r =
    cond (eqb law 1) (new_law 1 was Reference.Pitch k.pitch r)
    (cond (eqb law 2) (new_law 2 was Reference.VerticalSpeed k.vertical_speed r)
    (cond (eqb law 3) (new_law 3 was Reference.Ias k.airspeed r)
    (cond (eqb law 4) (new_law 4 was Reference.Held k.altitude r) r)))
