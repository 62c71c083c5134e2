-- What a command's effect means for the watch and for the bus area. The console's page, 'Words for people' and 'the bus area'.
use Rattle.std.specs.Prelude.{ℕ, Bool, false, List, Option, Some, None}
use Rattle.scripts.specs.Commands.{Asked}
use Rattle.bench.specs.declared.Bench.{Bench}
use Rattle.acts.specs.declared.Effect.{Effect}
use Rattle.acts.specs.Acts.{effect_of}
use Rattle.scripts.specs.declared.AreaAct.{AreaAct}
use Rattle.areas.specs.Areas.{area_by}

-- ---- the watch: while it is on, a drawing follows the answer of a command that can change the bench

abbrev pub watch_after : Effect → Bool → Bool
watch_after Effect.Shows watch = watch
watch_after Effect.Acts watch = watch
watch_after (Effect.Watches on) watch = on
watch_after (Effect.Stores act) watch = watch

abbrev pub is_drawn : Effect → Bool → Bool
is_drawn Effect.Shows watch = false
is_drawn Effect.Acts watch = watch
is_drawn (Effect.Watches on) watch = false
is_drawn (Effect.Stores act) watch = false

-- ---- the bus area

-- of the effects of commands one is on the area
abbrev pub area_act : Effect → Option AreaAct
area_act Effect.Shows = None
area_act Effect.Acts = None
area_act (Effect.Watches on) = None
area_act (Effect.Stores act) = Some act

-- the area after a line that asks for this, on the bench before it
abbrev pub area_after : List ℕ → Asked → Bench → List ℕ → List ℕ
area_after line asked b area = area_by (area_act (effect_of asked)) line b area
