-- The coherent sets in a row, by which each has a code. Document 02, 2026-02: a code is a set's place in it.
use Rattle.std.specs.Prelude.{Bool, true, false, cond, List, [], ◌∷◌, ℕ, suc}
use Rattle.std.specs.List.{filter, flat_map}
use Rattle.modes.specs.declared.ModeSet.{ModeSet}
use Rattle.modes.specs.Sets.{coherent_set}
use Rattle.modes.specs.Every.{both_flags, every_lateral, every_armed, every_vertical, of_parts, same_modes}

-- what each member of a list gives, in a row
abbrev pub for_each : {A B : Type 0} → List A → (A → List B) → List B
for_each xs f = flat_map f xs

-- all On sets, coherent or not. The lateral law weighs most, after it the armed lateral mode (none, NAV, LAPPR), then the vertical law, and last whether VAPPR is armed,
-- which comes second
abbrev pub on_sets : List ModeSet
on_sets =
    for_each every_lateral (λ l. for_each every_armed (λ a. for_each every_vertical (λ v. for_each both_flags (λ f. ModeSet.On (of_parts l a v f) ∷ []))))

-- Off, and the coherent On sets in that order
unfoldable pub coded_sets : List ModeSet
coded_sets = filter coherent_set (ModeSet.Off ∷ on_sets)

abbrev pub same_set : ModeSet → ModeSet → Bool
same_set ModeSet.Off ModeSet.Off = true
same_set ModeSet.Off (ModeSet.On n) = false
same_set (ModeSet.On m) ModeSet.Off = false
same_set (ModeSet.On m) (ModeSet.On n) = same_modes m n

-- the place of a set in a list, from 0; the list's length where it is not in it
abbrev pub place_in : List ModeSet → ModeSet → ℕ
place_in [] s = 0
place_in (x ∷ xs) s = cond (same_set s x) 0 (suc (place_in xs s))

-- the code of a set; 108, the number of coded sets, where it is not coherent
unfoldable pub code_of : ModeSet → ℕ
code_of s = place_in coded_sets s
