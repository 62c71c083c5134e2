-- Entry from the whole values that are kept is entry from the rounded readings: where soundness has compared them they are the same. And what ROLL loads, worked out. Assumes
-- nothing.
use mathlib.Core.Path.{◌≡◌, refl, ap, ◌∙◌}
use mathlib.Core.Bool.{Bool, true, false, cond}
use Prim.Native.Nat.{ℕ}
use lib.Ieee.{of_bits}
use Rattle.std.specs.Prelude.{[], ◌∷◌}
use Rattle.rounding.specs.Whole.{whole_of}
use Rattle.modes.specs.declared.ModeSet.{ModeSet}
use Rattle.modes.specs.Sets.{ROLL, PITCH, VS, FLC, ALT}
use Rattle.feed.specs.declared.Reading.{Reading}
use Rattle.feed.specs.declared.Readings.{Readings}
use Rattle.feed.specs.declared.Wholes.{Wholes}
use Rattle.feed.specs.Ranges.{clamped}
use Rattle.feed.specs.Readings.{whole_reading, whole_number, stored_whole}
use Rattle.feed.specs.Sound.{readings_sound}
use Rattle.feed.specs.Wholes.{reading_of}
use Rattle.feed.proofs.WholeLaws.{readings_afresh}
use Rattle.channels.specs.declared.Channel.{Channel}
use Rattle.channels.specs.declared.references.References.{References}
use Rattle.channels.specs.declared.references.Reference.{Reference}
use Rattle.channels.specs.References.{range_of}
use Rattle.channels.specs.Entry.{newly, loaded, entry, enter}
use Rattle.channels.specs.Laws.{rounded_entry, EntryLaws, loaded_roll, EntryExamples}

rounded : (w : Readings) (k : Wholes) → readings_sound w k ≡ true → (before after : ModeSet) (r : References) → entry k before after r ≡ rounded_entry w before after r
unfolding rounded_entry
rounded w k h before after r = ap (λ (k : Wholes). entry k before after r) (readings_afresh w k h)

enters : (w : Readings) (k : Wholes) → readings_sound w k ≡ true → (after : ModeSet) (c : Channel) → enter k after c ≡ record c { set = after; references = rounded_entry w c.set after c.references }
unfolding enter
enters w k h after c = ap (λ (r : References). record c { set = after; references = r }) (rounded w k h c.set after c.references)

pub entry_laws : EntryLaws
entry_laws = record { rounded = rounded; enters = enters }

-- what may be loaded in another place leaves the roll
beside : (t : Bool) (x r : References) → x.roll ≡ r.roll → (cond t x r).roll ≡ r.roll
beside true x r h = h
beside false x r h = refl

-- so that a newly engaged ROLL alone decides it
roll_loaded : (k : Wholes) (before after : ModeSet) (r : References) → newly ROLL before after ≡ true → (entry k before after r).roll ≡ clamped (range_of Reference.Roll) k.roll
unfolding entry loaded
roll_loaded k before after r h =
    beside (newly ALT before after) _ _ refl ∙ beside (newly FLC before after) _ _ refl ∙ beside (newly VS before after) _ _ refl ∙ beside (newly PITCH before after) _ _ refl
    ∙ ap (λ (t : Bool). (cond t (loaded Reference.Roll k.roll r) r).roll) h

entered_roll : (k : Wholes) (after : ModeSet) (c : Channel) → newly ROLL c.set after ≡ true → (n : ℕ)
    → loaded_roll k after c (reading_of Reading.Roll n) ≡ clamped (range_of Reference.Roll) (whole_number (reading_of Reading.Roll n))
unfolding enter
entered_roll k after c h n = roll_loaded (stored_whole (reading_of Reading.Roll n) k) c.set after c.references h

pub entry_examples : EntryExamples
unfolding whole_number whole_reading whole_of of_bits
entry_examples = record {
  loaded = λ k after c h. let at = entered_roll k after c h in
      λ i. at 0x4066_6800_0000_0000 i ∷ at 0x4066_7800_0000_0000 i ∷ at 0x4066_8000_0000_0000 i ∷ [];
}
