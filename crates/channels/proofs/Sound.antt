-- A rule of one side keeps its channel sound. Assumes nothing.
use mathlib.Core.Path.{◌≡◌, refl}
use mathlib.Core.Bool.{Bool, true, cond}
use native.Mathlib.Omega.{arith}
use borrow.Author.Tests.{le-leb}
use lib.Dec.{T}
use lib.IntN.{ℤ, pos, ◌+ℤ◌}
use lib.Signed.{le_z, le_z_yes}
use lib.Ieee.Bits.{is_true}
use Rattle.refusals.proofs.Choices.{either, and_left, and_right, and_both}
use Rattle.rotation.specs.Rotation.{mod_of}
use Rattle.rotation.proofs.Laws.{clamp_range, mod_below}
use Rattle.modes.specs.declared.Modes.{Modes}
use Rattle.modes.specs.declared.ModeSet.{ModeSet}
use Rattle.modes.specs.declared.Event.{Event}
use Rattle.modes.specs.Sets.{PITCH, implies, engaged, armed, cleared, once, coherent, put, disarm, drop, clear, engage, coherent_set, in_on}
use Rattle.modes.specs.Events.{line_of}
use Rattle.modes.proofs.Every.{at_modes}
use Rattle.modes.proofs.Laws.{change_coherent}
use Rattle.feed.specs.declared.Wholes.{Wholes}
use Rattle.feed.specs.Ranges.{within, clamped}
use Rattle.channels.specs.declared.Channel.{Channel}
use Rattle.channels.specs.declared.Inputs.{Inputs}
use Rattle.channels.specs.declared.knobs.Knob.{Knob}
use Rattle.channels.specs.declared.references.References.{References}
use Rattle.channels.specs.declared.references.Reference.{Reference}
use Rattle.channels.specs.References.{range_of, with_reference}
use Rattle.channels.specs.Sound.{in_range, references_sound, channel_sound}
use Rattle.channels.specs.Entry.{loaded, entry, enter}
use Rattle.channels.specs.Rules.{is_on, coming_on, second_step, third_step, after_event, after_refresh, taken}
use Rattle.channels.specs.Turns.{moved, reference_moved, pitched, wheel_turned, altitude_turned, heading_turned, after_turn}
use Rattle.channels.specs.Laws.{ChannelLaws}
use Rattle.channels.proofs.Read.{by_reference, written}

-- ---- what the test of a channel asks, by name, and the way back

pub record ReferencesIn (r : References) : Type 0 where
  pub each : (n : Reference) → in_range n r ≡ true

-- a coherent set, and references within their ranges
pub record ChannelIn (c : Channel) : Type 0 where
  pub set : coherent_set c.set ≡ true
  pub references : ReferencesIn c.references

references_parts : (r : References) → references_sound r ≡ true → ReferencesIn r
unfolding references_sound
references_parts r h = record {
  each = by_reference (λ n. in_range n r ≡ true) (search (and_left, and_right) depth 8) (search (and_left, and_right) depth 8)
      (search (and_left, and_right) depth 8) (search (and_left, and_right) depth 8) (search (and_left, and_right) depth 8)
      (search (and_left, and_right) depth 8) (search (and_left, and_right) depth 8);
}

references_whole : (r : References) → ReferencesIn r → references_sound r ≡ true
unfolding references_sound
references_whole r h = cc (h.each Reference.Heading, h.each Reference.Preselected, h.each Reference.Held, h.each Reference.VerticalSpeed, h.each Reference.Ias, h.each Reference.Roll, h.each Reference.Pitch)

pub channel_parts : (c : Channel) → channel_sound c ≡ true → ChannelIn c
unfolding channel_sound
channel_parts c h = search (and_left, and_right, references_parts)

pub channel_whole : (c : Channel) → ChannelIn c → channel_sound c ≡ true
unfolding channel_sound
channel_whole c h = search (and_both, references_whole)

-- ---- references

-- every range has its low end first
range_order : (n : Reference) → T (le_z (range_of n).low (range_of n).high)
range_order n = by_reference (λ n. T (le_z (range_of n).low (range_of n).high)) tt tt tt tt tt tt tt n

clamped_in : (n : Reference) (x : ℤ) → within (range_of n) (clamped (range_of n) x) ≡ true
clamped_in n x =
    let k = clamp_range (range_of n).low (range_of n).high x (le_z_yes (range_order n)) in
    and_both _ _ (is_true _ k.0.le) (is_true _ k.1.le)

-- a number within its range may take a reference's place
written_in : (n : Reference) (x : ℤ) (r : References) → within (range_of n) x ≡ true → ReferencesIn r → ReferencesIn (with_reference n x r)
written_in n x r k h = record { each = written (λ m z. within (range_of m) z ≡ true) n x r k h.each }

-- and so may a clamped one
clamped_number_in : (n : Reference) (x : ℤ) (r : References) → ReferencesIn r → ReferencesIn (with_reference n (clamped (range_of n) x) r)
clamped_number_in n x r h = written_in n _ r (clamped_in n x) h

entry_in : (k : Wholes) (before after : ModeSet) (r : References) → ReferencesIn r → ReferencesIn (entry k before after r)
unfolding entry loaded
entry_in k before after r h = search (either ReferencesIn, clamped_number_in) depth 12

-- ---- sets

-- a change that keeps every On set coherent keeps every set coherent
kept_on : (f : Modes → Modes) → ((m : Modes) → T (implies (coherent m) (coherent (f m)))) → (s : ModeSet) → coherent_set s ≡ true → coherent_set (in_on f s) ≡ true
kept_on f k ModeSet.Off h = refl
kept_on f k (ModeSet.On m) h = is_true _ (rw h at (k m))

-- PITCH engages: computed over all 240 sets
pitch_coherent : (m : Modes) → T (implies (coherent m) (coherent (engage PITCH m)))
unfolding coherent once cleared armed engaged put disarm drop clear engage
pitch_coherent m = at_modes (λ m. implies (coherent m) (coherent (engage PITCH m))) tt m

second_coherent : (i : Inputs) (c : Channel) → coherent_set c.set ≡ true → coherent_set (second_step i c) ≡ true
unfolding second_step
second_coherent i c h = either (λ (s : ModeSet). coherent_set s ≡ true) (is_on i c) (coming_on c.set) ModeSet.Off (on c.set h) refl
  where
    on : (s : ModeSet) → coherent_set s ≡ true → coherent_set (coming_on s) ≡ true
    on ModeSet.Off h = unfold coherent once cleared armed engaged in refl
    on (ModeSet.On m) h = h

-- ---- the rules

enter_in : (k : Wholes) (after : ModeSet) (c : Channel) → coherent_set after ≡ true → ChannelIn c → ChannelIn (enter k after c)
unfolding enter
enter_in k after c s h = record { set = s; references = entry_in k c.set after c.references h.references }

pub event_in : (e : Event) (i : Inputs) (c : Channel) → ChannelIn c → ChannelIn (after_event e i c)
unfolding after_event third_step
event_in e i c h = enter_in _ _ c (kept_on ((line_of e).change i.overspeed) (change_coherent e i.overspeed) (second_step i c) (second_coherent i c h.set)) h

pub refresh_in : (i : Inputs) (c : Channel) → ChannelIn c → ChannelIn (after_refresh i c)
unfolding after_refresh
refresh_in i c h = enter_in _ _ c (second_coherent i c h.set) h

pub taken_in : (sent c : Channel) → ChannelIn sent → ChannelIn (taken sent c)
taken_in sent c h = record { set = h.set; references = h.references }

pitched_in : (i : Inputs) (c : Channel) → ChannelIn c → ChannelIn (pitched i c)
unfolding pitched
pitched_in i c h = enter_in _ _ c (kept_on (engage PITCH) pitch_coherent c.set h.set) h

moved_in : (n : Reference) (r : ℤ) (c : Channel) → ChannelIn c → ChannelIn (reference_moved n r c)
unfolding moved reference_moved
moved_in n r c h = record { set = h.set; references = clamped_number_in n _ c.references h.references }

-- a heading modulo 360 is within its range
heading_in : (z : ℤ) → within (range_of Reference.Heading) (pos (mod_of z 360)) ≡ true
heading_in z =
    let k = mod_below z 360 (omega arith) in
    and_both _ _ (le-leb 0 (mod_of z 360) (omega arith)) (le-leb (mod_of z 360) 359 (omega arith))

pub turn_in : (k : Knob) (r : ℤ) (i : Inputs) (c : Channel) → ChannelIn c → ChannelIn (after_turn k r i c)
unfolding after_turn wheel_turned altitude_turned heading_turned
turn_in Knob.Wheel r i c h = search (either ChannelIn, moved_in, pitched_in) depth 8
turn_in Knob.Altitude r i c h = search (either ChannelIn, moved_in, pitched_in) depth 8
turn_in Knob.Speed r i c h = moved_in _ r c h
turn_in Knob.Heading r i c h = record { set = h.set; references = written_in Reference.Heading _ c.references (heading_in (c.references.heading +ℤ r)) h.references }

-- what keeps a channel sound by the parts keeps it so by the test
kept : (f : Channel → Channel) → ((c : Channel) → ChannelIn c → ChannelIn (f c)) → (c : Channel) → channel_sound c ≡ true → channel_sound (f c) ≡ true
kept f k c h = channel_whole (f c) (k c (channel_parts c h))

pub channel_laws : ChannelLaws
channel_laws = record {
  event = λ e i. kept (after_event e i) (event_in e i);
  refresh = λ i. kept (after_refresh i) (refresh_in i);
  taken = λ sent c h. channel_whole (taken sent c) (taken_in sent c (channel_parts sent h));
  turn = λ k r i. kept (after_turn k r i) (turn_in k r i);
}
