-- The picker names laws that the aircraft model can fly, after any list of calls on a sound bench. Assumes nothing.
use mathlib.Core.Path.{◌≡◌, refl, sym, subst}
use mathlib.Core.Bool.{true, not}
use Prim.Native.Nat.{ℕ, ◌≤◌}
use Rattle.std.specs.Prelude.{Result, Ok}
use Rattle.std.specs.Result.{result_map_both}
use Rattle.refusals.specs.declared.Refusal.{Refusal}
use Rattle.sides.specs.declared.Side.{Side}
use Rattle.sides.specs.Sides.{number, at}
use Rattle.sides.proofs.Laws.{side_laws}
use Rattle.modes.specs.declared.ModeSet.{ModeSet}
use Rattle.modes.specs.Sets.{is_off}
use Rattle.bench.specs.declared.Bench.{Bench}
use Rattle.bench.specs.Sound.{sound}
use Rattle.calls.specs.declared.reply.Display.{Display}
use Rattle.calls.specs.Displays.{shown}
use Rattle.claim.specs.Lists.{after}
use Rattle.claim.specs.Claim.{Keeps}
use Rattle.claim.proofs.Claimed.{sound_from}
use Rattle.claim.proofs.Shows.{display_shown, display_keeps}
use Rattle.guidance.specs.Picker.{laws_of, picked}
use Rattle.replay.specs.Flights.{Flies, GuidesFrom}

-- a display that keeps the claim's rules names laws to fly
kept_flies : (set : ModeSet) (d : Display) → Keeps (not (is_off set)) d → Flies set (Ok (laws_of d))
kept_flies (ModeSet.On m) d k = ((k.lateral refl).0, (k.lateral refl).1, (k.vertical refl).0, (k.vertical refl).1)
kept_flies ModeSet.Off d k = ((k.off refl).0, (k.off refl).1)

module _ (b : Bench) (h : sound b ≡ true) where
  pub flies : (s : Side) → Flies (at s b.sides).set (picked b (number s))
  unfolding picked
  flies s =
      let e = display_shown b h s in
      subst (λ (x : Result Display Refusal). Flies (at s b.sides).set (result_map_both laws_of (λ refusal. refusal) x)) (sym e)
      (kept_flies (at s b.sides).set (shown b s) (rw e at (display_keeps b h s)))

pub guides_from : GuidesFrom
unfolding picked
guides_from start h cs = record {
  flies = λ s. flies (after start cs) (sound_from start h cs) s;
  no_side = λ s l. rw (sound_from start h cs, side_laws.refused s l);
}
