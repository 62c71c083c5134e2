-- Readings and whole values in a call: an accepted reading stores both, and what the other calls are made of leaves both. Assumes nothing.
use mathlib.Core.Path.{◌≡◌, refl, sym, ap}
use mathlib.Core.Bool.{Bool, true, false, cond, true≢false, false≢true}
use Prim.Native.Nat.{ℕ}
use lib.Dec.{eqb}
use lib.IntN.{ℤ}
use Rattle.std.specs.Prelude.{Result, Ok, Err, is_ok}
use Rattle.std.specs.Result.{result_and}
use Rattle.refusals.specs.declared.Refusal.{Refusal}
use Rattle.refusals.specs.Refusals.{result_map}
use Rattle.refusals.proofs.Choices.{either}
use Rattle.sides.specs.Sides.{side_of}
use Rattle.modes.specs.declared.Event.{Event}
use Rattle.modes.specs.Events.{event_at}
use Rattle.feed.specs.declared.Reading.{Reading}
use Rattle.feed.proofs.Stored.{accepted_whole}
use Rattle.feed.specs.Readings.{kind_of, stored, stored_whole, with_whole, whole_number, reading_verdict}
use Rattle.channels.specs.declared.Channel.{Channel}
use Rattle.channels.specs.declared.Inputs.{Inputs}
use Rattle.channels.specs.declared.knobs.Knob.{Knob}
use Rattle.channels.specs.Rules.{after_event}
use Rattle.channels.specs.Turns.{knob_of}
use Rattle.bench.specs.declared.Bench.{Bench}
use Rattle.bench.specs.declared.call.Call.{Call}
use Rattle.bench.specs.Counts.{count_of}
use Rattle.bench.specs.Acting.{on_acting}
use Rattle.bench.specs.Independent.{begun, ended}
use Rattle.bench.specs.Sound.{sound}
use Rattle.bench.proofs.Laws.{acting_laws}
use Rattle.rules.specs.Steps.{first_step, three_steps}
use Rattle.rules.specs.Turns.{counted, turned}
use Rattle.rules.proofs.ByEvent.{by_event}
use Rattle.rules.specs.Calls.{Deed, act, turn, keep, send, refresh, show, word_event, asked, granted, verdict, done, left_by, next}
use Rattle.rules.specs.Laws.{SameFeed}
use Rattle.soundness.specs.Feed.{is_reading, FeedLaws}
use Rattle.soundness.proofs.Kept.{IfOk, named, next_sound}

then : (b x y : Bench) → SameFeed b x → SameFeed x y → SameFeed b y
then b x y h k = search

-- ---- what leaves both

acting : (rule : Inputs → Channel → Channel) (flag : Bool) (b : Bench) → SameFeed b (on_acting rule flag b)
acting rule flag b = record { readings = refl; wholes = refl }

first_feed : (e : Event) (b : Bench) → SameFeed b (first_step e b)
unfolding first_step
first_feed e b = record { readings = refl; wholes = refl }

three_feed : (e : Event) (b : Bench) → SameFeed b (three_steps e b)
unfolding three_steps
three_feed e b = then b _ _ (first_feed e b) (acting (after_event e) b.shared.overspeed (first_step e b))

begun_feed : (b : Bench) → SameFeed b (begun b)
unfolding begun
begun_feed b = search (either (SameFeed b))

ended_feed : (b : Bench) → SameFeed b (ended b)
unfolding ended
ended_feed b = record { readings = refl; wholes = refl }

turned_feed : (k : Knob) (n : ℕ) (b : Bench) → SameFeed b (turned k n b)
unfolding turned
turned_feed k n b = search (either (SameFeed b))

-- ---- the calls

-- what is not the keeping of a reading
abbrev Other : Deed → Type 0
Other (keep r z) = ⊥
Other (act n) = Unit {0}
Other (turn k n) = Unit {0}
Other (send s) = Unit {0}
Other (refresh s) = Unit {0}
Other (show s) = Unit {0}

done_feed : (d : Deed) (b : Bench) → Other d → SameFeed b (done d b)
done_feed (act n) b o = by_event (SameFeed b) (event_at n) b (λ e. search) (λ e. begun_feed b) (three_feed (event_at n) b)
done_feed (turn k n) b o = turned_feed k n b
done_feed (keep r z) b o = absurd o
done_feed (send s) b o = search
done_feed (refresh s) b o = search
done_feed (show s) b o = search

asked_other : (c : Call) → is_reading c ≡ false → IfOk Other (asked c)
asked_other (Call.Event word) e = named Other act (λ n. tt) (word_event word)
asked_other (Call.Turn knob n) e = named Other (λ k. turn k n) (λ k. tt) (knob_of knob)
asked_other (Call.Reading r) e = absurd (true≢false e)
asked_other (Call.Send s) e = named Other send (λ s. tt) (side_of s)
asked_other (Call.Refresh s) e = named Other refresh (λ s. tt) (side_of s)
asked_other (Call.Display s) e = named Other show (λ s. tt) (side_of s)

left_feed : (b : Bench) (r : Result Deed Refusal) → IfOk Other r → SameFeed b (left_by b r)
left_feed b (Ok d) o = then b _ _ (done_feed d b o) (ended_feed (done d b))
left_feed b (Err refusal) o = search

others : (b : Bench) (c : Call) → is_reading c ≡ false → SameFeed b (next b c)
unfolding next granted
others b c e = left_feed b (granted b c) (either (IfOk Other) (sound b) (asked c) (Err Refusal.UnsoundBench) (asked_other c e) tt)

-- a reading, by what is granted
module _ (b : Bench) (r : Reading) where
  abbrev Stored : Bench → Type 0
  Stored x = (x.readings ≡ stored r b.readings) × (x.wholes ≡ stored_whole r b.wholes)

  accepted : is_ok (verdict b (Call.Reading r)) ≡ true → Stored (next b (Call.Reading r))
  unfolding next granted ended
  accepted = go (sound b) (reading_verdict r) refl
    where
      go : (t : Bool) (v : Result ℤ Refusal) → reading_verdict r ≡ v
          → is_ok {T = Unit {0}} {E = Refusal} (result_and (cond t (result_map (keep r) v) (Err Refusal.UnsoundBench)) (Ok tt)) ≡ true
          → Stored (left_by b (cond t (result_map (keep r) v) (Err Refusal.UnsoundBench)))
      go true (Ok z) e h = (refl, ap (λ (z : ℤ). with_whole (kind_of r) z b.wholes) (sym (accepted_whole r z e)))
      go true (Err refusal) e h = absurd (false≢true h)
      go false v e h = absurd (false≢true h)

refused : (b : Bench) (r : Reading) → is_ok (verdict b (Call.Reading r)) ≡ false → SameFeed b (next b (Call.Reading r))
unfolding next
refused b r = go (granted b (Call.Reading r))
  where
    go : (v : Result Deed Refusal) → is_ok {T = Unit {0}} {E = Refusal} (result_and v (Ok tt)) ≡ false → SameFeed b (left_by b v)
    go (Ok d) h = absurd (true≢false h)
    go (Err refusal) h = search

pub feed_laws : FeedLaws
feed_laws = record {
  accepted = accepted;
  refused = refused;
  others = others;
  first_step = first_feed;
  count = λ k n b. record { readings = refl; wholes = refl };
  acting = acting;
  afresh = λ b c h. acting_laws.sound_afresh (next b c) (next_sound b c h);
}
