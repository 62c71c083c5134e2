-- From one call to a list of calls, each by a short induction: soundness, refusals, PF, what an inbox holds, what a passive side holds and independent operation. Assumes nothing.
use mathlib.Core.Path.{◌≡◌, refl, sym, ap, ◌∙◌}
use mathlib.Core.Bool.{true, false}
use mathlib.Core.List.{List, [], ◌∷◌, ◌++◌, map}
use Prim.Native.Nat.{ℕ, ◌≤◌}
use lib.Dec.{eqb}
use Rattle.refusals.specs.declared.Told.{Told}
use Rattle.refusals.specs.Refusals.{refusal_number}
use Rattle.sides.specs.declared.Side.{Side}
use Rattle.sides.specs.Sides.{number, other, at}
use Rattle.bench.specs.declared.Bench.{Bench}
use Rattle.bench.specs.declared.call.Call.{Call}
use Rattle.bench.specs.Acting.{acts}
use Rattle.bench.specs.Sound.{sound}
use Rattle.calls.specs.declared.reply.Reply.{Reply}
use Rattle.rules.specs.Calls.{asked, next}
use Rattle.soundness.proofs.Kept.{next_sound}
use Rattle.claim.specs.Lists.{after, all_told, transfers, refreshes, sends, asks_independent, pilot_from, None, OffThroughout}
use Rattle.claim.specs.Claim.{Served}
use Rattle.claim.proofs.OneCall.{Same, same, same_trans, own_refusal, own_not_1, step}

pub after_append : (pre post : List Call) (b : Bench) → after b (pre ++ post) ≡ after (after b pre) post
after_append [] post b = refl
after_append (c ∷ pre) post b = after_append pre post (next b c)

pub after_sound : (cs : List Call) (b : Bench) → sound b ≡ true → sound (after b cs) ≡ true
after_sound [] b h = h
after_sound (c ∷ cs) b h = after_sound cs (next b c) (next_sound b c h)

pub after_refusals : (cs : List Call) (b : Bench) → sound b ≡ true → map (λ (t : Told Reply). t.refusal) (all_told b cs) ≡ map (λ (c : Call). refusal_number (asked c)) cs
after_refusals [] b h = refl
after_refusals (c ∷ cs) b h = cc (own_refusal b c h, after_refusals cs (next b c) (next_sound b c h))

pub after_served : (cs : List Call) (b : Bench) → sound b ≡ true → Served (all_told b cs)
after_served [] b h = tt
after_served (c ∷ cs) b h = (λ e. own_not_1 c (sym (own_refusal b c h) ∙ e), after_served cs (next b c) (next_sound b c h))

-- PF is moved by the transfers alone
pub after_pilot : (cs : List Call) (b : Bench) → sound b ≡ true → (after b cs).shared.pf ≡ pilot_from b.shared.pf cs
after_pilot [] b h = refl
after_pilot (c ∷ cs) b h = after_pilot cs (next b c) (next_sound b c h) ∙ ap (λ (p : ℕ). pilot_from p cs) (step c b h).pf

-- an inbox is kept while the other side sends nothing
pub inbox_kept : (s : Side) (cs : List Call) (b : Bench) → sound b ≡ true → None (sends (other s)) cs → at s (after b cs).inboxes ≡ at s b.inboxes
inbox_kept s [] b h n = refl
inbox_kept s (c ∷ cs) b h n = inbox_kept s cs (next b c) (next_sound b c h) n.1 ∙ (step c b h).inboxes s n.0

-- with independent operation off, a side that has not PF does not act
pub idle : (s : Side) (b : Bench) → eqb (number s) b.shared.pf ≡ false → b.shared.independent ≡ false → acts b s ≡ false
unfolding acts
idle s b p o = rw (p, o)

-- it is off in the second part of a list from where the first part leaves the bench
pub off_rest : (pre post : List Call) (b : Bench) → OffThroughout b (pre ++ post) → OffThroughout (after b pre) post
off_rest [] post b o = o
off_rest (c ∷ pre) post b o = off_rest pre post (next b c) o.1

-- a side that has not PF keeps set and references while independent operation is off, it has no refresh and nobody transfers
pub passive_kept : (s : Side) (cs : List Call) (b : Bench) → sound b ≡ true → OffThroughout b cs → eqb (number s) b.shared.pf ≡ false
    → None (refreshes s) cs → None transfers cs → Same (at s (after b cs).sides) (at s b.sides)
passive_kept s [] b h o p r t = same refl
passive_kept s (c ∷ cs) b h o p r t =
    let one = step c b h in
    let still : eqb (number s) (next b c).shared.pf ≡ false = rw (one.pf, t.0) p in
    same_trans (passive_kept s cs (next b c) (next_sound b c h) o.1 still r.1 t.1) (one.passive s (idle s b p o.0) r.0 t.0)

-- a list without the switch of independent operation never has it on
pub never_on : (cs : List Call) (b : Bench) → sound b ≡ true → b.shared.independent ≡ false → None asks_independent cs → OffThroughout b cs
never_on [] b h o n = o
never_on (c ∷ cs) b h o n = (o, never_on cs (next b c) (next_sound b c h) ((step c b h).off n.0 o) n.1)
