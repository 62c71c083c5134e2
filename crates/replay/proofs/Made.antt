-- One call more is made: what it leaves and answers, behind what the calls before it left and answered. Assumes nothing.
use mathlib.Core.Path.{◌≡◌, refl, sym, ap, ◌∙◌}
use mathlib.Core.List.{List, [], ◌∷◌, ◌++◌}
use Prim.Native.Nat.{ℕ, suc, ◌+◌, ◌<◌}
use native.Mathlib.Omega.{arith}
use Rattle.std.proofs.Common.{add-one}
use lib.ListN.{length, take, drop, set, get_or}
use lib.Seq.{take-suc, take-length, drop-cons, set-append_seam, length-take-le}
use Rattle.std.specs.Prelude.{Result}
use Rattle.refusals.specs.declared.Refusal.{Refusal}
use Rattle.bench.specs.declared.Bench.{Bench}
use Rattle.bench.specs.declared.call.Call.{Call}
use Rattle.calls.specs.declared.reply.Reply.{Reply}
use Rattle.rules.specs.Calls.{next}
use Rattle.calls.specs.Answers.{reply}
use Rattle.claim.specs.Lists.{after, replies}
use Rattle.replay.specs.Made.{MadeWhole}

after_snoc : (cs : List Call) (c : Call) (b : Bench) → after b (cs ++ (c ∷ [])) ≡ next (after b cs) c
after_snoc [] c b = refl
after_snoc (d ∷ cs) c b = after_snoc cs c (next b d)

replies_snoc : (cs : List Call) (c : Call) (b : Bench) (rest : List (Result Reply Refusal)) → replies b (cs ++ (c ∷ [])) ++ rest ≡ replies b cs ++ (reply (after b cs) c ∷ rest)
replies_snoc [] c b rest = refl
replies_snoc (d ∷ cs) c b rest = ap (λ (xs : List (Result Reply Refusal)). reply b d ∷ xs) (replies_snoc cs c (next b d) rest)

length_replies : (cs : List Call) (b : Bench) → length (replies b cs) ≡ length cs
length_replies [] b = refl
length_replies (c ∷ cs) b = ap suc (length_replies cs (next b c))

-- call i of the slice is made on the bench that those before it left, and its answer put into place i
module _ (b : Bench) (calls : List Call) (answers : List (Result Reply Refusal)) (i : ℕ) (d : Call) (has_call : i < length calls) (has_place : i < length answers) where
  abbrev call : Call
  call = get_or calls i d

  abbrev so_far : List Call
  so_far = take i calls

  more : take (i + 1) calls ≡ so_far ++ (call ∷ [])
  more = rw add-one (take-suc calls i d has_call)

  pub bench_more : next (after b so_far) call ≡ after b (take (i + 1) calls)
  bench_more = sym (ap (after b) more ∙ after_snoc so_far call b)

  pub answers_more : (x : Result Reply Refusal) → x ≡ reply (after b so_far) call
      → set (replies b so_far ++ drop i answers) i x ≡ replies b (take (i + 1) calls) ++ drop (i + 1) answers
  answers_more x e =
      let rest = drop (i + 1) answers in
      let split : drop i answers ≡ get_or answers i x ∷ rest = rw add-one (drop-cons answers i x has_place) in
      let long : length (replies b so_far) ≡ i = length_replies so_far b ∙ length-take-le i calls (omega arith) in
      ap (λ (xs : List (Result Reply Refusal)). set (replies b so_far ++ xs) i x) split
      ∙ ap (λ (n : ℕ). set (replies b so_far ++ (get_or answers i x ∷ rest)) n x) (sym long)
      ∙ set-append_seam (replies b so_far) (get_or answers i x) rest x
      ∙ ap (λ (y : Result Reply Refusal). replies b so_far ++ (y ∷ rest)) e
      ∙ sym (replies_snoc so_far call b rest)
      ∙ ap (λ (cs : List Call). replies b cs ++ rest) (sym more)

pub made_whole : MadeWhole
made_whole = record { whole = λ calls answers e. ap (λ (n : ℕ). take n calls) e ∙ take-length calls }
