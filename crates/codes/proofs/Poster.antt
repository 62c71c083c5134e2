-- The laws of the poster: one test, computed over the whole list at once, and one over all sets. Assumes nothing.
use mathlib.Core.Path.{◌≡◌, refl, sym, ap, ◌∙◌, subst}
use mathlib.Core.Bool.{Bool, ◌&&◌}
use Prim.Native.Nat.{ℕ, ◌<◌}
use lib.Dec.{T, eqb, eqb→eq}
use lib.ListN.{length}
use Rattle.modes.specs.declared.ModeSet.{ModeSet}
use Rattle.modes.specs.Sets.{NAV, LAPPR, ALTSEL, VAPPR, engaged, armed, cleared, once, coherent, coherent_set}
use Rattle.modes.specs.Numbers.{lateral_law, vertical_law, armed_sum}
use Rattle.modes.specs.Every.{every_set}
use Rattle.modes.specs.Row.{coded_sets, code_of}
use Rattle.modes.proofs.Finite.{both_left, both_right}
use Rattle.modes.proofs.Every.{at_sets, agree_sets}
use Rattle.std.specs.Prelude.{Some}
use Rattle.codes.specs.Codes.{set_of}
use Rattle.codes.specs.Poster.{set_number, set_numbers, number_at, lateral_in, armed_sum_in, vertical_in, has_part, armed_in, Shows, OnePlace, PlaceOfSet, PosterLaws}
use Rattle.codes.specs.Private.{set_shown}
use Rattle.codes.proofs.Joins.{set_in, by_laws}
use Rattle.codes.proofs.Places.{every_from, at_place}
use Rattle.codes.proofs.Laws.{code_below, set_back}

-- ---- what is computed

pub all_numbers : length set_numbers ≡ 108
unfolding set_numbers coded_sets coherent once cleared armed engaged
all_numbers = refl

-- a number is that of a coherent set with a code
abbrev listed : ℕ → ℕ → Bool
listed code n = coherent_set (set_in n) && (eqb (code_of (set_in n)) code && eqb (set_number (set_in n)) n)

all_listed : T (every_from listed 0 set_numbers)
unfolding set_numbers code_of coded_sets armed_sum coherent once cleared armed engaged
all_listed = tt

-- the number of a set shows it
agree_laws : (f g : ModeSet → ℕ) → T (every_set (λ s. eqb (f s) (g s))) → (s : ModeSet) → f s ≡ g s
agree_laws f g t s = eqb→eq (f s) (g s) (at_sets (λ s. eqb (f s) (g s)) t s)

shows : (s : ModeSet) → Shows (set_number s) s
unfolding armed_sum armed engaged
shows s = record {
  lateral = agree_laws (λ s. lateral_in (set_number s)) lateral_law tt s;
  armed_sum_shown = agree_laws (λ s. armed_sum_in (set_number s)) armed_sum tt s;
  vertical = agree_laws (λ s. vertical_in (set_number s)) vertical_law tt s;
  nav = agree_sets (λ s. has_part 1 (set_number s)) (armed_in NAV) tt s;
  lappr = agree_sets (λ s. has_part 2 (set_number s)) (armed_in LAPPR) tt s;
  altsel = agree_sets (λ s. has_part 4 (set_number s)) (armed_in ALTSEL) tt s;
  vappr = agree_sets (λ s. has_part 8 (set_number s)) (armed_in VAPPR) tt s;
}

-- ---- at a code, whose number shows the set of that code

-- what the test says of a number
told : (code n : ℕ) → T (listed code n) → T (coherent_set (set_in n)) × (code_of (set_in n) ≡ code) × (set_number (set_in n) ≡ n)
told code n t =
    let s = set_in n in
    let coded = eqb (code_of s) code in
    let numbered = eqb (set_number s) n in
    let rest = both_right (coherent_set s) (coded && numbered) t in
    (both_left (coherent_set s) (coded && numbered) t, eqb→eq (code_of s) code (both_left coded numbered rest), eqb→eq (set_number s) n (both_right coded numbered rest))

told_at : (code : ℕ) → code < 108 → T (coherent_set (set_in (number_at code))) × (code_of (set_in (number_at code)) ≡ code) × (set_number (set_in (number_at code)) ≡ number_at code)
told_at code h = told code (number_at code) (at_place listed 0 set_numbers all_listed code (subst (λ (k : ℕ). code < k) (sym all_numbers) h))

coded_at : (code : ℕ) → code < 108 → code_of (set_in (number_at code)) ≡ code
coded_at code h = (told_at code h).1

pub shown_at : (code : ℕ) → code < 108 → Some (set_in (number_at code)) ≡ set_of code
shown_at code h = sym (set_back (set_in (number_at code)) (told_at code h).0) ∙ ap set_of (coded_at code h)

-- ---- the laws

shows_at : (code : ℕ) → code < 108 → Shows (number_at code) (set_in (number_at code))
shows_at code h = subst (λ (n : ℕ). Shows n (set_in (number_at code))) (told_at code h).2 (shows (set_in (number_at code)))

-- a number that shows a set is of no other
only_set : (n : ℕ) (s : ModeSet) → Shows n s → set_in n ≡ s
only_set n s e = (λ i. set_shown (e.lateral i) (e.vertical i) (e.armed_sum_shown i)) ∙ by_laws s

no_other : (code : ℕ) → code < 108 → PlaceOfSet code
no_other code h = record {
  set = set_in (number_at code);
  coherent = (told_at code h).0;
  coded = coded_at code h;
  shown = shows_at code h;
  alone = λ s e. sym (only_set (number_at code) s e);
}

only : (s : ModeSet) (code : ℕ) → code < 108 → Shows (number_at code) s → code ≡ code_of s
only s code h e = sym (coded_at code h) ∙ ap code_of (only_set (number_at code) s e)

each : (s : ModeSet) → T (coherent_set s) → OnePlace s
each s t =
    let code = code_of s in
    let h = code_below s t in
    let same : set_in (number_at code) ≡ s = cc (shown_at code h, set_back s t) in
    record { inside = h; shown = subst (λ (s : ModeSet). Shows (number_at code) s) same (shows_at code h); only = only s }

no_two : (code other : ℕ) → code < 108 → other < 108 → number_at code ≡ number_at other → code ≡ other
no_two code other h k e = sym (coded_at code h) ∙ ap (λ (n : ℕ). code_of (set_in n)) e ∙ coded_at other k

pub poster_laws : PosterLaws
unfolding set_numbers coded_sets armed_sum coherent once cleared armed engaged
poster_laws = record { count = all_numbers; first = refl; second = refl; last = refl; each = each; no_other = no_other; no_two = no_two }
