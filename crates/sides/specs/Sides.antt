-- The two sides, and two of a kind. Document 01, 'What a bench value holds' and 'Who can be turned away'.
use Rattle.std.specs.Prelude.{cond, ℕ, eqb, Result, Ok, Err}
use Rattle.refusals.specs.declared.Refusal.{Refusal}
use Rattle.sides.specs.declared.Side.{Side}
use Rattle.sides.specs.declared.Pair.{Pair}

abbrev pub number : Side → ℕ
number Side.Left = 0
number Side.Right = 1

abbrev pub other : Side → Side
other Side.Left = Side.Right
other Side.Right = Side.Left

-- the side of a number, and refusal 2 where it names none
abbrev pub side_of : ℕ → Result Side Refusal
side_of n = cond (eqb n 0) (Ok Side.Left) (cond (eqb n 1) (Ok Side.Right) (Err Refusal.UnknownSide))

-- ---- one for each side: that of a side, another one in its place, and each by what is made of it

abbrev pub at : {T : Type 0} → Side → Pair T → T
at Side.Left p = p.left
at Side.Right p = p.right

abbrev pub with_at : {T : Type 0} → Side → T → Pair T → Pair T
with_at Side.Left x p = record p { left = x }
with_at Side.Right x p = record p { right = x }

abbrev pub each : {A B : Type 0} → (Side → A → B) → Pair A → Pair B
each f p = record { left = f Side.Left p.left; right = f Side.Right p.right }

-- what is asked of both
pub record Both {T : Type 0} (P : T → Type 0) (p : Pair T) : Type 0 where
  pub left : P p.left
  pub right : P p.right
