-- The laws of what is put, by cases. Assumes nothing.
use mathlib.Core.Path.{◌≡◌, refl}
use lib.IntN.{ℤ}
use native.Mathlib.Omega.{arith}
use Rattle.std.proofs.Common.{◌≢◌}
use Rattle.feed.specs.declared.Kind.{Kind}
use Rattle.feed.specs.declared.Reading.{Reading}
use Rattle.feed.specs.declared.Readings.{Readings}
use Rattle.feed.specs.declared.Wholes.{Wholes}
use Rattle.feed.specs.Readings.{kind_of, float_of, float_at, stored, whole_at, with_whole}
use Rattle.feed.specs.Wholes.{PutLaws}

-- what holds of each kind holds of a kind
pub by_kind : (P : Kind → Type 0) → P Kind.Altitude → P Kind.Airspeed → P Kind.VerticalSpeed → P Kind.Roll → P Kind.Pitch → P Kind.Heading → (k : Kind) → P k
by_kind P a b c d e f k = elim k as P [ Kind.Altitude ↦ a | Kind.Airspeed ↦ b | Kind.VerticalSpeed ↦ c | Kind.Roll ↦ d | Kind.Pitch ↦ e | Kind.Heading ↦ f ]

pub whole_read : (k : Kind) (x : ℤ) (w : Wholes) → whole_at k (with_whole k x w) ≡ x
whole_read k x w = by_kind (λ k. whole_at k (with_whole k x w) ≡ x) refl refl refl refl refl refl k

pub wholes_stay : (k l : Kind) → k ≢ l → (x : ℤ) (w : Wholes) → whole_at l (with_whole k x w) ≡ whole_at l w
wholes_stay k l h x w = grind arith

pub float_read : (r : Reading) (w : Readings) → float_at (kind_of r) (stored r w) ≡ float_of r
float_read (Reading.Altitude x) w = refl
float_read (Reading.Airspeed x) w = refl
float_read (Reading.VerticalSpeed x) w = refl
float_read (Reading.Roll x) w = refl
float_read (Reading.Pitch x) w = refl
float_read (Reading.Heading x) w = refl

pub floats_stay : (r : Reading) (l : Kind) → kind_of r ≢ l → (w : Readings) → float_at l (stored r w) ≡ float_at l w
floats_stay r l h w = grind arith

pub put_laws : PutLaws
put_laws = record { whole_read = whole_read; wholes_stay = wholes_stay; float_read = float_read; floats_stay = floats_stay }
