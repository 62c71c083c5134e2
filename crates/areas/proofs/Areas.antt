-- What the code does to an area is what a line does to it: bytes inside an area. Assumes nothing.
use mathlib.Core.Path.{◌≡◌, refl, ap}
use mathlib.Core.Bool.{Bool, true, false, cond}
use mathlib.Core.List.{List}
use Prim.Native.Nat.{ℕ, ◌+◌, ◌-◌, ◌≤◌, ◌<◌}
use native.Mathlib.Omega.{arith}
use borrow.Author.Tests.{leb-true, leb-false, le-leb, lt-leb}
use borrow.Rule.Slice.PartMut.{put_mid}
use lib.Dec.{leb}
use lib.ListN.{length, length-drop}
use lib.Seq.{take_all}
use Rattle.numerals.specs.Pairs.{laid_over}
use Rattle.frames.specs.Frames.{laid}
use Rattle.frames.proofs.Areas.{from, from_is, put_frame}
use Rattle.frames.proofs.Writing.{length_laid}
use Rattle.areas.specs.Areas.{inside, poked}

module _ (start : ℕ) (bytes area : List ℕ) where
  -- told by how many bytes there are
  pub too_many : (count : ℕ) → count ≡ length bytes → length area < count → inside start bytes area ≡ false
  too_many count e h = lt-leb (start + length bytes) (length area) (omega arith)

  pub last_start : (count : ℕ) → count ≡ length bytes → count ≤ length area → leb start (length area - count) ≡ inside start bytes area
  last_start count e h = go (inside start bytes area) refl
    where
      go : (t : Bool) → inside start bytes area ≡ t → leb start (length area - count) ≡ t
      go true f = let l = leb-true (start + length bytes) (length area) f in le-leb start (length area - count) (omega arith)
      go false f = let l = leb-false (start + length bytes) (length area) f in lt-leb start (length area - count) (omega arith)

  within : inside start bytes area ≡ true → start + length bytes ≤ length area
  within e = leb-true (start + length bytes) (length area) e

  -- bytes over the part from the start on, put back, are the poked ones
  pub put_poked : inside start bytes area ≡ true → (part : List ℕ) → part ≡ laid_over bytes (from start area) →
      put_mid start (length area - start) area part ≡ poked start bytes area
  unfolding poked
  put_poked e part f =
      let l = within e in
      let size : length bytes ≤ length (from start area) = omega (arith, ap (λ (x : List ℕ). length x) (from_is start area), length-drop start area) in
      rw (f, take_all (length (from start area)) bytes size, put_frame bytes start area (omega arith), e)

  pub poked_length : length (poked start bytes area) ≡ length area
  unfolding poked
  poked_length = go (inside start bytes area) refl
    where
      go : (t : Bool) → inside start bytes area ≡ t → length (cond t (laid start bytes area) area) ≡ length area
      go false e = refl
      go true e = length_laid bytes start area (within e)
