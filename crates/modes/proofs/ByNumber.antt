-- The numbers of modes, each way and back. Assumes nothing.
use Rattle.std.proofs.Common.{◌≡◌, ℕ, Bool, true, false, cond, eqb, Option, Some, None, eqb-true, refl}
use Rattle.modes.specs.declared.Lateral.{Lateral}
use Rattle.modes.specs.declared.ArmedLateral.{ArmedLateral}
use Rattle.modes.specs.declared.Vertical.{Vertical}
use Rattle.modes.specs.Numbers.{lateral_number, vertical_number, lateral_of, armed_of, vertical_of}
use Rattle.modes.specs.Every.{armed_number}
use Rattle.modes.specs.Laws.{Numbered}

-- the number k gives y, whose number it is, and another number what the rest gives
row : {A : Type 0} (number : A → ℕ) (n k : ℕ) (y x : A) (rest : Option A) → number y ≡ k → (rest ≡ Some x → number x ≡ n) → cond (eqb n k) (Some y) rest ≡ Some x → number x ≡ n
row number n k y x rest h below = go (eqb n k) refl
  where
    go : (t : Bool) → eqb n k ≡ t → cond t (Some y) rest ≡ Some x → number x ≡ n
    go true e g = let same = eqb-true n k e in let one : y ≡ x = cc in cc
    go false e g = below g

lateral_back : (l : Lateral) → lateral_of (lateral_number l) ≡ Some l
lateral_back Lateral.Roll = refl
lateral_back Lateral.Hdg = refl
lateral_back Lateral.Nav = refl
lateral_back Lateral.Lappr = refl
lateral_back Lateral.Lga = refl

armed_back : (a : ArmedLateral) → armed_of (armed_number a) ≡ Some a
armed_back ArmedLateral.Neither = refl
armed_back ArmedLateral.Nav = refl
armed_back ArmedLateral.Lappr = refl

vertical_back : (v : Vertical) → vertical_of (vertical_number v) ≡ Some v
vertical_back Vertical.Pitch = refl
vertical_back Vertical.Vs = refl
vertical_back Vertical.Flc = refl
vertical_back Vertical.Alt = refl
vertical_back Vertical.AltselCapture = refl
vertical_back Vertical.AltselTrack = refl
vertical_back Vertical.Vappr = refl
vertical_back Vertical.Vga = refl

pub lateral_numbers : Numbered Lateral lateral_number lateral_of
lateral_numbers = record { back = lateral_back; has = has }
  where
    has : (n : ℕ) (x : Lateral) → lateral_of n ≡ Some x → lateral_number x ≡ n
    has n x =
        row lateral_number n 1 Lateral.Roll x _ refl
        (row lateral_number n 2 Lateral.Hdg x _ refl
        (row lateral_number n 3 Lateral.Nav x _ refl
        (row lateral_number n 4 Lateral.Lappr x _ refl
        (row lateral_number n 5 Lateral.Lga x None refl
        (λ e. cc)))))

pub armed_numbers : Numbered ArmedLateral armed_number armed_of
armed_numbers = record { back = armed_back; has = has }
  where
    has : (n : ℕ) (x : ArmedLateral) → armed_of n ≡ Some x → armed_number x ≡ n
    has n x =
        row armed_number n 0 ArmedLateral.Neither x _ refl
        (row armed_number n 1 ArmedLateral.Nav x _ refl
        (row armed_number n 2 ArmedLateral.Lappr x None refl
        (λ e. cc)))

pub vertical_numbers : Numbered Vertical vertical_number vertical_of
vertical_numbers = record { back = vertical_back; has = has }
  where
    has : (n : ℕ) (x : Vertical) → vertical_of n ≡ Some x → vertical_number x ≡ n
    has n x =
        row vertical_number n 1 Vertical.Pitch x _ refl
        (row vertical_number n 2 Vertical.Vs x _ refl
        (row vertical_number n 3 Vertical.Flc x _ refl
        (row vertical_number n 4 Vertical.Alt x _ refl
        (row vertical_number n 5 Vertical.AltselCapture x _ refl
        (row vertical_number n 6 Vertical.AltselTrack x _ refl
        (row vertical_number n 7 Vertical.Vappr x _ refl
        (row vertical_number n 8 Vertical.Vga x None refl
        (λ e. cc))))))))
