-- The whole value of a float: the integer nearest to its exact value; of two that are equally near, the even one. Document 01, 'Readings'.
-- `specs/Laws.antt` states that these definitions say so.
use Rattle.std.specs.Prelude.{ℕ, ◌*◌, Bool, true, false, ◌&&◌, cond, eqb, ℤ, pos, negsuc, neg_ℤ, Float, Result, Ok, Err}
use Rattle.std.specs.Int.Signed.{le_z}
use Rattle.std.specs.Float.{nan, inf, fin}
use Rattle.std.specs.Float.Ieee.{up, down}
use Rattle.std.specs.Float.Ieee.Nearest.{closest}
use Rattle.rounding.specs.declared.NoWhole.{NoWhole}
use Rattle.rounding.specs.declared.NoWhole.TheVariants.{NotFinite, Beyond}

-- The natural number nearest to m * 2 ^ e, of two such the even one (document 01, 'Readings'). 2 ^ e is the fraction up e / down e.
abbrev pub magnitude_of : ℕ → ℤ → ℕ
magnitude_of m e = closest (m * up e) (down e)

-- The integer of magnitude q, negative where the flag is true. Nearest and even mean the same on both sides of 0, so 'Readings' is met by rounding the magnitude.
abbrev pub signed_of : Bool → ℕ → ℤ
signed_of true q = neg_ℤ (pos q)
signed_of false q = pos q

-- z is from -2147483648 to 2147483647: the answer's integers, which hold every range of document 01, 'Readings'.
abbrev pub is_i32 : ℤ → Bool
is_i32 z = le_z (negsuc 2147483647) z && le_z z (pos 2147483647)

-- The answer for the whole value z: z itself, or that it is outside the answer's integers, and so outside every range of 'Readings'.
abbrev pub in_answer : ℤ → Result ℤ NoWhole
in_answer z = cond (is_i32 z) (Ok z) (Err Beyond)

-- The whole value of a float (document 01, 'Readings'). A finite float is the number m * 2 ^ e, negative where s is true; infinity and NaN have no whole value.
unfoldable pub whole_of : Float → Result ℤ NoWhole
whole_of nan = Err NotFinite
whole_of (inf s) = Err NotFinite
whole_of (fin s m e) = in_answer (signed_of s (magnitude_of m e))

-- x and y are the same number.
abbrev pub same : ℤ → ℤ → Bool
same (pos x) (pos y) = eqb x y
same (pos x) (negsuc y) = false
same (negsuc x) (pos y) = false
same (negsuc x) (negsuc y) = eqb x y

-- z is the whole value that was answered. A float that has none has no such z.
abbrev pub is_whole : ℤ → Result ℤ NoWhole → Bool
is_whole z (Err n) = false
is_whole z (Ok y) = same y z
