-- Knob arithmetic over the integers. Document 01, 'Sends, refreshes, knobs'.
use Rattle.std.specs.Prelude.{ℕ, suc, ◌-◌, ◌%◌, cond, ℤ, pos, negsuc, ◌+ℤ◌, ◌-ℤ◌}
use Rattle.std.specs.Int.Signed.{le_z}

-- z modulo m, from 0 to m - 1, for an m above 0: -(n + 1) is m - 1 - n % m (`mod_below` and `mod_is` of Laws say that it is)
abbrev pub mod_of : ℤ → ℕ → ℕ
mod_of (pos n) m = n % m
mod_of (negsuc n) m = m - suc (n % m)

-- The rotation from old to new: new - old, moved by a multiple of 256 into the range -128 to 127. With 128 added it is a remainder, 0 to 255
abbrev pub rotation_of : ℕ → ℕ → ℤ
rotation_of old new = pos (mod_of (pos new -ℤ pos old +ℤ pos 128) 256) -ℤ pos 128

-- z clamped to the range low to high: the end that z is at or past, else z
abbrev pub clamp_of : ℤ → ℤ → ℤ → ℤ
clamp_of low high z = cond (le_z z low) low (cond (le_z high z) high z)
