-- What a command of the bus area can rely on of its line. `line_laws` of proofs/Laws.antt proves it.
use Rattle.std.specs.Prelude.{◌≡◌, true, List, ℕ, ◌≤◌, Ok}
use Rattle.numerals.specs.Pairs.{are_pairs}
use Rattle.scripts.specs.declared.Command.{Command}
use Rattle.scripts.specs.Commands.{command_of, pairs_of}

pub record LineLaws : Type 0 where
  -- an area is never longer than 2,048 bytes
  pub area_length : (line : List ℕ) (n : ℕ) → command_of line ≡ Ok (Command.Area n) → n ≤ 2048
  -- the bytes of a poke are pairs of digits
  pub poke_pairs : (line : List ℕ) (start : ℕ) → command_of line ≡ Ok (Command.Poke start) → are_pairs (pairs_of line) ≡ true
