-- A room whose bytes behind the first so many are zeros is told by those. Assumes nothing.
use Rattle.std.proofs.Common.{◌≡◌, ℕ, ◌-◌, ◌≤◌, List, ◌++◌, length, take, drop, replicate}
use lib.ListN.{take-append-drop}
use lib.Seq.{length-take-le}

pub refilled : (N n : ℕ) (room : List ℕ) → n ≤ length room → drop n room ≡ replicate (N - n) 0 →
    take n room ++ replicate (N - length (take n room)) 0 ≡ room
refilled N n room h z = rw (length-take-le n room h, ← z) (take-append-drop n room)
