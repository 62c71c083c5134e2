-- The natural number nearest to a fraction; of two that are equally near, the even one.
use Rattle.std.specs.Prelude.{◌≡◌, ℕ, ◌+◌, ◌*◌, ◌%◌, ◌≤◌}

-- q is a natural number nearest to a / b: twice the distance of q * b and a is at most b. Where it is exactly b, a tie, q is even.
pub record IsNearest (q a b : ℕ) : Type 0 where
  pub not_above : q * b * 2 ≤ a * 2 + b
  pub not_below : a * 2 ≤ q * b * 2 + b
  pub even_above : q * b * 2 ≡ a * 2 + b → q % 2 ≡ 0
  pub even_below : a * 2 ≡ q * b * 2 + b → q % 2 ≡ 0
