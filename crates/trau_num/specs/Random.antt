-- The random source of a call (this project's profile).
use Rattle.std.specs.Prelude.{ℕ, ◌+◌, ◌*◌, ◌/◌, ◌%◌, ◌^◌}

-- the multiplier of a draw
abbrev pub random_step : ℕ
random_step = 25173

-- what a draw adds to the product
abbrev pub random_add : ℕ
random_add = 13849

-- the state after a draw from state r
unfoldable pub state_after_draw : ℕ → ℕ
state_after_draw r = (random_step * r + random_add) % 65536

-- the number below m that a draw from state r gives
unfoldable pub drawn_number : ℕ → ℕ → ℕ
drawn_number r m = state_after_draw r * m / 2 ^ 16
