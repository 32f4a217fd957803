-- The draws of a call's random source by their numbers (this project's profile).
use Rattle.std.specs.Prelude.{ℕ, ◌+◌, zero, suc}
use Rattle.trau_num.specs.Random.{state_after_draw, drawn_number}

-- how many values a grid can have (Mc, 0 to 3), one of which is drawn
abbrev pub grid_values : ℕ
grid_values = 4

-- the state of a source that starts at r, after this many draws
unfoldable pub state_after : ℕ → ℕ → ℕ
state_after r zero = r
state_after r (suc i) = state_after_draw (state_after r i)

-- draw number i, from 0, below m, of a source that starts at r
unfoldable pub draw_of : ℕ → ℕ → ℕ → ℕ
draw_of r i m = drawn_number (state_after r i) m

-- draw number k of those from number `first` on
abbrev pub draws_from : ℕ → ℕ → ℕ → ℕ → ℕ
draws_from r first k m = draw_of r (first + k) m
