-- The draws of a drill, by their numbers (this project's profile).
use Rattle.std.specs.Prelude.{ℕ, zero, suc, ◌+◌, ◌-◌, ◌*◌, ◌/◌, ◌%◌, ◌^◌, Bool, ◌==◌, List, map}
use Rattle.std.specs.List.{range_with_len}

-- a step of the generator, a number of 32 bits
abbrev pub next : ℕ → ℕ
next x = (1664525 * x + 1013904223) % 2 ^ 32

-- the generator of a call after n draws; its start is given by the seed and the call's number
unfoldable pub draw_state : ℕ → ℕ → ℕ → ℕ
draw_state seed call zero = (seed * 4096 + call) % 2 ^ 32
draw_state seed call (suc n) = next (draw_state seed call n)

-- draw n of a call, from 0 on: the highest octet of the generator after it
abbrev pub draw : ℕ → ℕ → ℕ → ℕ
draw seed call n = draw_state seed call (n + 1) / 2 ^ 24

-- `count` draws from draw `first` on; the highest bit of each
abbrev pub draws : ℕ → ℕ → ℕ → ℕ → List ℕ
draws seed call first count = map (draw seed call) (range_with_len first count)

abbrev pub drawn_bits : ℕ → ℕ → ℕ → ℕ → List ℕ
drawn_bits seed call first count = map (λ n. draw seed call n / 2 ^ 7) (range_with_len first count)

-- ---- where the draws of a period begin

-- the Pcm line is loud in the later 32 of each 64 periods, and quiet in the others
abbrev pub is_loud : ℕ → Bool
is_loud period = period / 32 % 2 == 1

-- how many loud periods are before this one
abbrev pub loud_before : ℕ → ℕ
loud_before period = 32 * (period / 64) + (period % 64 - 32)

-- the first draw of a period: each period takes 262 for the uplink, and 160 more if the Pcm line is loud
abbrev pub first_draw : ℕ → ℕ
first_draw period = 262 * period + 160 * loud_before period

-- the first draw for the Pcm line of a loud period
abbrev pub first_loud_draw : ℕ → ℕ
first_loud_draw period = first_draw period + 262
