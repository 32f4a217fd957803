-- For crates above: draws of a random source by their numbers, also when it goes on after others
-- (`draw_of-state_after`).
use Rattle.std.proofs.Common.{◌≡◌, ℕ, ◌+◌, ◌*◌, ◌/◌, ◌<◌, zero, suc, ap, ◌∙◌, arith}
use Rattle.trau_num.specs.Random.{state_after_draw, drawn_number}
use Rattle.rx_muting.specs.Draws.{state_after, draw_of}

-- a source goes on
pub state_after-state_after : (r i k : ℕ) → state_after (state_after r i) k ≡ state_after r (i + k)
unfolding state_after
state_after-state_after r i zero = ap (state_after r) (let e : i ≡ i + 0 = omega arith in e)
state_after-state_after r i (suc k) =
    ap state_after_draw (state_after-state_after r i k) ∙ ap (state_after r) (let e : suc (i + k) ≡ i + suc k = omega arith in e)

-- draws go on from the state after others
pub draw_of-state_after : (r i k m : ℕ) → draw_of (state_after r i) k m ≡ draw_of r (i + k) m
unfolding draw_of
draw_of-state_after r i k m = ap (λ s. drawn_number s m) (state_after-state_after r i k)

-- one draw more
pub state_after-next : (r i : ℕ) → state_after_draw (state_after r i) ≡ state_after r (i + 1)
unfolding state_after
state_after-next r i = ap (state_after r) (let e : suc i ≡ i + 1 = omega arith in e)

-- a draw is below its limit
scaled : (s m : ℕ) → s < 65536 → 0 < m → s * m / 65536 < m
scaled s m h p = grind arith

pub draw_of-below : (r i m : ℕ) → 0 < m → draw_of r i m < m
unfolding draw_of drawn_number state_after_draw
draw_of-below r i m p = scaled _ m (omega arith) p
