-- For crates above: what holds at each of eight places holds below 8 (`by_place`).
use Rattle.std.proofs.Common.{ℕ, zero, suc, ◌<◌, arith}

pub by_place : (P : ℕ → Type 0) → P 0 → P 1 → P 2 → P 3 → P 4 → P 5 → P 6 → P 7 → (i : ℕ) → i < 8 → P i
by_place P a b c d e f g h zero l = a
by_place P a b c d e f g h (suc zero) l = b
by_place P a b c d e f g h (suc (suc zero)) l = c
by_place P a b c d e f g h (suc (suc (suc zero))) l = d
by_place P a b c d e f g h (suc (suc (suc (suc zero)))) l = e
by_place P a b c d e f g h (suc (suc (suc (suc (suc zero))))) l = f
by_place P a b c d e f g h (suc (suc (suc (suc (suc (suc zero)))))) l = g
by_place P a b c d e f g h (suc (suc (suc (suc (suc (suc (suc zero))))))) l = h
by_place P a b c d e f g h (suc (suc (suc (suc (suc (suc (suc (suc n)))))))) l = absurd (omega arith)
