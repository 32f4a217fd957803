-- The table of states over all periods.
use Rattle.std.proofs.Common.{◌≡◌, refl, ap, ◌∙◌, sym, ℕ, ◌+◌, List, [], ◌∷◌, length, map, arith}
use Rattle.std.specs.List.{range_with_len}
use mathlib.Core.List.{reverse_aux}
use Rattle.rx_muting.specs.Draws.{state_after}
use Rattle.rx_handler.specs.Heard.{Heard}
use Rattle.rx_handler.specs.Effective.{effective_at, effectives, heard_in}
use Rattle.rx_handler.specs.Past.{anchor_of, draw_count}
use Rattle.rx_handler.specs.Memory.{RxMemory, home_memory}
use Rattle.rx_handler.specs.Step.{received, all_received}
use Rattle.rx_handler.specs.Stands.{Stands}
use Rattle.rx_handler.proofs.Steps.{received_more}
use Rattle.rx_handler.proofs.LookBack.{effective-history}

-- from any memory that stands for a past
run : (call : ℕ) (past ys : List Heard) (memory : RxMemory) → Stands call past memory →
    all_received memory ys ≡ map (effective_at call (heard_in (reverse_aux past ys))) (range_with_len (length past) (length ys))
unfolding all_received
run call past [] memory stands = refl
run call past (y ∷ ys) memory stands =
    let more = received_more call past memory y (received memory y).0 (received memory y).1 refl stands in
    let next : length (y ∷ past) ≡ length past + 1 = omega arith in
    ap (λ e. e ∷ all_received (received memory y).1 ys) (more.1 ∙ sym (effective-history call y past ys)) ∙
    ap (λ es. effective_at call (heard_in (reverse_aux past (y ∷ ys))) (length past) ∷ es)
    (run call (y ∷ past) ys (received memory y).1 more.0 ∙
    ap (λ n. map (effective_at call (heard_in (reverse_aux past (y ∷ ys)))) (range_with_len n (length ys))) next)

first_stands : (call : ℕ) → Stands call [] (home_memory call)
unfolding anchor_of draw_count state_after
first_stands call = record { state = refl; source = refl }

pub all_received-first : (call : ℕ) (ys : List Heard) → all_received (home_memory call) ys ≡ effectives call ys
all_received-first call ys = run call [] ys (home_memory call) (first_stands call)
