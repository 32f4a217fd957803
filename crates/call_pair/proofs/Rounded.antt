-- For crates above: a round of one call or of two is the run of their halves, place by place (`one-rounded`,
-- `two-rounded`).
use Rattle.std.proofs.Common.{◌≡◌, sym, ap, ◌∙◌, ℕ, min, [], take}
use Rattle.call_pair.specs.Memory.{HalfMemory, One, Two}
use Rattle.call_pair.specs.Jobs.{finished_job}
use Rattle.call_pair.specs.Phases.{CallMemory, job_at_phase_end, turn_down, with_partner, half_in, first_phase, frames_in, round_alone, round_beside}
use Rattle.call_pair.proofs.Phased.{first_effective, half_run, first_after, first-finished, one-phased, two-phased}

alone : (h : HalfMemory) → h.io.done ≡ 0 → half_run 0 [] h ≡ half_in (round_alone h)
alone h e =
    let a : first_phase 0 h ≡ first_after 0 h h.io.given = first-finished 0 h e in
    ap (λ (j : CallMemory). half_in (job_at_phase_end (turn_down (with_partner [] j)))) a
    ∙ sym (ap (λ (j : CallMemory). half_in (job_at_phase_end (turn_down j))) a)

beside : (m : ℕ) (g h : HalfMemory) → g.io.done ≡ 0 → half_run m (first_effective m h) g ≡ half_in (round_beside m g h)
beside m g h e =
    let end : m ≡ (first_phase m g).bridge_end = sym (ap (λ (j : CallMemory). j.bridge_end) (first-finished m g e)) in
    ap (λ (n : ℕ). half_in (job_at_phase_end (turn_down (with_partner (take n (frames_in (first_phase m h).notes)) (first_phase m g))))) end

pub one-rounded : (h : HalfMemory) → h.io.done ≡ 0 → finished_job (One h) ≡ One (half_in (round_alone h))
one-rounded h e = one-phased h e ∙ ap One (alone h e)

pub two-rounded : (g h : HalfMemory) → g.io.done ≡ 0 → h.io.done ≡ 0 → let m = min g.io.given h.io.given in
    finished_job (Two g h) ≡ Two (half_in (round_beside m g h)) (half_in (round_beside m h g))
two-rounded g h e f =
    let m = min g.io.given h.io.given in
    two-phased g h e f ∙ ap (λ (x : HalfMemory). Two x (half_run m (first_effective m g) h)) (beside m g h e)
    ∙ ap (λ (y : HalfMemory). Two (half_in (round_beside m g h)) y) (beside m h g f)
