-- What one turn keeps: a turn processes the next place, if there is one.
use Rattle.std.proofs.Common.{◌≡◌, ℕ, zero, suc, ◌+◌, ◌-◌, ◌<◌, ltb, Bool, true, false, if◌then◌else◌, refl, ap, ◌∙◌, arith}
use Rattle.std.proofs.lemmas.Bool.Decides.{nat_tests}
use Rattle.call_pair.specs.Periods.{has_period}
use Rattle.call_pair.specs.Phases.{CallMemory, phase_place, call_place, after_call_places, periods_left, job_at_phase_end}
use Rattle.call_pair.specs.declared.call_job.Phase.{Phase}
use Rattle.call_pair.specs.declared.call_job.Phase.TheVariants.{First, Second}

-- ---- the job of a call

-- a place more is done
one_fewer : (done given : ℕ) → ltb done given ≡ true → given - (done + 1) + 1 ≡ given - done
one_fewer done given e = grind (arith, nat_tests)

-- no place is left where all are done
pub none_left : (done given : ℕ) → ltb done given ≡ false → given - done ≡ 0
none_left done given e = grind (arith, nat_tests)

-- after a place there is one less left
place_left : (p : Phase) (j : CallMemory) → has_period j.io ≡ true → periods_left (phase_place p j) + 1 ≡ periods_left j
place_left First j e = one_fewer j.io.done j.io.given e
place_left Second j e = one_fewer j.io.done j.io.given e

place_call : (p : Phase) (j : CallMemory) → (phase_place p j).io.call ≡ j.io.call
place_call First j = refl
place_call Second j = refl

-- a turn works a place if there is one
pub call_place_is : (j : CallMemory) (b : Bool) → has_period j.io ≡ b →
    call_place j ≡ (if b then phase_place j.phase j else j)
call_place_is j b e = ap (λ (x : Bool). if x then phase_place j.phase j else j) e

pub call_place_left : (j : CallMemory) → 0 < periods_left j →
    periods_left (call_place j) + 1 ≡ periods_left j
call_place_left j some = go (has_period j.io) refl
  where
    go : (b : Bool) → has_period j.io ≡ b → periods_left (call_place j) + 1 ≡ periods_left j
    go true e = ap (λ m. periods_left m + 1) (call_place_is j true e) ∙ place_left j.phase j e
    go false e = absurd (omega (arith, none_left j.io.done j.io.given e))

pub call_place_call : (j : CallMemory) → (call_place j).io.call ≡ j.io.call
call_place_call j = go (has_period j.io) refl
  where
    go : (b : Bool) → has_period j.io ≡ b → (call_place j).io.call ≡ j.io.call
    go true e = ap (λ (m : CallMemory). m.io.call) (call_place_is j true e) ∙ place_call j.phase j
    go false e = ap (λ (m : CallMemory). m.io.call) (call_place_is j false e)

-- a turn and n more are one more
run_more : (n m : ℕ) (j : CallMemory) → n + 1 ≡ m → after_call_places n (call_place j) ≡ after_call_places m j
run_more n zero j e = absurd (omega arith)
run_more n (suc m) j e = let k : n ≡ m = omega arith in ap (λ (i : ℕ). after_call_places i (call_place j)) k

pub phase_end-call_place : (j : CallMemory) → 0 < periods_left j →
    job_at_phase_end (call_place j) ≡ job_at_phase_end j
phase_end-call_place j some = run_more (periods_left (call_place j)) (periods_left j) j (call_place_left j some)

-- a place is left where one is
pub some_left : (done given : ℕ) → ltb done given ≡ true → 0 < given - done
some_left done given e = grind (arith, nat_tests)
