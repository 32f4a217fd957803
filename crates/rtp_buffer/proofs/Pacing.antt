-- The rules of the pace mean what they say.
use Rattle.std.proofs.Common.{◌≡◌, ℕ, ◌+◌, ◌-◌, ◌<◌, ◌≤◌, ◌^◌, List, [], ◌∷◌, length, take, suc, refl, add-one, arith}
use Rattle.std.specs.Prelude.{sum, Bool, true, false, nat_lt, if◌then◌else◌}
use Rattle.std.proofs.lemmas.Grind.{common_steps}
use Rattle.rtp_buffer.specs.declared.pace.Pace.{Pace}
use Rattle.rtp_buffer.specs.Watch.{on, back, place_of_rank}
use Rattle.rtp_buffer.specs.Pace.{wait_of, is_late, followed}

pub first_waits : (depth tick : ℕ) → depth < 2 ^ 32 → tick < 2 ^ 32 → back (back 0 (back (back 0 tick) depth)) tick ≡ depth
first_waits depth tick d t = omega arith

moved : (shift wait depth period tick : ℕ) → period < 2 ^ 32 → tick < 2 ^ 32 → shift < 2 ^ 32 → depth < 2 ^ 32 → wait ≡ back (back period shift) tick →
    back (back period (back (on shift wait) depth)) tick ≡ depth
moved shift wait depth period tick p t s d e = omega arith

pub follow_waits : (pace : Pace) (period tick : ℕ) → period < 2 ^ 32 → tick < 2 ^ 32 → pace.shift < 2 ^ 32 → pace.depth < 2 ^ 32 →
    is_late (wait_of pace period tick) ≡ true → pace.was_late ≡ true →
    wait_of (followed pace (wait_of pace period tick) tick) period tick ≡ pace.depth
follow_waits pace period tick p t s d late was = rw (late, was) (moved pace.shift (wait_of pace period tick) pace.depth period tick p t s d refl)

pub rank_before : (counts : List ℕ) (rank : ℕ) → sum (take (place_of_rank counts rank) counts) ≤ rank
rank_before [] rank = grind arith
rank_before (count ∷ counts) rank = grind (arith, common_steps, rank_before counts (rank - count))

found : (b : Bool) (count rank p : ℕ) (counts : List ℕ) → nat_lt rank count ≡ b → (b ≡ false → rank - count < sum (take (suc p) counts)) →
    rank < sum (take (suc (if b then 0 else suc p)) (count ∷ counts))
found true count rank p counts e ih = grind (arith, common_steps, e)
found false count rank p counts e ih =
    let l : rank - count < sum (take (suc p) counts) = ih refl in
    let m : count ≤ rank = grind (arith, e) in
    grind (arith, common_steps, l, m)

behind : (count rank : ℕ) (counts : List ℕ) → place_of_rank (count ∷ counts) rank < length (count ∷ counts) → nat_lt rank count ≡ false →
    place_of_rank counts (rank - count) < length counts
behind count rank counts h e = grind (arith, h, e)

one_more : (counts : List ℕ) (rank : ℕ) → place_of_rank counts rank < length counts → rank < sum (take (suc (place_of_rank counts rank)) counts)
one_more [] rank h = absurd (grind (arith, h))
one_more (count ∷ counts) rank h =
    found (nat_lt rank count) count rank (place_of_rank counts (rank - count)) counts refl (λ e. one_more counts (rank - count) (behind count rank counts h e))

pub rank_within : (counts : List ℕ) (rank : ℕ) → place_of_rank counts rank < length counts → rank < sum (take (place_of_rank counts rank + 1) counts)
rank_within counts rank h = rw add-one (one_more counts rank h)
