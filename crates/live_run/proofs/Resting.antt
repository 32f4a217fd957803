-- What the calling thread leaves as it works the calls to their ends.
use Rattle.std.proofs.Common.{◌≡◌, ◌≢◌, ℕ, ◌+◌, ◌%◌, ◌<◌, get_or, sym, ◌∙◌, subst, ⊎_elim, arith}
use Rattle.std.proofs.lemmas.Bool.{cases_eq}
use Rattle.farm_live.specs.declared.slot.View.{View}
use Rattle.farm_live.specs.declared.live.Seat.{Seat}
use Rattle.farm_live.specs.declared.live.Caller.{Caller}
use Rattle.farm_live.specs.Live.{view_of}
use Rattle.live_run.specs.Posts.{Knows, KeepsPosts, Saw, MovesSeat, HasPosted, SawAll}

known_still : (seed callers caller k n : ℕ) (v w : View) → KeepsPosts v w → Knows seed callers caller k n v → Knows seed callers caller k n w
known_still seed callers caller k n v w s p = record { made = s.made ∙ p.made; numbers = s.callers ∙ p.numbers }

-- what was posted stays
pub posted_still : (seed calls callers n i k : ℕ) (c d : Caller) → MovesSeat KeepsPosts k c d → HasPosted seed calls callers n i c →
    HasPosted seed calls callers n i d
posted_still seed calls callers n i k c d m p = record {
  number = m.number ∙ p.number;
  each = λ j s h. ⊎_elim
      (λ (e : j ≡ k).
      let here : KeepsPosts (view_of (get_or c.seats.items j s)) (view_of (get_or d.seats.items j s)) =
      subst (λ (x : ℕ). KeepsPosts (view_of (get_or c.seats.items x s)) (view_of (get_or d.seats.items x s))) (sym e) (m.this s) in
      known_still seed callers i j n (view_of (get_or c.seats.items j s)) (view_of (get_or d.seats.items j s)) here (p.each j s h))
      (λ (ne : j ≢ k). subst (λ (t : Seat). Knows seed callers i j n (view_of t)) (sym (m.others j s ne)) (p.each j s h))
      (cases_eq j k);
}

-- one call more was worked to its end
pub saw_more : (callers number k : ℕ) (c d : Caller) → MovesSeat KeepsPosts k c d → SawAll callers number k c →
    ((s : Seat) → Saw (k % callers) number (view_of (get_or d.seats.items k s))) → SawAll callers number (k + 1) d
saw_more callers number k c d m saw now = λ j s h. ⊎_elim
    (λ (e : j ≡ k). subst (λ (x : ℕ). Saw (x % callers) number (view_of (get_or d.seats.items x s))) (sym e) (now s))
    (λ (ne : j ≢ k). subst (λ (t : Seat). Saw (j % callers) number (view_of t)) (sym (m.others j s ne)) (saw j s (before j h ne)))
    (cases_eq j k)
  where
    before : (j : ℕ) → j < k + 1 → j ≢ k → j < k
    before j h ne = omega (arith, h, ne)
