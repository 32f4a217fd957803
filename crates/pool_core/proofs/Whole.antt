-- Whole lists of steps from the start.
use Rattle.std.proofs.Common.{◌≡◌, refl, sym, ap, ◌∙◌, subst, ℕ, ◌+◌, ◌<◌, min, Bool, true, false, Option, Some, None, List, [], ◌∷◌, ◌++◌, length, get_or, set}
use Rattle.std.proofs.Common.{arith, inl, inr}
use Rattle.std.specs.Prelude.{◌&&◌, if◌then◌else◌}
use Rattle.std.proofs.lemmas.Bool.{eq-eqb, ne_eqb, cases_eq}
use Rattle.std.proofs.lemmas.List.{get_or-set_same, get_or-set_other}
use Rattle.pool_core.specs.declared.step.PoolStep.{PoolStep}
use Rattle.pool_core.specs.declared.step.PoolStep.TheVariants.{Pop, Steal, Run, Push, Finish}
use Rattle.pool_core.specs.Machine.{PoolState, pool_start, len, place, deque, hand, is_legal, taken, run, pushed, completed, moved, stepped, holds_job}
use Rattle.pool_core.specs.Machine.{times_in_all, IsState}
use Rattle.pool_core.specs.Steps.{after, step_periods, runs}
use Rattle.pool_core.proofs.Keeps.{stepped_keeps}
use Rattle.pool_core.proofs.Start.{start_state, zero_at}

-- one step more
pub after-append : (s : PoolState) (xs : List PoolStep) (x : PoolStep) → after s (xs ++ x ∷ []) ≡ stepped (after s xs) x
after-append s [] x = refl
after-append s (y ∷ xs) x = after-append (stepped s y) xs x

-- a step after others, from its own step
pub stepped_after : (start s n : PoolState) (xs : List PoolStep) (x : PoolStep) → n ≡ stepped s x → s ≡ after start xs → n ≡ after start (xs ++ x ∷ [])
stepped_after start s n xs x e a = e ∙ ap (λ (s : PoolState). stepped s x) a ∙ sym (after-append start xs x)

-- a legal step does what it says, and another changes nothing
pub legal_stepped : (s n : PoolState) (x : PoolStep) → is_legal s x ≡ true → n ≡ moved s x → n ≡ stepped s x
legal_stepped s n x l e = e ∙ sym (ap (λ (b : Bool). if b then moved s x else s) l)

pub other_stepped : (s : PoolState) (x : PoolStep) → is_legal s x ≡ false → s ≡ stepped s x
other_stepped s x l = sym (ap (λ (b : Bool). if b then moved s x else s) l)

-- each list of steps keeps what the machine keeps
pub after_keeps : (s : PoolState) (xs : List PoolStep) → IsState s → IsState (after s xs)
after_keeps s [] i = i
after_keeps s (x ∷ xs) i = after_keeps (stepped s x) xs (stepped_keeps s x i)

-- ---- what a step leaves

-- no step changes the lengths
taken_lens : (s : PoolState) (w v : ℕ) (jobs : List ℕ) → ((taken s w v jobs).lens ≡ s.lens) × ((taken s w v jobs).places ≡ s.places)
taken_lens s w v [] = (refl, refl)
taken_lens s w v (job ∷ jobs) = (refl, refl)

pushed_lens : (s : PoolState) (w : ℕ) (o : Option ℕ) → ((pushed s w o).lens ≡ s.lens) × ((pushed s w o).places ≡ s.places)
pushed_lens s w None = (refl, refl)
pushed_lens s w (Some job) = (refl, refl)

completed_lens : (s : PoolState) (w : ℕ) (o : Option ℕ) → ((completed s w o).lens ≡ s.lens) × ((completed s w o).places ≡ s.places)
completed_lens s w None = (refl, refl)
completed_lens s w (Some job) = (refl, refl)

run_lens : (s : PoolState) (p : ℕ) (o : Option ℕ) → (run s p o).lens ≡ s.lens
run_lens s p None = refl
run_lens s p (Some job) = refl

moved_lens : (s : PoolState) (x : PoolStep) → (moved s x).lens ≡ s.lens
moved_lens s (Pop w) = (taken_lens s w w (deque s w)).0
moved_lens s (Steal t v) = (taken_lens s t v (deque s v)).0
moved_lens s (Run w p) = run_lens s p (hand s w)
moved_lens s (Push w) = (pushed_lens s w (hand s w)).0
moved_lens s (Finish w) = (completed_lens s w (hand s w)).0

chosen_lens : (s : PoolState) (x : PoolStep) (b : Bool) → (if b then moved s x else s).lens ≡ s.lens
chosen_lens s x true = moved_lens s x
chosen_lens s x false = refl

pub stepped_lens : (s : PoolState) (x : PoolStep) → (stepped s x).lens ≡ s.lens
stepped_lens s x = chosen_lens s x (is_legal s x)

-- no list of steps changes the lengths
pub after_lens : (s : PoolState) (xs : List PoolStep) → (after s xs).lens ≡ s.lens
after_lens s [] = refl
after_lens s (x ∷ xs) = after_lens (stepped s x) xs ∙ stepped_lens s x

-- each job once, after every list of steps
pub once_after : (workers : ℕ) (lens : List ℕ) (xs : List PoolStep) (job : ℕ) → 0 < workers → job < length lens →
    times_in_all job (after (pool_start workers lens) xs) ≡ 1
once_after workers lens xs job l h =
    (after_keeps (pool_start workers lens) xs (start_state workers lens l)).once job
    (subst (λ (ys : List ℕ). job < length ys) (sym (after_lens (pool_start workers lens) xs)) h)

-- ---- the place of a job

-- a job's place after one more run
run_place : (s : PoolState) (p job : ℕ) (o : Option ℕ) → IsState s → job < length s.lens → place (run s p o) job
    ≡ min (len s job) (place s job + (if holds_job job o then p else 0))
run_place s p job None i h = let w = i.within job in omega arith
run_place s p job (Some other) i h = elim (cases_eq other job) [
  | inl e ↦
      let n = min (place s other + p) (len s other) in
      let q : other < length s.places = omega (arith, i.placed) in
      let a = ap (λ (k : ℕ). get_or (set s.places other n) k 0) (sym e) ∙ get_or-set_same s.places other n 0 q in
      let b = ap (λ (k : ℕ). min (place s k + p) (len s k)) e in
      let c = ap (λ (t : Bool). if t then p else 0) (eq-eqb other job e) in
      omega arith
  | inr e ↦
      let n = min (place s other + p) (len s other) in
      let a = get_or-set_other s.places other job n 0 (λ q. e (sym q)) in
      let c = ap (λ (t : Bool). if t then p else 0) (ne_eqb other job e) in
      let w = i.within job in
      omega arith
]

-- a place stays where no step runs its job
stays : (s : PoolState) (places : List ℕ) (job : ℕ) → IsState s → places ≡ s.places → get_or places job 0 ≡ min (len s job) (place s job + 0)
stays s places job i e = let a = ap (λ (xs : List ℕ). get_or xs job 0) e in let w = i.within job in omega arith

-- a step runs a job by its periods, up to its length
moved_place : (s : PoolState) (x : PoolStep) (job : ℕ) → IsState s → job < length s.lens → (b : Bool) → is_legal s x ≡ b →
    place (if b then moved s x else s) job ≡ min (len s job) (place s job + step_periods s job x)
moved_place s (Pop w) job i h true e = stays s (taken s w w (deque s w)).places job i (taken_lens s w w (deque s w)).1
moved_place s (Pop w) job i h false e = stays s s.places job i refl
moved_place s (Steal t v) job i h true e = stays s (taken s t v (deque s v)).places job i (taken_lens s t v (deque s v)).1
moved_place s (Steal t v) job i h false e = stays s s.places job i refl
moved_place s (Run w p) job i h true e = run_place s p job (hand s w) i h
    ∙ sym (ap (λ (t : Bool). min (len s job) (place s job + (if t && holds_job job (hand s w) then p else 0))) e)
moved_place s (Run w p) job i h false e = stays s s.places job i refl
    ∙ sym (ap (λ (t : Bool). min (len s job) (place s job + (if t && holds_job job (hand s w) then p else 0))) e)
moved_place s (Push w) job i h true e = stays s (pushed s w (hand s w)).places job i (pushed_lens s w (hand s w)).1
moved_place s (Push w) job i h false e = stays s s.places job i refl
moved_place s (Finish w) job i h true e = stays s (completed s w (hand s w)).places job i (completed_lens s w (hand s w)).1
moved_place s (Finish w) job i h false e = stays s s.places job i refl

-- so does a list of steps
place_after : (s : PoolState) (xs : List PoolStep) (job : ℕ) → IsState s → job < length s.lens → place (after s xs) job
    ≡ min (len s job) (place s job + runs s job xs)
place_after s [] job i h = stays s s.places job i refl
place_after s (x ∷ xs) job i h =
    let n : PoolState = stepped s x in
    let l = stepped_lens s x in
    let r = place_after n xs job (stepped_keeps s x i) (subst (λ (ys : List ℕ). job < length ys) (sym l) h) in
    let m = moved_place s x job i h (is_legal s x) refl in
    let a = ap (λ (ys : List ℕ). get_or ys job 0) l in
    omega arith

-- its length or the sum of its runs, whichever is less, after every list of steps
pub place_is : (workers : ℕ) (lens : List ℕ) (xs : List PoolStep) (job : ℕ) → 0 < workers → job < length lens →
    place (after (pool_start workers lens) xs) job ≡ min (get_or lens job 0) (runs (pool_start workers lens) job xs)
place_is workers lens xs job l h =
    let p = place_after (pool_start workers lens) xs job (start_state workers lens l) h in
    let z = zero_at (length lens) job in
    omega arith
