-- All jobs are done exactly where each of them is.
use Rattle.std.proofs.Common.{◌≡◌, refl, sym, ap, ◌∙◌, subst, ℕ, zero, suc, ◌<◌, ◌≤◌, Bool, true, false, Option, Some, None, List, [], ◌∷◌, length, get_or}
use Rattle.std.proofs.Common.{arith, inl, inr}
use Rattle.std.specs.Prelude.{if◌then◌else◌, ◌==◌, IsTrue, IfSome, ◌↔◌}
use Rattle.std.specs.List.{Contains, sum_by}
use Rattle.std.proofs.lemmas.Bool.{eqb-true, eq-eqb, ne_eqb, cases_eq}
use Rattle.std.proofs.lemmas.List.Sums.{sum_by-cons}
use Rattle.pool_core.specs.Machine.{PoolState, deque, hand, is_job, times_in, in_hand, fills, all_done, IsState}

-- a job stands in a list of itself once, and in none more than once an item
job_same : (job other : ℕ) → other ≡ job → is_job job other ≡ 1
job_same job other e = ap (λ (t : Bool). if t then 1 else 0) (eq-eqb other job e)

job_least : (job other : ℕ) → is_job job other ≤ 1
job_least job other = by (other == job)
  where
    by : (t : Bool) → (if t then 1 else 0) ≤ 1
    by true = omega arith
    by false = omega arith

-- ---- sums

-- a sum of lesser numbers is no greater
sum_less : {X : Type 0} (f g : X → ℕ) (xs : List X) → ((x : X) → f x ≤ g x) → sum_by f xs ≤ sum_by g xs
sum_less f g [] h = omega arith
sum_less f g (x ∷ xs) h = let i = sum_less f g xs h in let a = h x in omega (arith, sum_by-cons f x xs, sum_by-cons g x xs)

-- a job stands in a list at most as often as the list is long
times_least : (job : ℕ) (jobs : List ℕ) → times_in job jobs ≤ length jobs
times_least job [] = omega arith
times_least job (x ∷ xs) = let i = times_least job xs in let a = job_least job x in omega (arith, sum_by-cons (is_job job) x xs)

hand_least : (job : ℕ) (o : Option ℕ) → in_hand job o ≤ fills o
hand_least job None = omega arith
hand_least job (Some other) = job_least job other

-- a job that stands in a list is contained in it
contained : (job : ℕ) (jobs : List ℕ) → 0 < times_in job jobs → Contains jobs job
contained job [] h = absurd (omega arith)
contained job (x ∷ xs) h = elim (cases_eq x job) [
  | inl e ↦ (0, omega arith, e)
  | inr n ↦
      let z : is_job job x ≡ 0 = ap (λ (t : Bool). if t then 1 else 0) (ne_eqb x job n) in
      let r = contained job xs (omega (arith, sum_by-cons (is_job job) x xs)) in
      (suc r.0, let l = r.1 in omega arith, r.2)
]

-- the job at an index stands in the list
counted : (job k : ℕ) (jobs : List ℕ) (d : ℕ) → k < length jobs → get_or jobs k d ≡ job → 0 < times_in job jobs
counted job k [] d l e = absurd (omega arith)
counted job zero (x ∷ xs) d l e = let a = job_same job x e in omega (arith, sum_by-cons (is_job job) x xs)
counted job (suc k) (x ∷ xs) d l e = let i = counted job k xs d (omega arith) e in omega (arith, sum_by-cons (is_job job) x xs)

-- ---- one way

-- where as many jobs are done as there are, each is
each_done : (s : PoolState) → IsState s → length s.finished ≡ length s.lens → (job : ℕ) → job < length s.lens → Contains s.finished job
each_done s i e job h =
    let d = sum_less (times_in job) length s.deques (times_least job) in
    let f = sum_less (in_hand job) fills s.hands (hand_least job) in
    let o = i.once job h in
    contained job s.finished (omega (arith, i.all))

-- ---- the other way

-- an element that counts, where the sum is 0
deque_empty : (job : ℕ) (deques : List (List ℕ)) (w : ℕ) → sum_by (times_in job) deques ≡ 0 → times_in job (get_or deques w []) ≡ 0
deque_empty job [] w e = refl
deque_empty job (x ∷ xs) zero e = omega (arith, sum_by-cons (times_in job) x xs)
deque_empty job (x ∷ xs) (suc w) e = deque_empty job xs w (omega (arith, sum_by-cons (times_in job) x xs))

-- where no hand holds a job, none of them does
hand_empty : (job : ℕ) (hands : List (Option ℕ)) (w : ℕ) → sum_by (in_hand job) hands ≡ 0 → in_hand job (get_or hands w None) ≡ 0
hand_empty job [] w e = refl
hand_empty job (x ∷ xs) zero e = omega (arith, sum_by-cons (in_hand job) x xs)
hand_empty job (x ∷ xs) (suc w) e = hand_empty job xs w (omega (arith, sum_by-cons (in_hand job) x xs))

-- empty deques have no jobs, and free hands hold none
no_lengths : (deques : List (List ℕ)) → ((w : ℕ) → length (get_or deques w []) ≡ 0) → sum_by length deques ≡ 0
no_lengths [] h = refl
no_lengths (x ∷ xs) h = let i = no_lengths xs (λ w. h (suc w)) in let a = h 0 in sum_by-cons length x xs ∙ omega arith

no_fills : (hands : List (Option ℕ)) → ((w : ℕ) → fills (get_or hands w None) ≡ 0) → sum_by fills hands ≡ 0
no_fills [] h = refl
no_fills (x ∷ xs) h = let i = no_fills xs (λ w. h (suc w)) in let a = h 0 in sum_by-cons fills x xs ∙ omega arith

-- a deque in which no job stands is empty, and a hand in which none is, free
empty_by : (jobs : List ℕ) (n : ℕ) → ((k : ℕ) → k < length jobs → get_or jobs k 0 < n) → ((job : ℕ) → job < n → times_in job jobs ≡ 0) → length jobs ≡ 0
empty_by [] n below none = refl
empty_by (x ∷ xs) n below none = let z = none x (below 0 (omega arith)) in let c = counted x 0 (x ∷ xs) 0 (omega arith) refl in absurd (omega arith)

free_by : (o : Option ℕ) (n : ℕ) → IfSome o (λ job. job < n) → ((job : ℕ) → job < n → in_hand job o ≡ 0) → fills o ≡ 0
free_by None n below none = refl
free_by (Some job) n below none = let z = none job below in let c = job_same job job refl in absurd (omega arith)

-- where each job is done, as many are done as there are
all_by : (s : PoolState) → IsState s → ((job : ℕ) → job < length s.lens → Contains s.finished job) → length s.finished ≡ length s.lens
all_by s i h =
    let parts = λ (job : ℕ) (l : job < length s.lens).
    let c = h job l in let t = counted job c.0 s.finished job c.1 c.2 in let o = i.once job l in
    let r : (sum_by (times_in job) s.deques ≡ 0) × (sum_by (in_hand job) s.hands ≡ 0) = (omega arith, omega arith) in r in
    let d = no_lengths s.deques (λ w. empty_by (deque s w) (length s.lens) (i.standing w) (λ job l. deque_empty job s.deques w (parts job l).0)) in
    let f = no_fills s.hands (λ w. free_by (hand s w) (length s.lens) (i.holding w) (λ job l. hand_empty job s.hands w (parts job l).1)) in
    omega (arith, i.all)

-- so all are done exactly where each is
done_exactly : (s : PoolState) → IsState s → IsTrue (all_done s) ↔ ((job : ℕ) → job < length s.lens → Contains s.finished job)
done_exactly s i = (λ e. each_done s i (eqb-true (length s.finished) (length s.lens) e), λ h. eq-eqb (length s.finished) (length s.lens) (all_by s i h))

pub done_result : (s : PoolState) (b : Bool) → IsState s → b ≡ all_done s → IsTrue b ↔ ((job : ℕ) → job < length s.lens → Contains s.finished job)
done_result s b i e = subst (λ (b : Bool). IsTrue b ↔ ((job : ℕ) → job < length s.lens → Contains s.finished job)) (sym e) (done_exactly s i)
