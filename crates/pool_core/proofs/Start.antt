-- The start: each job is dealt to one worker.
use Rattle.std.proofs.Common.{◌≡◌, refl, sym, ap, ◌∙◌, subst, ℕ, zero, suc, ◌+◌, ◌<◌, ◌≤◌, ◌≢◌, Bool, true, false, Option, Some, None, List, [], ◌∷◌, ◌++◌}
use Rattle.std.proofs.Common.{length, map, get_or, set, replicate, arith, add-one, inl, inr}
use Rattle.std.specs.Prelude.{◌%◌, if◌then◌else◌, ◌==◌, filter, IfSome}
use Rattle.std.specs.List.{range_with_len, sum_by}
use Rattle.std.proofs.Math.Nat.{mod-lt}
use Rattle.std.proofs.lemmas.Bool.{eq-eqb, ne_eqb, cases_eq}
use Rattle.std.proofs.lemmas.List.{length-set, length-append, length-replicate, get_or-set_same, get_or-set_other, append-nil}
use Rattle.std.proofs.lemmas.List.Elements.{filter-append}
use Rattle.std.proofs.lemmas.List.FromFn.{fill_by_all, length-map-range_with_len, get_or-map-range_with_len}
use Rattle.std.proofs.lemmas.List.Sums.{sum_by-set, sum_by-cons}
use Rattle.std.proofs.lemmas.List.Folds.{sum_by-replicate}
use Rattle.pool_core.specs.Machine.{pool_start, dealt, is_job, times_in, in_hand, fills, IsState}
use Rattle.pool_core.proofs.Keeps.{Below, times_more, below_more}

-- ---- numbers from 0 on

-- one number more
range_more : (a n : ℕ) → range_with_len a (n + 1) ≡ range_with_len a n ++ (a + n) ∷ []
range_more a zero = let e : a ≡ a + 0 = omega arith in ap (λ k. k ∷ []) e
range_more a (suc n) =
    let e : suc n + 1 ≡ suc (n + 1) = omega arith in
    let f : a + 1 + n ≡ a + suc n = omega arith in
    ap (range_with_len a) e ∙ ap (λ xs. a ∷ xs) (range_more (a + 1) n) ∙ ap (λ k. (a ∷ range_with_len (a + 1) n) ++ k ∷ []) f

-- a list made of each number, of which one is another
pub set_at : (f g : ℕ → List ℕ) (n v : ℕ) (ys : List ℕ) → v < n → f v ≡ ys → ((w : ℕ) → w ≢ v → f w ≡ g w) →
    map f (range_with_len 0 n) ≡ set (map g (range_with_len 0 n)) v ys
set_at f g n v ys l e same =
    let xs : List (List ℕ) = map g (range_with_len 0 n) in
    let len = length-map-range_with_len g 0 n in
    sym (fill_by_all f (set xs v ys) n [] (length-set xs v ys ∙ len) (λ k h. elim (cases_eq k v) [
      | inl p ↦ ap (λ (k : ℕ). get_or (set xs v ys) k []) p ∙ get_or-set_same xs v ys [] (omega arith) ∙ sym e ∙ ap f (sym p)
      | inr q ↦ get_or-set_other xs v k ys [] q ∙ get_or-map-range_with_len g 0 n k k [] h (omega arith) ∙ sym (same k q)
    ]))

-- ---- one more job is dealt

-- a list of one
filter_one : (p : ℕ → Bool) (x : ℕ) → filter p (x ∷ []) ≡ (if p x then x ∷ [] else [])
filter_one p x = refl

-- job n goes to the worker with its number modulo that of the workers
pub dealt_more : (workers n w : ℕ) → dealt workers (n + 1) w ≡ dealt workers n w ++ (if n % workers == w then n ∷ [] else [])
dealt_more workers n w =
    ap (filter (λ job. job % workers == w)) (range_more 0 n)
    ∙ filter-append (λ job. job % workers == w) (range_with_len 0 n) ((0 + n) ∷ [])
    ∙ ap (λ k. dealt workers n w ++ filter (λ job. job % workers == w) (k ∷ [])) (let e : 0 + n ≡ n = omega arith in e)
    ∙ ap (λ xs. dealt workers n w ++ xs) (filter_one (λ job. job % workers == w) n)

-- that worker has job n at the end
dealt_here : (workers n : ℕ) → dealt workers (n + 1) (n % workers) ≡ dealt workers n (n % workers) ++ n ∷ []
dealt_here workers n = dealt_more workers n (n % workers) ∙ ap (λ (t : Bool). dealt workers n (n % workers) ++ (if t then n ∷ [] else []))
    (eq-eqb (n % workers) (n % workers) refl)

-- no other worker has job n
dealt_other : (workers n w : ℕ) → w ≢ n % workers → dealt workers (n + 1) w ≡ dealt workers n w
dealt_other workers n w h =
    dealt_more workers n w ∙ ap (λ (t : Bool). dealt workers n w ++ (if t then n ∷ [] else [])) (ne_eqb (n % workers) w (λ e. h (sym e))) ∙ append-nil _

abbrev pub deal : ℕ → ℕ → List (List ℕ)
deal workers n = map (dealt workers n) (range_with_len 0 workers)

-- so one deque gets it
pub deal_more : (workers n : ℕ) → 0 < workers → deal workers (n + 1) ≡ set (deal workers n) (n % workers) (dealt workers n (n % workers) ++ n ∷ [])
deal_more workers n l = set_at (dealt workers (n + 1)) (dealt workers n) workers (n % workers) _ (mod-lt n l) (dealt_here workers n) (dealt_other workers n)

deal_at : (workers n : ℕ) → 0 < workers → get_or (deal workers n) (n % workers) [] ≡ dealt workers n (n % workers)
deal_at workers n l = get_or-map-range_with_len (dealt workers n) 0 workers (n % workers) (n % workers) [] (mod-lt n l) (omega arith)

-- ---- each job is dealt once

-- no jobs are dealt
all_empty : (f : List ℕ → ℕ) → f [] ≡ 0 → (a n : ℕ) → sum_by f (map (λ w. []) (range_with_len a n)) ≡ 0
all_empty f e a zero = refl
all_empty f e a (suc n) = let i = all_empty f e (a + 1) n in sum_by-cons f [] (map (λ w. []) (range_with_len (a + 1) n)) ∙ omega arith

-- each job is dealt once
deal_times : (workers n job : ℕ) → 0 < workers → sum_by (times_in job) (deal workers n) ≡ times_in job (range_with_len 0 n)
deal_times workers zero job l = all_empty (times_in job) refl 0 workers
deal_times workers (suc n) job l =
    subst (λ (m : ℕ). sum_by (times_in job) (deal workers m) ≡ times_in job (range_with_len 0 m)) (add-one n)
    (let i = deal_times workers n job l in
    let d = sum_by-set (times_in job) (deal workers n) (n % workers) (dealt workers n (n % workers) ++ n ∷ []) []
    (let m = mod-lt n l in let k = length-map-range_with_len (dealt workers n) 0 workers in omega arith) in
    let a = ap (times_in job) (deal_at workers n l) in
    let m = times_more job (dealt workers n (n % workers)) n in
    let r = ap (times_in job) (range_more 0 n) ∙ times_more job (range_with_len 0 n) (0 + n) ∙ ap (λ k. times_in job (range_with_len 0 n) + is_job job k)
    (let e : 0 + n ≡ n = omega arith in e) in
    let s = ap (sum_by (times_in job)) (deal_more workers n l) in
    omega arith)

deal_length : (workers n : ℕ) → 0 < workers → sum_by length (deal workers n) ≡ n
deal_length workers zero l = all_empty length refl 0 workers
deal_length workers (suc n) l =
    subst (λ (m : ℕ). sum_by length (deal workers m) ≡ m) (add-one n)
    (let i = deal_length workers n l in
    let d = sum_by-set length (deal workers n) (n % workers) (dealt workers n (n % workers) ++ n ∷ []) []
    (let m = mod-lt n l in let k = length-map-range_with_len (dealt workers n) 0 workers in omega arith) in
    let a = ap length (deal_at workers n l) in
    let m = length-append (dealt workers n (n % workers)) (n ∷ []) in
    let s = ap (sum_by length) (deal_more workers n l) in
    omega arith)

-- a job stands in a list of itself once, and in none more than once an item
job_same : (job : ℕ) → is_job job job ≡ 1
job_same job = ap (λ (t : Bool). if t then 1 else 0) (eq-eqb job job refl)

-- another job
job_other : (job other : ℕ) → other ≢ job → is_job job other ≡ 0
job_other job other h = ap (λ (t : Bool). if t then 1 else 0) (ne_eqb other job h)

-- a job among the numbers below n: once, if it is one of them
range_step : (n job : ℕ) → times_in job (range_with_len 0 (suc n)) ≡ times_in job (range_with_len 0 n) + is_job job n
range_step n job =
    ap (λ m. times_in job (range_with_len 0 m)) (sym (add-one n)) ∙ ap (times_in job) (range_more 0 n) ∙ times_more job (range_with_len 0 n) (0 + n)
    ∙ ap (λ k. times_in job (range_with_len 0 n) + is_job job k) (let e : 0 + n ≡ n = omega arith in e)

range_none : (n job : ℕ) → n ≤ job → times_in job (range_with_len 0 n) ≡ 0
range_none zero job h = refl
range_none (suc n) job h = let i = range_none n job (omega arith) in let o = job_other job n (omega arith) in range_step n job ∙ omega arith

range_once : (n job : ℕ) → job < n → times_in job (range_with_len 0 n) ≡ 1
range_once zero job h = absurd (omega arith)
range_once (suc n) job h = elim (cases_eq n job) [
  | inl e ↦ let z = range_none n job (omega arith) in let o = ap (is_job job) e ∙ job_same job in range_step n job ∙ omega arith
  | inr e ↦ let z = range_once n job (omega arith) in let o = job_other job n e in range_step n job ∙ omega arith
]

-- ---- the state at the start

-- jobs below n are below n + 1
below_wide : (n : ℕ) (jobs : List ℕ) → Below n jobs → Below (n + 1) jobs
below_wide n jobs h k l = let b = h k l in omega arith

below_some : (t : Bool) (n : ℕ) (jobs : List ℕ) → Below n jobs → Below (n + 1) (jobs ++ (if t then n ∷ [] else []))
below_some true n jobs h = below_more (n + 1) n jobs (below_wide n jobs h) (omega arith)
below_some false n jobs h = subst (λ (xs : List ℕ). Below (n + 1) xs) (sym (append-nil jobs)) (below_wide n jobs h)

-- each deque has jobs of the pool alone
dealt_below : (workers n w : ℕ) → Below n (dealt workers n w)
dealt_below workers zero w = λ k l. absurd (omega arith)
dealt_below workers (suc n) w =
    subst (λ (m : ℕ). Below m (dealt workers m w)) (add-one n)
    (subst (λ (xs : List ℕ). Below (n + 1) xs) (sym (dealt_more workers n w)) (below_some (n % workers == w) n (dealt workers n w) (dealt_below workers n w)))

each_made : (f : ℕ → List ℕ) (m : ℕ) → ((w : ℕ) → Below m (f w)) → (a n v : ℕ) → Below m (get_or (map f (range_with_len a n)) v [])
each_made f m h a zero v = λ k l. absurd (omega arith)
each_made f m h a (suc n) zero = h a
each_made f m h a (suc n) (suc v) = each_made f m h (a + 1) n v

abbrev nones : ℕ → List (Option ℕ)
nones n = replicate n None

-- no hand holds a job, and no job has a place
none_at : (n w : ℕ) → get_or (nones n) w None ≡ None
none_at zero w = refl
none_at (suc n) zero = refl
none_at (suc n) (suc w) = none_at n w

none_holds : (n : ℕ) (o : Option ℕ) → o ≡ None → IfSome o (λ job. job < n)
none_holds n None e = tt
none_holds n (Some job) e = absurd cc

abbrev zeros : ℕ → List ℕ
zeros n = replicate n 0

pub zero_at : (n job : ℕ) → get_or (zeros n) job 0 ≡ 0
zero_at zero job = refl
zero_at (suc n) zero = refl
zero_at (suc n) (suc job) = zero_at n job

-- **The start keeps what the machine keeps.**
pub start_state : (workers : ℕ) (lens : List ℕ) → 0 < workers → IsState (pool_start workers lens)
start_state workers lens l =
    let n = length lens in
    record {
      placed = length-replicate n 0;
      staffed = length-map-range_with_len (dealt workers n) 0 workers ∙ sym (length-replicate workers None);
      standing = each_made (dealt workers n) n (dealt_below workers n) 0 workers;
      holding = λ w. none_holds n _ (none_at workers w);
      within = λ job. let z = zero_at n job in omega arith;
      once = λ job h.
          let d = deal_times workers n job l in
          let r = range_once n job h in
          let s = sum_by-replicate (in_hand job) workers None in
          omega arith;
      all =
          let d = deal_length workers n l in
          let s = sum_by-replicate fills workers None in
          omega arith;
    }
