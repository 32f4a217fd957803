-- What the machine keeps at each step.
use Rattle.std.proofs.Common.{◌≡◌, refl, sym, ap, ◌∙◌, subst, ℕ, zero, suc, ◌+◌, ◌<◌, ◌≤◌, Bool, true, false, Option, Some, None, List, [], ◌∷◌, ◌++◌, length}
use Rattle.std.proofs.Common.{get_or, set, arith, inl, inr}
use Rattle.std.specs.Prelude.{nat_lt, if◌then◌else◌, not, ◌&&◌, ◌==◌, is_none, IfSome}
use Rattle.std.proofs.lemmas.Bool.{and_parts, ltb-true, cases_eq, cases_lt}
use Rattle.std.proofs.lemmas.List.{length-set, length-append, get_or-set_same, get_or-set_other}
use Rattle.std.proofs.lemmas.List.Sums.{sum_by-set, sum_by-append, sum_by-cons}
use Rattle.pool_core.specs.declared.step.PoolStep.{PoolStep}
use Rattle.pool_core.specs.declared.step.PoolStep.TheVariants.{Pop, Steal, Run, Push, Finish}
use Rattle.pool_core.specs.Machine.{PoolState, deque, hand, is_worker, is_empty, can_take, is_under_way, is_complete, is_legal, taken, run, pushed, completed}
use Rattle.pool_core.specs.Machine.{moved, stepped, is_job, times_in, in_hand, fills, TakesJob, IsState}

-- one item more
pub times_more : (job : ℕ) (xs : List ℕ) (x : ℕ) → times_in job (xs ++ x ∷ []) ≡ times_in job xs + is_job job x
times_more job xs x = sum_by-append (is_job job) xs (x ∷ []) ∙ ap (λ n. times_in job xs + n) (sum_by-cons (is_job job) x [] ∙ omega arith)

-- ---- what a legal step shows

-- a free hand
none_of : (o : Option ℕ) → is_none o ≡ true → o ≡ None
none_of None e = refl
none_of (Some x) e = cc

-- what a legal step tells of its workers
pub legal_pop : (s : PoolState) (w : ℕ) → is_legal s (Pop w) ≡ true → TakesJob s w w
legal_pop s w e =
    let p = and_parts (is_worker s w) (can_take s w w) e in
    let q = and_parts (is_none (hand s w)) (not (is_empty (deque s w))) p.1 in
    let l = ltb-true w (length s.hands) p.0 in
    record { worker = l; victim = l; free = none_of _ q.0 }

pub legal_steal : (s : PoolState) (t v : ℕ) → is_legal s (Steal t v) ≡ true → TakesJob s t v
legal_steal s t v e =
    let p = and_parts (is_worker s t && is_worker s v && not (t == v)) (can_take s t v) e in
    let q = and_parts (is_worker s t && is_worker s v) (not (t == v)) p.0 in
    let r = and_parts (is_worker s t) (is_worker s v) q.0 in
    let f = and_parts (is_none (hand s t)) (not (is_empty (deque s v))) p.1 in
    record { worker = ltb-true t (length s.hands) r.0; victim = ltb-true v (length s.hands) r.1; free = none_of _ f.0 }

pub legal_push : (s : PoolState) (w : ℕ) → is_legal s (Push w) ≡ true → w < length s.hands
legal_push s w e = ltb-true w (length s.hands) (and_parts (is_worker s w) (is_under_way s (hand s w)) e).0

pub legal_finish : (s : PoolState) (w : ℕ) → is_legal s (Finish w) ≡ true → w < length s.hands
legal_finish s w e = ltb-true w (length s.hands) (and_parts (is_worker s w) (is_complete s (hand s w)) e).0

-- ---- each part of a step

-- a hand that is set
hands_set : (hands : List (Option ℕ)) (w : ℕ) (o : Option ℕ) (P : ℕ → Type 0) → IfSome o P → ((v : ℕ) → IfSome (get_or hands v None) P) → (v : ℕ) →
    IfSome (get_or (set hands w o) v None) P
hands_set [] w o P h all v = all v
hands_set (x ∷ xs) zero o P h all zero = h
hands_set (x ∷ xs) zero o P h all (suc v) = all (suc v)
hands_set (x ∷ xs) (suc w) o P h all zero = all zero
hands_set (x ∷ xs) (suc w) o P h all (suc v) = hands_set xs w o P h (λ u. all (suc u)) v

-- a deque that is set
abbrev pub Below : ℕ → List ℕ → Type 0
Below n jobs = (k : ℕ) → k < length jobs → get_or jobs k 0 < n

-- one deque is changed, and each still has jobs of the pool alone
deques_set : (n : ℕ) (deques : List (List ℕ)) (w : ℕ) (jobs : List ℕ) → Below n jobs → ((v : ℕ) → Below n (get_or deques v [])) → (v : ℕ) →
    Below n (get_or (set deques w jobs) v [])
deques_set n [] w jobs h all v = all v
deques_set n (x ∷ xs) zero jobs h all zero = h
deques_set n (x ∷ xs) zero jobs h all (suc v) = all (suc v)
deques_set n (x ∷ xs) (suc w) jobs h all zero = all zero
deques_set n (x ∷ xs) (suc w) jobs h all (suc v) = deques_set n xs w jobs h (λ u. all (suc u)) v

-- a list without its first job, and one with a job more
below_tail : (n job : ℕ) (jobs : List ℕ) → Below n (job ∷ jobs) → Below n jobs
below_tail n job jobs h k l = h (suc k) (omega arith)

pub below_more : (n job : ℕ) (jobs : List ℕ) → Below n jobs → job < n → Below n (jobs ++ job ∷ [])
below_more n job [] h l zero m = l
below_more n job [] h l (suc k) m = absurd (omega arith)
below_more n job (x ∷ xs) h l zero m = h 0 (omega arith)
below_more n job (x ∷ xs) h l (suc k) m = below_more n job xs (λ k q. h (suc k) (omega arith)) l k (omega arith)

-- a job from a deque into a hand
pub taken_keeps : (s : PoolState) (w v : ℕ) (jobs : List ℕ) → IsState s → TakesJob s w v → deque s v ≡ jobs → IsState (taken s w v jobs)
taken_keeps s w v [] i t e = i
taken_keeps s w v (job ∷ jobs) i t e =
    let b : Below (length s.lens) (job ∷ jobs) = subst (λ (xs : List ℕ). Below (length s.lens) xs) e (i.standing v) in
    let l : v < length s.deques = omega (arith, i.staffed, t.victim) in
    record {
      placed = i.placed;
      staffed = length-set s.deques v jobs ∙ i.staffed ∙ sym (length-set s.hands w (Some job));
      standing = deques_set (length s.lens) s.deques v jobs (below_tail (length s.lens) job jobs b) i.standing;
      holding = hands_set s.hands w (Some job) (λ job. job < length s.lens) (b 0 (omega arith)) i.holding;
      within = i.within;
      once = λ j h.
          let d = sum_by-set (times_in j) s.deques v jobs [] l in
          let f = sum_by-set (in_hand j) s.hands w (Some job) None t.worker in
          let o = i.once j h in
          let p = ap (times_in j) e ∙ sum_by-cons (is_job j) job jobs in
          let q = ap (in_hand j) t.free in
          omega arith;
      all =
          let d = sum_by-set length s.deques v jobs [] l in
          let f = sum_by-set fills s.hands w (Some job) None t.worker in
          let p = ap length e in
          let q = ap fills t.free in
          omega (arith, i.all);
    }

-- a run keeps what the machine keeps
pub run_keeps : (s : PoolState) (w p : ℕ) (o : Option ℕ) → IsState s → hand s w ≡ o → IsState (run s p o)
run_keeps s w p None i e = i
run_keeps s w p (Some job) i e = record {
  placed = length-set s.places job _ ∙ i.placed;
  staffed = i.staffed;
  standing = i.standing;
  holding = i.holding;
  within = within_set s.places s.lens job _ (omega arith) i.within;
  once = i.once;
  all = i.all;
}
  where
    within_set : (places lens : List ℕ) (job n : ℕ) → n ≤ get_or lens job 0 → ((j : ℕ) → get_or places j 0 ≤ get_or lens j 0) → (j : ℕ) →
        get_or (set places job n) j 0 ≤ get_or lens j 0
    within_set places lens job n h all j = elim (cases_eq j job) [
      | inl p ↦ elim (cases_lt job (length places)) [
        | inl l ↦ let e = ap (λ (j : ℕ). get_or (set places job n) j 0) p ∙ get_or-set_same places job n 0 l in let f = ap (λ (j : ℕ). get_or lens j 0) p in
            omega arith
        | inr l ↦ past places lens job n l j all
      ]
      | inr q ↦ let e = get_or-set_other places job j n 0 q in let a = all j in omega arith
    ]
      where
        past : (places lens : List ℕ) (job n : ℕ) → length places ≤ job → (j : ℕ) → ((j : ℕ) → get_or places j 0 ≤ get_or lens j 0) →
            get_or (set places job n) j 0 ≤ get_or lens j 0
        past places lens job n l j all = subst (λ (xs : List ℕ). get_or xs j 0 ≤ get_or lens j 0) (sym (same places job n l)) (all j)
          where
            same : (xs : List ℕ) (i n : ℕ) → length xs ≤ i → set xs i n ≡ xs
            same [] i n l = refl
            same (x ∷ xs) zero n l = absurd (omega arith)
            same (x ∷ xs) (suc i) n l = ap (λ ys. x ∷ ys) (same xs i n (omega arith))

-- a hand holds a job of the pool
held_below : (s : PoolState) (w job : ℕ) → IsState s → hand s w ≡ Some job → job < length s.lens
held_below s w job i e = subst (λ (o : Option ℕ). IfSome o (λ job. job < length s.lens)) e (i.holding w)

-- a push keeps what the machine keeps
pub pushed_keeps : (s : PoolState) (w : ℕ) (o : Option ℕ) → IsState s → w < length s.hands → hand s w ≡ o → IsState (pushed s w o)
pushed_keeps s w None i lw e = i
pushed_keeps s w (Some job) i lw e =
    let l : w < length s.deques = omega (arith, i.staffed) in
    let jobs : List ℕ = deque s w ++ job ∷ [] in
    record {
      placed = i.placed;
      staffed = length-set s.deques w jobs ∙ i.staffed ∙ sym (length-set s.hands w None);
      standing = deques_set (length s.lens) s.deques w jobs (below_more (length s.lens) job (deque s w) (i.standing w) (held_below s w job i e)) i.standing;
      holding = hands_set s.hands w None (λ job. job < length s.lens) tt i.holding;
      within = i.within;
      once = λ j h.
          let d = sum_by-set (times_in j) s.deques w jobs [] l in
          let f = sum_by-set (in_hand j) s.hands w None None lw in
          let o = i.once j h in
          let p = times_more j (deque s w) job in
          let q = ap (in_hand j) e in
          omega arith;
      all =
          let d = sum_by-set length s.deques w jobs [] l in
          let f = sum_by-set fills s.hands w None None lw in
          let p = length-append (deque s w) (job ∷ []) in
          let q = ap fills e in
          omega (arith, i.all);
    }

-- a finish keeps what the machine keeps
pub completed_keeps : (s : PoolState) (w : ℕ) (o : Option ℕ) → IsState s → w < length s.hands → hand s w ≡ o → IsState (completed s w o)
completed_keeps s w None i lw e = i
completed_keeps s w (Some job) i lw e = record {
  placed = i.placed;
  staffed = i.staffed ∙ sym (length-set s.hands w None);
  standing = i.standing;
  holding = hands_set s.hands w None (λ job. job < length s.lens) tt i.holding;
  within = i.within;
  once = λ j h.
      let f = sum_by-set (in_hand j) s.hands w None None lw in
      let o = i.once j h in
      let p = times_more j s.finished job in
      let q = ap (in_hand j) e in
      omega arith;
  all =
      let f = sum_by-set fills s.hands w None None lw in
      let p = length-append s.finished (job ∷ []) in
      let q = ap fills e in
      omega (arith, i.all);
}

-- any legal step keeps what the machine keeps
pub moved_keeps : (s : PoolState) (x : PoolStep) → IsState s → is_legal s x ≡ true → IsState (moved s x)
moved_keeps s (Pop w) i e = taken_keeps s w w (deque s w) i (legal_pop s w e) refl
moved_keeps s (Steal t v) i e = taken_keeps s t v (deque s v) i (legal_steal s t v e) refl
moved_keeps s (Run w p) i e = run_keeps s w p (hand s w) i refl
moved_keeps s (Push w) i e = pushed_keeps s w (hand s w) i (legal_push s w e) refl
moved_keeps s (Finish w) i e = completed_keeps s w (hand s w) i (legal_finish s w e) refl

-- any step keeps what the machine keeps
pub stepped_keeps : (s : PoolState) (x : PoolStep) → IsState s → IsState (stepped s x)
stepped_keeps s x i = by s x i (is_legal s x) refl
  where
    by : (s : PoolState) (x : PoolStep) → IsState s → (b : Bool) → is_legal s x ≡ b → IsState (if b then moved s x else s)
    by s x i true e = moved_keeps s x i e
    by s x i false e = i
