-- What the code's steps do to its lists, and what these keep.
use Rattle.std.proofs.Common.{Bool, ◌≡◌, refl, sym, ap, ◌∙◌, subst, ℕ, zero, suc, ◌+◌, ◌<◌, ◌≤◌, true, false, Option, Some, None, List, [], ◌∷◌, ◌++◌, length}
use Rattle.std.proofs.Common.{map, take, drop, get_or, set, replicate, arith}
use Rattle.std.specs.Prelude.{◌%◌, if◌then◌else◌, ◌==◌, ◌&&◌, not, is_none, is_some, IfSome}
use Rattle.std.specs.List.{range_with_len}
use Rattle.std.proofs.lemmas.List.{length-set, length-replicate, get_or_default}
use Rattle.std.proofs.lemmas.List.Sums.{sum_by-set}
use Rattle.pool_core.specs.declared.pool.Waiting.{Waiting}
use Rattle.pool_core.specs.Machine.{pool_start, dealt, deque, hand, is_empty, can_take, taken, pushed, completed, fills, TakesJob, IsState}
use Rattle.pool_core.specs.Waiting.{jobs_of, deques_of, pool_state, IsFront, IsPool}
use Rattle.pool_core.proofs.Keeps.{taken_keeps, pushed_keeps, completed_keeps}
use Rattle.pool_core.proofs.Start.{dealt_more, start_state}
use Rattle.pool_core.proofs.Rows.{jobs_of-append, deque_at, deques_push, jobs_removed, deques_removed, waiting_length}

abbrev pub Owned : List Waiting → ℕ → Type 0
Owned ws n = (k : ℕ) (d : Waiting) → k < length ws → (get_or ws k d).worker < n

-- each entry has a worker of the pool, with one entry more and with one removed
pub owned_more : (ws : List Waiting) (y : Waiting) (n : ℕ) → Owned ws n → y.worker < n → Owned (ws ++ y ∷ []) n
owned_more [] y n h l zero d m = l
owned_more [] y n h l (suc k) d m = absurd (omega arith)
owned_more (x ∷ ws) y n h l zero d m = h 0 d (omega arith)
owned_more (x ∷ ws) y n h l (suc k) d m = owned_more ws y n (λ j e q. h (suc j) e (omega arith)) l k d (omega arith)

owned_removed : (ws : List Waiting) (i n : ℕ) → Owned ws n → Owned (take i ws ++ drop (suc i) ws) n
owned_removed [] zero n h k d m = absurd (omega arith)
owned_removed [] (suc i) n h k d m = absurd (omega arith)
owned_removed (x ∷ ws) zero n h k d m = h (suc k) d (omega arith)
owned_removed (x ∷ ws) (suc i) n h zero d m = h 0 d (omega arith)
owned_removed (x ∷ ws) (suc i) n h (suc k) d m = owned_removed ws i n (λ j e q. h (suc j) e (omega arith)) k d (omega arith)

-- ---- the start

-- one job more is dealt
pub jobs_dealt : (ws : List Waiting) (workers n : ℕ) → ((w : ℕ) → jobs_of ws w ≡ dealt workers n w) → (w : ℕ) →
    jobs_of (ws ++ record { job = n; worker = n % workers } ∷ []) w ≡ dealt workers (n + 1) w
jobs_dealt ws workers n h w =
    jobs_of-append ws (record { job = n; worker = n % workers } ∷ []) w
    ∙ ap (λ jobs. jobs ++ (if n % workers == w then n ∷ [] else [])) (h w) ∙ sym (dealt_more workers n w)

-- the state of a new pool is the machine's at its start
pub new_state : (lens : List ℕ) (ws : List Waiting) (workers : ℕ) → ((w : ℕ) → jobs_of ws w ≡ dealt workers (length lens) w) →
    pool_state lens (replicate (length lens) 0) ws (replicate workers None) [] ≡ pool_start workers lens
new_state lens ws workers h =
    ap (λ n. record { lens = lens; places = replicate (length lens) 0; deques = deques_of ws n; hands = replicate workers None; finished = [] })
    (length-replicate workers None)
    ∙ ap (λ (f : ℕ → List ℕ). record {
      lens = lens;
      places = replicate (length lens) 0;
      deques = map f (range_with_len 0 workers);
      hands = replicate workers None;
      finished = [];
    })
    (let e : jobs_of ws ≡ dealt workers (length lens) = λ i. λ w. h w i in e)

-- what the code keeps of it
pub new_pool : (lens : List ℕ) (ws : List Waiting) (workers : ℕ) → 0 < workers → workers ≤ 64 → ((w : ℕ) → jobs_of ws w ≡ dealt workers (length lens) w) →
    Owned ws workers →
    IsPool lens (replicate (length lens) 0) ws (replicate workers None) []
new_pool lens ws workers some few h owned =
    let none : Option ℕ = None in
    let n = length-replicate workers none in
    record {
      workers = omega arith;
      owned = λ k d l. let o = owned k d l in omega arith;
      state = subst IsState (sym (new_state lens ws workers h)) (start_state workers lens some);
    }

-- the same, by the lists that the code makes
pub new_state_by : (given lens places : List ℕ) (ws : List Waiting) (hands : List (Option ℕ)) (finished : List ℕ) (workers : ℕ) → lens ≡ given →
    places ≡ replicate (length given) 0 → hands ≡ replicate workers None → finished ≡ [] →
    ((w : ℕ) → jobs_of ws w ≡ dealt workers (length given) w) → pool_state lens places ws hands finished ≡ pool_start workers given
new_state_by given lens places ws hands finished workers l p h f d =
    ap (λ x. pool_state x places ws hands finished) l ∙ ap (λ x. pool_state given x ws hands finished) p
    ∙ ap (λ x. pool_state given (replicate (length given) 0) ws x finished) h
    ∙ ap (λ x. pool_state given (replicate (length given) 0) ws (replicate workers None) x) f ∙ new_state given ws workers d

pub new_pool_by : (given lens places : List ℕ) (ws : List Waiting) (hands : List (Option ℕ)) (finished : List ℕ) (workers : ℕ) → lens ≡ given →
    places ≡ replicate (length given) 0 → hands ≡ replicate workers None → finished ≡ [] →
    0 < workers → workers ≤ 64 → ((w : ℕ) → jobs_of ws w ≡ dealt workers (length given) w) → Owned ws workers → IsPool lens places ws hands finished
new_pool_by given lens places ws hands finished workers l p h f some few d owned =
    subst (λ (x : List ℕ). IsPool x places ws hands finished) (sym l)
    (subst (λ (x : List ℕ). IsPool given x ws hands finished) (sym p)
    (subst (λ (x : List (Option ℕ)). IsPool given (replicate (length given) 0) ws x finished) (sym h)
    (subst (λ (x : List ℕ). IsPool given (replicate (length given) 0) ws (replicate workers None) x) (sym f) (new_pool given ws workers some few d owned))))

-- ---- a job is taken

-- the entry in front of a worker's is the front of its deque
front_jobs : (ws : List Waiting) (n v i : ℕ) (d : Waiting) → IsFront ws v i → v < n → get_or (deques_of ws n) v [] ≡ (get_or ws i d).job ∷ jobs_of
    (take i ws ++ drop (suc i) ws) v
front_jobs ws n v i d f l = deque_at ws n v l ∙ jobs_removed ws v i d f

pub front_some : (ws : List Waiting) (n v i : ℕ) → IsFront ws v i → v < n → is_empty (get_or (deques_of ws n) v []) ≡ false
front_some ws n v i f l = ap is_empty (front_jobs ws n v i (record { job = 0; worker = 0 }) f l)

-- a worker without an entry has an empty deque
pub front_none : (ws : List Waiting) (n v : ℕ) → jobs_of ws v ≡ [] → v < n → is_empty (get_or (deques_of ws n) v []) ≡ true
front_none ws n v e l = ap is_empty (deque_at ws n v l ∙ e)

-- nothing is taken of an empty deque
pub taken_none : (lens places : List ℕ) (ws : List Waiting) (hands : List (Option ℕ)) (finished : List ℕ) (w v : ℕ) → jobs_of ws v ≡ [] → v < length hands →
    pool_state lens places ws hands finished ≡ taken (pool_state lens places ws hands finished) w v (deque (pool_state lens places ws hands finished) v)
taken_none lens places ws hands finished w v e l =
    let s = pool_state lens places ws hands finished in
    sym (ap (taken s w v) (deque_at ws (length hands) v l ∙ e))

-- to remove the entry and put its job into a hand is to take it
pub taken_state : (lens places : List ℕ) (ws : List Waiting) (hands : List (Option ℕ)) (finished : List ℕ) (w v i : ℕ) (d : Waiting) → IsFront ws v i →
    v < length hands →
    pool_state lens places (take i ws ++ drop (suc i) ws) (set hands w (Some (get_or ws i d).job)) finished
    ≡ taken (pool_state lens places ws hands finished) w v (deque (pool_state lens places ws hands finished) v)
taken_state lens places ws hands finished w v i d f l =
    let s = pool_state lens places ws hands finished in
    let ms : List Waiting = take i ws ++ drop (suc i) ws in
    let job = (get_or ws i d).job in
    ap (λ n. record { lens = lens; places = places; deques = deques_of ms n; hands = set hands w (Some job); finished = finished })
    (length-set hands w (Some job))
    ∙ ap (λ ds. record { lens = lens; places = places; deques = ds; hands = set hands w (Some job); finished = finished })
    (deques_removed ws (length hands) v i (jobs_of ms v) f l refl)
    ∙ sym (ap (taken s w v) (front_jobs ws (length hands) v i d f l))

-- after a job is taken the pool is still one
pub taken_pool : (lens places : List ℕ) (ws : List Waiting) (hands : List (Option ℕ)) (finished : List ℕ) (w v i : ℕ) (d : Waiting) →
    IsPool lens places ws hands finished → IsFront ws v i →
    TakesJob (pool_state lens places ws hands finished) w v → IsPool lens places (take i ws ++ drop (suc i) ws) (set hands w (Some (get_or ws i d).job))
    finished
taken_pool lens places ws hands finished w v i d p f t =
    let s = pool_state lens places ws hands finished in
    let n = length-set hands w (Some (get_or ws i d).job) in
    record {
      workers = omega (arith, p.workers);
      owned = λ k e l. let o = owned_removed ws i (length hands) p.owned k e l in omega arith;
      state = subst IsState (sym (taken_state lens places ws hands finished w v i d f t.victim)) (taken_keeps s w v (deque s v) p.state t refl);
    }

-- ---- a job is pushed

-- to put the job of a hand behind the entries is to push it
pub pushed_state : (lens places : List ℕ) (ws : List Waiting) (hands : List (Option ℕ)) (finished : List ℕ) (w job : ℕ) → w < length hands → get_or hands w None
    ≡ Some job →
    pool_state lens places (ws ++ record { job = job; worker = w } ∷ []) (set hands w None) finished ≡ pushed (pool_state lens places ws hands finished) w
    (hand (pool_state lens places ws hands finished) w)
pushed_state lens places ws hands finished w job l e =
    let s = pool_state lens places ws hands finished in
    let y : Waiting = record { job = job; worker = w } in
    ap (λ n. record { lens = lens; places = places; deques = deques_of (ws ++ y ∷ []) n; hands = set hands w None; finished = finished })
    (length-set hands w None)
    ∙ ap (λ ds. record { lens = lens; places = places; deques = ds; hands = set hands w None; finished = finished }) (deques_push ws (length hands) y l)
    ∙ ap (λ jobs.
    record { lens = lens; places = places; deques = set (deques_of ws (length hands)) w (jobs ++ job ∷ []); hands = set hands w None; finished = finished })
    (sym (deque_at ws (length hands) w l))
    ∙ sym (ap (pushed s w) e)

pub pushed_pool : (lens places : List ℕ) (ws : List Waiting) (hands : List (Option ℕ)) (finished : List ℕ) (w job : ℕ) → IsPool lens places ws hands finished →
    w < length hands → get_or hands w None ≡ Some job →
    IsPool lens places (ws ++ record { job = job; worker = w } ∷ []) (set hands w None) finished
pushed_pool lens places ws hands finished w job p l e =
    let s = pool_state lens places ws hands finished in
    let n = length-set hands w None in
    record {
      workers = omega (arith, p.workers);
      owned = λ k d m. let o = owned_more ws (record { job = job; worker = w }) (length hands) p.owned l k d m in omega arith;
      state = subst IsState (sym (pushed_state lens places ws hands finished w job l e)) (pushed_keeps s w (hand s w) p.state l refl);
    }

-- the job in a hand is done
pub completed_state : (lens places : List ℕ) (ws : List Waiting) (hands : List (Option ℕ)) (finished : List ℕ) (w job : ℕ) → get_or hands w None ≡ Some job →
    pool_state lens places ws (set hands w None) (finished ++ job ∷ []) ≡ completed (pool_state lens places ws hands finished) w
    (hand (pool_state lens places ws hands finished) w)
completed_state lens places ws hands finished w job e =
    ap (λ n. record { lens = lens; places = places; deques = deques_of ws n; hands = set hands w None; finished = finished ++ job ∷ [] })
    (length-set hands w None)
    ∙ sym (ap (completed (pool_state lens places ws hands finished) w) e)

pub completed_pool : (lens places : List ℕ) (ws : List Waiting) (hands : List (Option ℕ)) (finished : List ℕ) (w job : ℕ) → IsPool lens places ws hands finished →
    w < length hands → get_or hands w None ≡ Some job → IsPool lens places ws (set hands w None) (finished ++ job ∷ [])
completed_pool lens places ws hands finished w job p l e =
    let s = pool_state lens places ws hands finished in
    let n = length-set hands w None in
    record {
      workers = omega (arith, p.workers);
      owned = λ k d m. let o = p.owned k d m in omega arith;
      state = subst IsState (sym (completed_state lens places ws hands finished w job e)) (completed_keeps s w (hand s w) p.state l refl);
    }

-- while a hand holds a job, not all jobs are done
pub done_room : (lens places : List ℕ) (ws : List Waiting) (hands : List (Option ℕ)) (finished : List ℕ) (w job : ℕ) → IsPool lens places ws hands finished →
    w < length hands → get_or hands w None ≡ Some job → length finished < length lens
done_room lens places ws hands finished w job p l e =
    let b = sum_by-set fills hands w None None l in
    let c = ap fills e in
    omega (arith, p.state.all)

-- while a hand holds a job, not all jobs wait
pub room : (lens places : List ℕ) (ws : List Waiting) (hands : List (Option ℕ)) (finished : List ℕ) (w job : ℕ) → IsPool lens places ws hands finished →
    w < length hands → get_or hands w None ≡ Some job →
    length ws < length lens
room lens places ws hands finished w job p l e =
    let a = waiting_length ws (length hands) p.owned in
    let b = sum_by-set fills hands w None None l in
    let c = ap fills e in
    omega (arith, p.state.all)

-- a hand that is read
pub hand_at : (hands : List (Option ℕ)) (w : ℕ) (read o : Option ℕ) → w < length hands → read ≡ get_or hands w read → read ≡ o → get_or hands w None ≡ o
hand_at hands w read o l e q = get_or_default hands w None read l ∙ sym e ∙ q

-- a hand without a job is free
pub none_free : (o : Option ℕ) (b : Bool) → is_some o ≡ not b → b ≡ true → is_none o ≡ true
none_free None b e q = refl
none_free (Some x) b e q = cc

-- whether a job can be taken, by the front that was looked for
pub can_take_is : (lens places : List ℕ) (ws : List Waiting) (hands : List (Option ℕ)) (finished : List ℕ) (w v : ℕ) (o : Option ℕ) →
    is_none (get_or hands w None) ≡ true → v < length hands →
    IfSome o (IsFront ws v) → (is_some o ≡ false → jobs_of ws v ≡ []) → is_some o ≡ can_take (pool_state lens places ws hands finished) w v
can_take_is lens places ws hands finished w v None free l found none =
    sym (ap (λ (t : Bool). is_none (get_or hands w None) && not t) (front_none ws (length hands) v (none refl) l) ∙ ap (λ (t : Bool). t && false) free)
can_take_is lens places ws hands finished w v (Some i) free l found none =
    sym (ap (λ (t : Bool). is_none (get_or hands w None) && not t) (front_some ws (length hands) v i found l) ∙ ap (λ (t : Bool). t && true) free)
