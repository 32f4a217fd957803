-- The deques as the code keeps them: one list of jobs and their workers.
use Rattle.std.proofs.Common.{◌≡◌, refl, sym, ap, ◌∙◌, ℕ, zero, suc, ◌+◌, ◌<◌, ◌≢◌, Bool, true, false, List, [], ◌∷◌, ◌++◌, length, map, take, drop, get_or}
use Rattle.std.proofs.Common.{set, arith}
use Rattle.std.specs.Prelude.{if◌then◌else◌, ◌==◌}
use Rattle.std.specs.List.{range_with_len, sum_by}
use Rattle.std.proofs.lemmas.Bool.{eq-eqb, ne_eqb}
use Rattle.std.proofs.lemmas.List.{append_assoc}
use Rattle.std.proofs.lemmas.List.FromFn.{length-map-range_with_len, get_or-map-range_with_len}
use Rattle.std.proofs.lemmas.List.Sums.{sum_by-set, sum_by-cons}
use Rattle.pool_core.specs.declared.pool.Waiting.{Waiting}
use Rattle.pool_core.specs.Waiting.{jobs_of, deques_of, IsFront}
use Rattle.pool_core.proofs.Start.{set_at}

-- the jobs that one entry adds to a deque
abbrev pub jobs_by : Waiting → ℕ → List ℕ
jobs_by x w = if x.worker == w then x.job ∷ [] else []

cons_by : (t : Bool) (job : ℕ) (jobs : List ℕ) → (if t then job ∷ jobs else jobs) ≡ (if t then job ∷ [] else []) ++ jobs
cons_by true job jobs = refl
cons_by false job jobs = refl

-- the jobs of a worker in two lists of entries
pub jobs_of-append : (xs ys : List Waiting) (w : ℕ) → jobs_of (xs ++ ys) w ≡ jobs_of xs w ++ jobs_of ys w
jobs_of-append [] ys w = refl
jobs_of-append (x ∷ xs) ys w =
    ap (λ jobs. if x.worker == w then x.job ∷ jobs else jobs) (jobs_of-append xs ys w) ∙ cons_by (x.worker == w) x.job (jobs_of xs w ++ jobs_of ys w)
    ∙ sym (append_assoc (jobs_by x w) (jobs_of xs w) (jobs_of ys w)) ∙ ap (λ jobs. jobs ++ jobs_of ys w) (sym (cons_by (x.worker == w) x.job (jobs_of xs w)))

-- ---- one entry more at the back

-- the deque of a worker has its jobs
pub deque_at : (ws : List Waiting) (n w : ℕ) → w < n → get_or (deques_of ws n) w [] ≡ jobs_of ws w
deque_at ws n w l = get_or-map-range_with_len (jobs_of ws) 0 n w w [] l (omega arith)

-- an entry more at the end
pub deques_push : (ws : List Waiting) (n : ℕ) (y : Waiting) → y.worker < n → deques_of (ws ++ y ∷ []) n ≡ set (deques_of ws n) y.worker
    (jobs_of ws y.worker ++ y.job ∷ [])
deques_push ws n y l = set_at (jobs_of (ws ++ y ∷ [])) (jobs_of ws) n y.worker (jobs_of ws y.worker ++ y.job ∷ []) l
    (jobs_of-append ws (y ∷ []) y.worker ∙ ap (λ (t : Bool). jobs_of ws y.worker ++ (if t then y.job ∷ [] else [])) (eq-eqb y.worker y.worker refl))
    (λ w h. jobs_of-append ws (y ∷ []) w ∙ ap (λ (t : Bool). jobs_of ws w ++ (if t then y.job ∷ [] else [])) (ne_eqb y.worker w (λ e. h (sym e)))
    ∙ nothing (jobs_of ws w))
  where
    nothing : (xs : List ℕ) → xs ++ [] ≡ xs
    nothing [] = refl
    nothing (x ∷ xs) = ap (λ ys. x ∷ ys) (nothing xs)

-- ---- the first entry of a worker is taken out

-- the front of a worker behind the first entry
front_tail : (x : Waiting) (ws : List Waiting) (v i : ℕ) → IsFront (x ∷ ws) v (suc i) → IsFront ws v i
front_tail x ws v i f = record { inside = let l = f.inside in omega arith; before = λ j d l. f.before (suc j) d (omega arith); here = f.here }

-- if the first entry of a worker is removed, its jobs lose the first
pub jobs_removed : (ws : List Waiting) (v i : ℕ) (d : Waiting) → IsFront ws v i → jobs_of ws v ≡ (get_or ws i d).job ∷ jobs_of (take i ws ++ drop (suc i) ws) v
jobs_removed [] v i d f = absurd (let l = f.inside in omega arith)
jobs_removed (x ∷ ws) v zero d f = ap (λ (t : Bool). if t then x.job ∷ jobs_of ws v else jobs_of ws v) (eq-eqb x.worker v (f.here d))
jobs_removed (x ∷ ws) v (suc i) d f =
    let e = ne_eqb x.worker v (f.before 0 d (omega arith)) in
    ap (λ (t : Bool). if t then x.job ∷ jobs_of ws v else jobs_of ws v) e ∙ jobs_removed ws v i d (front_tail x ws v i f)
    ∙ ap (λ jobs. (get_or ws i d).job ∷ jobs)
    (sym (ap (λ (t : Bool). if t then x.job ∷ jobs_of (take i ws ++ drop (suc i) ws) v else jobs_of (take i ws ++ drop (suc i) ws) v) e))

-- if the first entry of a worker is removed, the jobs of others stay
jobs_others : (ws : List Waiting) (v i w : ℕ) → IsFront ws v i → w ≢ v → jobs_of (take i ws ++ drop (suc i) ws) w ≡ jobs_of ws w
jobs_others [] v i w f h = absurd (let l = f.inside in omega arith)
jobs_others (x ∷ ws) v zero w f h = sym (ap (λ (t : Bool). if t then x.job ∷ jobs_of ws w else jobs_of ws w) (ne_eqb x.worker w (λ e. h (sym e ∙ f.here x))))
jobs_others (x ∷ ws) v (suc i) w f h = ap (λ jobs. if x.worker == w then x.job ∷ jobs else jobs) (jobs_others ws v i w (front_tail x ws v i f) h)

-- so one deque loses its front
pub deques_removed : (ws : List Waiting) (n v i : ℕ) (jobs : List ℕ) → IsFront ws v i → v < n → jobs_of (take i ws ++ drop (suc i) ws) v ≡ jobs →
    deques_of (take i ws ++ drop (suc i) ws) n ≡ set (deques_of ws n) v jobs
deques_removed ws n v i jobs f l e = set_at (jobs_of (take i ws ++ drop (suc i) ws)) (jobs_of ws) n v jobs l e (λ w h. jobs_others ws v i w f h)

-- no entry is of a worker
pub jobs_none : (ws : List Waiting) (v : ℕ) → ((j : ℕ) (d : Waiting) → j < length ws → (get_or ws j d).worker ≢ v) → jobs_of ws v ≡ []
jobs_none [] v h = refl
jobs_none (x ∷ ws) v h = ap (λ (t : Bool). if t then x.job ∷ jobs_of ws v else jobs_of ws v) (ne_eqb x.worker v (h 0 x (omega arith)))
    ∙ jobs_none ws v (λ j d l. h (suc j) d (omega arith))

-- ---- how many wait

-- an entry in front
pub deques_cons : (x : Waiting) (ws : List Waiting) (n : ℕ) → x.worker < n → deques_of (x ∷ ws) n ≡ set (deques_of ws n) x.worker (x.job ∷ jobs_of ws x.worker)
deques_cons x ws n l = set_at (jobs_of (x ∷ ws)) (jobs_of ws) n x.worker (x.job ∷ jobs_of ws x.worker) l
    (ap (λ (t : Bool). if t then x.job ∷ jobs_of ws x.worker else jobs_of ws x.worker) (eq-eqb x.worker x.worker refl))
    (λ w h. ap (λ (t : Bool). if t then x.job ∷ jobs_of ws w else jobs_of ws w) (ne_eqb x.worker w (λ e. h (sym e))))

-- no entries, no jobs
no_entries : (a n : ℕ) → sum_by length (map (jobs_of []) (range_with_len a n)) ≡ 0
no_entries a zero = refl
no_entries a (suc n) = let i = no_entries (a + 1) n in sum_by-cons length [] (map (jobs_of []) (range_with_len (a + 1) n)) ∙ omega arith

-- the deques have as many jobs as there are entries
pub waiting_length : (ws : List Waiting) (n : ℕ) → ((k : ℕ) (d : Waiting) → k < length ws → (get_or ws k d).worker < n) → sum_by length (deques_of ws n)
    ≡ length ws
waiting_length [] n h = no_entries 0 n
waiting_length (x ∷ ws) n h =
    let l = h 0 x (omega arith) in
    let i = waiting_length ws n (λ k d m. h (suc k) d (omega arith)) in
    let e = ap (sum_by length) (deques_cons x ws n l) in
    let s = sum_by-set length (deques_of ws n) x.worker (x.job ∷ jobs_of ws x.worker) [] (let m = length-map-range_with_len (jobs_of ws) 0 n in omega arith) in
    let a = ap length (deque_at ws n x.worker l) in
    omega arith
