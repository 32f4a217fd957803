-- For crates above: each call ends within its run (`end_within_run`).
-- How many of its periods a call has had at the clock.
use Rattle.std.proofs.Common.{◌≡◌, refl, sym, ap, ◌∙◌, subst, ℕ, ◌+◌, ◌-◌, ◌<◌, ◌≤◌, Bool, true, false, ◌&&◌, Option, Some, None, List, [], ◌∷◌, inl, inr}
use Rattle.std.proofs.Common.{◌⊎◌, arith}
use Rattle.std.specs.Prelude.{min, is_some, IfSome, nat_lt, nat_le, find, option_map, if◌then◌else◌}
use Rattle.std.proofs.lemmas.Bool.{lt-ltb, ltb-true, leb-false, cases_lt, true≢false}
use Rattle.std.proofs.lemmas.List.Elements.{recursion_from_All}
use Rattle.trau_orders.specs.declared.order.Order.{Order}
use Rattle.switchboard.specs.Calls.{Done, is_this, opened_by, opened_at, closed_at, is_open, gone_at}
use Rattle.switchboard.specs.Ends.{start_of, end_of, ends_at, lack_of}
use Rattle.trau_io.specs.declared.ends.CallEnd.{CallEnd}
use Rattle.trau_io.specs.declared.ends.Cause.TheVariants.{Limit}
use Rattle.switchboard.specs.State.{first_stamp}
use Rattle.switchboard.proofs.Orders.OneMore.{or_else}
use Rattle.run_spec.specs.Run.{Run, given_in, whole_in, done_in, start_in, end_in, cause_in, IsOpened, worked_to}
use Rattle.run_spec.specs.Now.{IsSoFar, NoOrderTo, has_period}
use Rattle.run_spec.proofs.Lists.{found}
use Rattle.run_spec.proofs.Orders.Executed.{opened-append}
use Rattle.run_spec.proofs.Orders.OpenCalls.{gone_is, shut_cases}
use Rattle.switchboard.proofs.Boards.Whole.{end_by}
use Rattle.run_spec.proofs.Periods.Settled.{start_is, closed_stamp, at_of, ends_has}
use Rattle.run_spec.proofs.Periods.SoFar.{standing_now, standing_rest, standing_end, done-rest, rest_in, rest_above, rest_from, so_far_later}
use Rattle.run_spec.proofs.Ending.{end_closed, end_lacks}
use Rattle.run_spec.proofs.Periods.Next.{opened_run}
use Rattle.farm_run.specs.Runs.{IsCutOff}
use Rattle.farm_run.proofs.Rounds.Taken.{IsRound, places_in, ends_within}
use Rattle.farm_run.proofs.Rounds.Open.{open_at, no_order, has_period_in}
use Rattle.farm_run.proofs.Rounds.Ends.{ends_there, start_kept}

-- ---- a call that is open

-- **In a round it gets as far as its lines give, where the run ends it if that isn't the round's end.**
pub end_after : (r : Run) (t n : ℕ) (ds : List Done) (left : List Order) (c : ℕ) →
    IsRound r t n ds left → is_open (gone_at (whole_in r) t ds) ds c ≡ true →
    min (t + n) (end_in r c) ≡ t + places_in r ds t n c
end_after r t n ds left c h o = elim (cases_lt (places_in r ds t n c) n) [
  | inl l ↦
      let ends : ends_within r ds t n c ≡ true = ap (λ (b : Bool). b && nat_lt (places_in r ds t n c) n) o ∙ lt-ltb (places_in r ds t n c) n l in
      fewer (places_in r ds t n c) (end_in r c) l (ends_there r t n ds left c h ends)
  | inr l ↦ all (places_in r ds t n c) (end_in r c) l (most n (start_of ds c + whole_in r c - t)) (far l)
]
  where
    fewer : (m e : ℕ) → m < n → e ≡ t + m → min (t + n) e ≡ t + m
    fewer m e l q = omega arith

    all : (m e : ℕ) → n ≤ m → m ≤ n → t + n ≤ e → min (t + n) e ≡ t + m
    all m e l k f = omega arith

    most : (n m : ℕ) → min n m ≤ n
    most n m = omega arith

    far : n ≤ places_in r ds t n c → t + n ≤ end_in r c
    far l =
        let some = h.some in
        let within = h.within in
        let at = open_at r t ds c (standing_now r t ds left h.so_far) o in
        let has : has_period r ds (t + (n - 1)) c ≡ true = has_period_in r t n ds c (n - 1) at.unclosed h.within (omega arith)
        ∙ lt-ltb (n - 1) (places_in r ds t n c) (below (places_in r ds t n c) some l) in
        let e = ends_has (given_in r) r.periods t (t + (n - 1)) ds (rest_in r ds left) c (start_of ds c) (standing_now r t ds left h.so_far) (omega arith)
        (standing_rest r t ds left h.so_far) (omega arith)
        (rest_above r t (t + (n - 1)) ds left h.so_far (no_order r t n ds left (t + (n - 1)) h (omega arith))) at.opened in
        past (end_in r c) some (ltb-true (t + (n - 1)) (end_in r c)
        (ap (λ (ds : List Done). nat_lt (t + (n - 1)) (ends_at (given_in r) r.periods ds c)) (done-rest r t ds left h.so_far) ∙ e ∙ has))
      where
        below : (m : ℕ) → 1 ≤ n → n ≤ m → n - 1 < m
        below m s l = omega arith

        past : (e : ℕ) → 1 ≤ n → t + (n - 1) < e → t + n ≤ e
        past e s l = omega arith

-- it is open up to its end at least
pub open_before_end : (r : Run) (t n : ℕ) (ds : List Done) (left : List Order) (c : ℕ) → IsRound r t n ds left →
    is_open (gone_at (whole_in r) t ds) ds c ≡ true → t ≤ end_in r c
open_before_end r t n ds left c h o = by (end_in r c) (places_in r ds t n c) (end_after r t n ds left c h o)
  where
    by : (e m : ℕ) → min (t + n) e ≡ t + m → t ≤ e
    by e m q = omega arith

-- an open call has had the periods since it began
pub worked_now : (r : Run) (t n : ℕ) (ds : List Done) (left : List Order) (c : ℕ) →
    IsRound r t n ds left → is_open (gone_at (whole_in r) t ds) ds c ≡ true →
    worked_to r t c ≡ t - start_of ds c
worked_now r t n ds left c h o = by (end_in r c) (open_before_end r t n ds left c h o) ∙ ap (λ (s : ℕ). t - s) (start_kept r t n ds left c h o)
  where
    by : (e : ℕ) → t ≤ e → min t e - start_of (done_in r) c ≡ t - start_of (done_in r) c
    by e l = ap (λ (m : ℕ). m - start_of (done_in r) c) (least e l)
      where
        least : (e : ℕ) → t ≤ e → min t e ≡ t
        least e l = omega arith

-- after a round an open call has had also the periods that its lines gave in it
pub worked_then : (r : Run) (t n : ℕ) (ds : List Done) (left : List Order) (c : ℕ) →
    IsRound r t n ds left → is_open (gone_at (whole_in r) t ds) ds c ≡ true →
    worked_to r (t + n) c ≡ t + places_in r ds t n c - start_of ds c
worked_then r t n ds left c h o = ap (λ (m : ℕ). m - start_of (done_in r) c) (end_after r t n ds left c h o)
    ∙ ap (λ (s : ℕ). t + places_in r ds t n c - s) (start_kept r t n ds left c h o)

-- ---- a call that isn't

-- the run doesn't open it, or only later, or it has ended
opened_later : (r : Run) (u : ℕ) (ds : List Done) (left : List Order) (c : ℕ) → IsSoFar r u ds left → opened_at c ds ≡ None → IsOpened r c →
    u ≤ start_of (done_in r) c
opened_later r u ds left c so none o = by (opened_at c (rest_in r ds left)) refl
  where
    same : opened_at c (done_in r) ≡ opened_at c (rest_in r ds left)
    same = ap (opened_at c) (done-rest r u ds left so) ∙ opened-append c ds (rest_in r ds left)
        ∙ ap (λ (v : Option ℕ). or_else v (opened_at c (rest_in r ds left))) none

    stamp : (v : Option Done) → find (λ d. is_this c (opened_by d.result)) (rest_in r ds left) ≡ v → (s : ℕ) →
        option_map (λ (d : Done). d.order.stamp) v ≡ Some s → u ≤ s
    stamp None e s q = absurd (true≢false (sym (ap is_some q)))
    stamp (Some d) e s q =
        let f = found (λ (d : Done). u ≤ d.order.stamp) (λ d. is_this c (opened_by d.result)) (rest_in r ds left) d (rest_from r u ds left so) e in
        let k : d.order.stamp ≡ s = some d.order.stamp s q in
        subst (λ (s : ℕ). u ≤ s) k f.0
      where
        some : (a b : ℕ) → Some a ≡ Some b → a ≡ b
        some a b q = ap (λ (o : Option ℕ). elim o [ None ↦ a | Some x ↦ x ]) q

    by : (v : Option ℕ) → opened_at c (rest_in r ds left) ≡ v → u ≤ start_of (done_in r) c
    by None e = absurd (true≢false (sym o ∙ ap is_some (same ∙ e)))
    by (Some s) e =
        subst (λ (m : ℕ). u ≤ m) (sym (start_is (done_in r) c s (same ∙ e))) (stamp (find (λ d. is_this c (opened_by d.result)) (rest_in r ds left)) refl s e)

-- a closed call has ended at or before the clock
closed_past : (r : Run) (t : ℕ) (ds : List Done) (left : List Order) (c e : ℕ) →
    IsSoFar r t ds left → closed_at c ds ≡ Some e → end_in r c ≤ t
closed_past r t ds left c e so q =
    let past : e ≤ t = subst (λ (v : Option ℕ). IfSome v (λ e. e ≤ t)) q (closed_stamp (λ e. e ≤ t) c ds (recursion_from_All _ ds so.past)) in
    subst (λ (m : ℕ). m ≤ t) (sym (ap at_of (end_closed r t ds left c (start_of (done_in r) c) e so q))) past

-- a call that is gone has ended at or before the clock
gone_past : (r : Run) (t : ℕ) (ds : List Done) (left : List Order) (c s : ℕ) → IsSoFar r t ds left → t ≤ r.periods →
    opened_at c ds ≡ Some s → closed_at c ds ≡ None →
    gone_at (whole_in r) t ds c ≡ true → end_in r c ≤ t
gone_past r t ds left c s so w o l g =
    let gone : s + whole_in r c < t = ltb-true (s + whole_in r c) t (sym (gone_is (whole_in r) t ds c s o) ∙ g) in
    let at = ap at_of (end_lacks r t ds left c s so o l (omega arith) (ahead left gone so.ahead)) in
    let same : end_in r c ≡ s + whole_in r c =
    ap (λ (s : ℕ). at_of (end_of (given_in r) r.periods (done_in r) c s)) (start_is (done_in r) c s (opened_run r t ds left c s so o)) ∙ at in
    omega (arith, same, gone)
  where
    ahead : (os : List Order) → s + whole_in r c < t → IfSome (first_stamp os) (λ u. t ≤ u) → NoOrderTo (s + whole_in r c) os
    ahead [] l k = tt
    ahead (x ∷ os) l k = omega arith

-- **A call that isn't open gets no further up to the next order.**
pub worked_idle : (r : Run) (t u : ℕ) (ds : List Done) (left : List Order) (c : ℕ) → IsSoFar r t ds left → t ≤ u → t ≤ r.periods →
    IfSome (first_stamp left) (λ s. u ≤ s) →
    is_open (gone_at (whole_in r) t ds) ds c ≡ false → IsOpened r c → worked_to r u c ≡ worked_to r t c
worked_idle r t u ds left c so l w n shut o = by (opened_at c ds) refl
  where
    ended : end_in r c ≤ t → worked_to r u c ≡ worked_to r t c
    ended k = ap (λ (m : ℕ). m - start_of (done_in r) c) (least (end_in r c) k)
      where
        least : (e : ℕ) → e ≤ t → min u e ≡ min t e
        least e k = omega arith

    by : (v : Option ℕ) → opened_at c ds ≡ v → worked_to r u c ≡ worked_to r t c
    by None q = late (end_in r c) (start_of (done_in r) c) (opened_later r u ds left c (so_far_later r t u ds left so l n) q o)
      where
        late : (e s : ℕ) → u ≤ s → min u e - s ≡ min t e - s
        late e s k = omega arith
    by (Some s) q = closed (closed_at c ds) refl (shut_cases (gone_at (whole_in r) t ds) ds c s q shut)
      where
        closed : (v : Option ℕ) → closed_at c ds ≡ v → ((e : ℕ) × (closed_at c ds ≡ Some e)) ⊎ (gone_at (whole_in r) t ds c ≡ true) →
            worked_to r u c ≡ worked_to r t c
        closed (Some e) f k = ended (closed_past r t ds left c e so f)
        closed None f (inl k) = ended (closed_past r t ds left c k.0 so k.1)
        closed None f (inr k) = ended (gone_past r t ds left c s so w q f k)

-- ---- a call that its lines end

-- where the end of a call is, if its lines end it
abbrev IsByLines : Run → ℕ → CallEnd → Type 0
IsByLines r c end = (IsCutOff end.cause → ⊥) → (end.at ≡ start_in r c + whole_in r c) × (end.at < r.periods)

-- **It ends after the whole periods that they give, before the run's end.**
pub ended_by_lines : (r : Run) (c : ℕ) → (IsCutOff (cause_in r c) → ⊥) →
    (end_in r c ≡ start_in r c + whole_in r c) × (end_in r c < r.periods)
ended_by_lines r c = by (closed_at c (done_in r)) refl
  where
    there : (b : Bool) → nat_le r.periods (start_in r c + whole_in r c) ≡ b →
        IsByLines r c (if b then record { call = c; at = r.periods; cause = Limit } else record {
          call = c;
          at = start_in r c + whole_in r c;
          cause = lack_of (whole_in r c) (given_in r c);
        })
    there true e = λ not. absurd (not tt)
    there false e = λ not. (refl, leb-false r.periods (start_in r c + whole_in r c) e)

    by : (v : Option ℕ) → closed_at c (done_in r) ≡ v → IsByLines r c (end_of (given_in r) r.periods (done_in r) c (start_in r c))
    by (Some e) q = subst (λ (v : Option ℕ). IsByLines r c (end_by (given_in r) r.periods c (start_in r c) v)) (sym q) (λ not. absurd (not tt))
    by None q = subst (λ (v : Option ℕ). IsByLines r c (end_by (given_in r) r.periods c (start_in r c) v)) (sym q) (there _ refl)

-- **If it isn't open and ends before the next order, it has ended before the clock.**
pub ended_before : (r : Run) (t u : ℕ) (ds : List Done) (left : List Order) (c : ℕ) → IsSoFar r t ds left → t ≤ u →
    IfSome (first_stamp left) (λ s. u ≤ s) → is_open (gone_at (whole_in r) t ds) ds c ≡ false →
    IsOpened r c → (IsCutOff (cause_in r c) → ⊥) →
    end_in r c < u → end_in r c < t
ended_before r t u ds left c so l n shut o not early = by (opened_at c ds) refl
  where
    is : end_in r c ≡ start_in r c + whole_in r c
    is = (ended_by_lines r c not).0

    by : (v : Option ℕ) → opened_at c ds ≡ v → end_in r c < t
    by None q = absurd (omega (arith, is, early, opened_later r u ds left c (so_far_later r t u ds left so l n) q o))
    by (Some s) q = closed (closed_at c ds) refl (shut_cases (gone_at (whole_in r) t ds) ds c s q shut)
      where
        at_order : (e : ℕ) → closed_at c ds ≡ Some e → end_in r c < t
        at_order e f = absurd (not (subst (λ (end : CallEnd). IsCutOff end.cause) (sym (end_closed r t ds left c (start_in r c) e so f)) tt))

        closed : (v : Option ℕ) → closed_at c ds ≡ v →
            ((e : ℕ) × (closed_at c ds ≡ Some e)) ⊎ (gone_at (whole_in r) t ds c ≡ true) →
            end_in r c < t
        closed (Some e) f k = at_order e f
        closed None f (inl k) = at_order k.0 k.1
        closed None f (inr k) =
            let gone : s + whole_in r c < t = ltb-true (s + whole_in r c) t (sym (gone_is (whole_in r) t ds c s q) ∙ k) in
            omega (arith, is, gone, start_is (done_in r) c s (opened_run r t ds left c s so q))

-- ---- the run's end

-- **No call goes on beyond the run's end, so all of its periods lie before it.**
pub end_within_run : (r : Run) (t : ℕ) (ds : List Done) (left : List Order) (c : ℕ) → IsSoFar r t ds left → end_in r c ≤ r.periods
end_within_run r t ds left c so = by (closed_at c (done_in r)) refl
  where
    there : (s : ℕ) (b : Bool) → nat_le r.periods (s + whole_in r c) ≡ b →
        at_of (if b then record { call = c; at = r.periods; cause = Limit } else record {
          call = c;
          at = s + whole_in r c;
          cause =
              lack_of (whole_in r c) (given_in r c);
        }) ≤ r.periods
    there s true e = omega arith
    there s false e = let l = leb-false r.periods (s + whole_in r c) e in omega arith

    by : (v : Option ℕ) → closed_at c (done_in r) ≡ v → end_in r c ≤ r.periods
    by (Some e) q =
        let k = (standing_end r so.orders).closed c e q in
        let past = k.past in
        subst (λ (v : Option ℕ). at_of (end_by (given_in r) r.periods c (start_of (done_in r) c) v) ≤ r.periods) (sym q) past
    by None q =
        subst (λ (v : Option ℕ). at_of (end_by (given_in r) r.periods c (start_of (done_in r) c) v) ≤ r.periods) (sym q) (there (start_of (done_in r) c) _ refl)

-- **At the run's end a call has had all of its periods.**
pub worked_all : (r : Run) (t : ℕ) (ds : List Done) (left : List Order) (c : ℕ) → IsSoFar r t ds left →
    worked_to r r.periods c ≡ end_in r c - start_of (done_in r) c
worked_all r t ds left c so = ap (λ (m : ℕ). m - start_of (done_in r) c) (least r.periods (end_in r c) (end_within_run r t ds left c so))
  where
    least : (p e : ℕ) → e ≤ p → min p e ≡ e
    least p e l = omega arith
