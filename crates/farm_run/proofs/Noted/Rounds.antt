-- What is noted of a run, from round to round.
use Rattle.std.proofs.Common.{◌≡◌, refl, sym, ap, ◌∙◌, subst, ℕ, suc, ◌+◌, ◌-◌, ◌≤◌, Bool, true, false, not, ◌&&◌, ◌||◌, Option, Some, None, List, [], ◌∷◌}
use Rattle.std.proofs.Common.{arith}
use Rattle.std.specs.Prelude.{min, nat_lt, is_some, IfSome, if◌then◌else◌}
use Rattle.std.proofs.Math.Bool.{and-false}
use Rattle.std.proofs.lemmas.Bool.{and_parts, true≢false}
use Rattle.trau_orders.specs.declared.order.Order.{Order}
use Rattle.switchboard.specs.Calls.{Done, opened_at, closed_at, is_open, gone_at}
use Rattle.switchboard.specs.Ends.{start_of, ends_at}
use Rattle.switchboard.specs.State.{first_stamp}
use Rattle.call_leg.specs.Periods.{CallPeriod, bridges_begun}
use Rattle.call_leg.specs.Settings.{Settings}
use Rattle.call_leg.specs.Counted.{call_counts}
use Rattle.call_leg.specs.Down.{frames_of}
use Rattle.call_leg.specs.Places.{carried, sent_now}
use Rattle.farm_rounds.specs.declared.tally.Tally.{Tally}
use Rattle.farm_rounds.specs.Memory.{tally_in}
use Rattle.farm_rounds.specs.Histories.{tally_of}
use Rattle.run_spec.specs.Run.{Run, given_in, whole_in, done_in, periods_to}
use Rattle.run_spec.specs.Now.{IsSoFar, settings_now}
use Rattle.run_spec.proofs.Periods.SoFar.{so_far_later}
use Rattle.run_spec.proofs.Periods.Settled.{start_is}
use Rattle.run_spec.proofs.Orders.OpenCalls.{open_facts}
use Rattle.run_spec.proofs.Periods.Next.{start_run}
use Rattle.run_spec.proofs.Frames.Sent.{sent_at_end}
use Rattle.farm_run.specs.declared.notes.SentBefore.{SentBefore}
use Rattle.farm_run.proofs.Rounds.Taken.{IsRound, places_in, ends_within}
use Rattle.farm_run.proofs.Rounds.Outcome.{KeepsTallies}
use Rattle.farm_run.specs.Noted.{is_opened, ended_at, IsKept, IsNotedAt}
use Rattle.farm_run.proofs.Rounds.Open.{shut_after}
use Rattle.farm_run.proofs.Rounds.Ends.{ends_there}
use Rattle.farm_run.proofs.Told.Boards.{gone_round}
use Rattle.farm_run.proofs.Noted.Noting.{noted_ends, noted_same}

-- ---- before the first order

-- **Nothing is known, and nothing is noted.**
pub noted_start : (r : Run) (t : ℕ) (tallies : List Tally) → IsNotedAt r [] t [] tallies
noted_start r t tallies = record { numbers = λ c o. cc; bridges = tt; kept = λ c h. cc }

-- ---- what is kept of a call at its end

-- how many frames were sent depends on no setting but whether a bridge starts
sent_by_start : (ts : List CallPeriod) (now other : Settings) → now.starts ≡ other.starts → sent_now ts now ≡ sent_now ts other
sent_by_start ts now other e = ap (λ (b : Bool). carried (if b then suc (bridges_begun ts) else bridges_begun ts) (frames_of ts)) e

-- **What is told of it at the period at which it ends is right.**
pub kept_at_end : (r : Run) (t : ℕ) (ds : List Done) (left : List Order) (c : ℕ) (now : Settings) →
    IsSoFar r t ds left → is_opened ds c ≡ true →
    ends_at (given_in r) r.periods (done_in r) c ≡ t → now.starts ≡ (settings_now r ds t c).starts →
    IsKept r ds c (tally_of (periods_to r c (t - start_of ds c)) now)
kept_at_end r t ds left c now so o e starts = by (opened_at c ds) refl o
  where
    by : (s : Option ℕ) → opened_at c ds ≡ s → is_some s ≡ true → IsKept r ds c (tally_of (periods_to r c (t - start_of ds c)) now)
    by None q f = absurd (true≢false (sym f))
    by (Some s) q f =
        let begins : start_of (done_in r) c ≡ start_of ds c = start_run r t ds left c s so q ∙ sym (start_is ds c s q) in
        record {
          counts = ap (λ (m : ℕ). call_counts (periods_to r c m))
              (sym (ap (λ (m : ℕ). ends_at (given_in r) r.periods (done_in r) c - m) begins ∙ ap (λ (m : ℕ). m - start_of ds c) e));
          sent = λ k l.
              ap (λ (m : ℕ). sent_now (periods_to r c (t - m)) now) (start_is ds c s q)
              ∙ sent_by_start (periods_to r c (t - s)) now (settings_now r ds t c) starts
              ∙ sym (sent_at_end r t ds left c s k _ so q l e);
        }

-- ---- the clock goes on

-- **While no call is open nothing comes to be known.**
pub noted_jump : (r : Run) (t u : ℕ) (ds : List Done) (ns : List SentBefore) (tallies : List Tally) → t ≤ u →
    ((c : ℕ) → is_open (gone_at (whole_in r) t ds) ds c ≡ false) → IsNotedAt r ds t ns tallies → IsNotedAt r ds u ns tallies
noted_jump r t u ds ns tallies l none n = noted_same r ds (ended_at r ds t) (ended_at r ds u) ns (tally_in tallies) (tally_in tallies) n
    (λ c. ap (λ (s : Bool). is_opened ds c && not s) (later c ∙ sym (none c))) (λ c. refl)
  where
    later : (c : ℕ) → is_open (gone_at (whole_in r) u ds) ds c ≡ false
    later c =
        subst (λ (v : ℕ). is_open (gone_at (whole_in r) v ds) ds c ≡ false) (let e : t + (u - t) ≡ u = omega arith in e) (shut_after r t (u - t) ds c (none c))

-- ---- a round

-- who has ended after it
module _ (r : Run) (t n : ℕ) (ds : List Done) (c : ℕ) where
  -- tests before the round, behind it, and in it
  abbrev gone_before : Bool
  gone_before = gone_at (whole_in r) t ds c

  abbrev gone_then : Bool
  gone_then = gone_at (whole_in r) (t + n) ds c

  abbrev fewer : Bool
  fewer = nat_lt (places_in r ds t n c) n

  tests : (a b w : Bool) → b ≡ (a || (not a && w)) → not (not b) ≡ (not (not a) || (not a && w))
  tests true true w e = refl
  tests false true true e = refl
  tests false false false e = refl
  tests true false w e = cc
  tests false true false e = cc
  tests false false true e = cc

  by : (o l : Option ℕ) → opened_at c ds ≡ o → closed_at c ds ≡ l →
      (is_some o && not (is_some o && not (is_some l) && not gone_then))
      ≡ ((is_some o && not (is_some o && not (is_some l) && not gone_before))
      || ((is_some o && not (is_some l) && not gone_before) && fewer))
  by None l p q = refl
  by (Some s) (Some e) p q = refl
  by (Some s) None p q =
      tests gone_before gone_then fewer
      (gone_round r t n ds c (ap is_some p) q ∙ ap
      (λ (o : Option ℕ). gone_before || ((is_some o && not (is_some (closed_at c ds)) && not gone_before) && fewer)) p
      ∙ ap (λ (l : Option ℕ). gone_before || ((true && not (is_some l) && not gone_before) && fewer)) q)

  -- a call has ended behind the round where it had before, or ends in it
  ended_round : ended_at r ds (t + n) c ≡ (ended_at r ds t c || ends_within r ds t n c)
  ended_round = by (opened_at c ds) (closed_at c ds) refl refl

-- an open call hasn't ended
pub open_not_ended : (r : Run) (t : ℕ) (ds : List Done) (c : ℕ) → is_open (gone_at (whole_in r) t ds) ds c ≡ true →
    (ended_at r ds t c ≡ false) × (is_opened ds c ≡ true)
open_not_ended r t ds c o = let p = open_facts (gone_at (whole_in r) t ds) ds c o in
    (ap (λ (s : Bool). is_opened ds c && not s) o ∙ and-false (is_opened ds c), ap is_some p.1)

-- no order comes up to a clock before
sooner : (u v : ℕ) (left : List Order) → u ≤ v → IfSome (first_stamp left) (λ s. v ≤ s) → IfSome (first_stamp left) (λ s. u ≤ s)
sooner u v [] l h = tt
sooner u v (o ∷ left) l h = omega arith

-- **After a round whose tallies tell of the calls that it ended, what is noted is right again.**
pub noted_round : (r : Run) (t n : ℕ) (ds : List Done) (left : List Order) (ns : List SentBefore) (tallies tallies' : List Tally) →
    IsRound r t n ds left → IsNotedAt r ds t ns tallies → KeepsTallies r t n ds tallies tallies' → IsNotedAt r ds (t + n) ns tallies'
noted_round r t n ds left ns tallies tallies' h noted keeps =
    noted_same r ds (λ c. ended_at r ds t c || ends_within r ds t n c) (ended_at r ds (t + n)) ns (tally_in tallies') (tally_in tallies')
    (noted_ends r ds (ended_at r ds t) (ends_within r ds t n) ns (tally_in tallies) (tally_in tallies') noted right keeps.others)
    (λ c. ended_round r t n ds c) (λ c. refl)
  where
    opened : (c : ℕ) → ends_within r ds t n c ≡ true → is_open (gone_at (whole_in r) t ds) ds c ≡ true
    opened c w = (and_parts (is_open (gone_at (whole_in r) t ds) ds c) (nat_lt (places_in r ds t n c) n) w).0

    far : (m : ℕ) → m ≤ n → IsSoFar r (t + m) ds left
    far m l = so_far_later r t (t + m) ds left h.so_far (omega arith) (sooner (t + m) (t + n) left (omega arith) h.clear)

    within : (m : ℕ) → min n m ≤ n
    within m = omega arith

    right : (c : ℕ) → ends_within r ds t n c ≡ true → IsKept r ds c (tally_in tallies' c)
    right c w =
        let k = keeps.ended c w in
        subst (IsKept r ds c) (sym k.2)
        (kept_at_end r (t + places_in r ds t n c) ds left c k.0 (far (places_in r ds t n c) (within (start_of ds c + whole_in r c - t)))
        (open_not_ended r t ds c (opened c w)).1 (ends_there r t n ds left c h w) k.1)
