-- One more order: what the definition says of the run, and the farm, go on together.
use Rattle.std.proofs.Common.{◌≡◌, refl, sym, ap, ◌∙◌, subst, ℕ, ◌-◌, ◌<◌, Bool, true, false, ◌||◌, Option, Some, List, [], ◌∷◌, ◌++◌, arith, inl, inr}
use Rattle.std.proofs.Common.{◌⊎◌}
use Rattle.std.specs.Prelude.{if◌then◌else◌, ◌==◌, is_some, Result, Ok, Err}
use Rattle.std.proofs.lemmas.Bool.{cases_eq, eq-eqb}
use Rattle.trau_alaw.specs.declared.Law.{Law}
use Rattle.switchboard.specs.declared.act.Act.{Act}
use Rattle.switchboard.specs.declared.act.Act.TheVariants as act
use Rattle.switchboard.specs.declared.act.Refusal.{Refusal}
use Rattle.switchboard.specs.declared.act.Reply.{Reply}
use Rattle.switchboard.specs.Calls.{Done, opened_at, is_open, gone_at}
use Rattle.switchboard.specs.Runs.{IsRun, TellsEnds}
use Rattle.switchboard.specs.Ends.{start_of}
use Rattle.switchboard.specs.State.{State, gone_in, done_by}
use Rattle.switchboard.specs.Open.{opened_now, open_now, partner_now, open_after, Finds, law_now, law_after}
use Rattle.farm_rounds.specs.Histories.{CallHistory, CallStands, CallsStand, histories_after, NoneWaits, NoneWaitsIn}
use Rattle.farm_rounds.specs.Calls.{Kept, call_in, partner_in}
use Rattle.call_leg.specs.Periods.{CallPeriod}
use Rattle.call_leg.specs.Settings.{Settings, new_settings}
use Rattle.run_spec.specs.Run.{Run, whole_in, periods_to, law_in}
use Rattle.run_spec.specs.Now.{IsSoFar, settings_now, changed_by}
use Rattle.run_spec.proofs.Orders.OpenCalls.{open_facts, opened_cases}
use Rattle.run_spec.proofs.Periods.Settled.{start_is}
use Rattle.run_spec.proofs.Orders.Shown.{opens}
use Rattle.run_spec.proofs.Periods.SoFar.{so_far_more}
use Rattle.run_spec.proofs.Orders.Settings.{settings_ordered}
use Rattle.run_spec.proofs.Periods.Next.{none_waits, law_run}
use Rattle.farm_run.specs.Match.{past_if, histories_at, FollowsRun}
use Rattle.farm_run.proofs.Ordered.Due.{Due, open_told, tells_more}
use Rattle.farm_run.proofs.Ordered.Changing.{history_by}
use Rattle.farm_run.proofs.Listed.Tests.{no}

-- what a call has had is the same where each part of it is
past_same : (b b' : Bool) (l : Law) (ts ts' : List CallPeriod) (now now' : Settings) → b ≡ b' → (b' ≡ true → ts ≡ ts') → now ≡ now' →
    past_if b l ts now ≡ past_if b' l ts' now'
past_same true true l ts ts' now now' q e f = ap (λ ts. past_if true l ts now) (e refl) ∙ ap (past_if true l ts') f
past_same false false l ts ts' now now' q e f = refl
past_same true false l ts ts' now now' q e f = cc
past_same false true l ts ts' now now' q e f = cc

-- the calls stand for histories that are the same for each call
pub stand_same : (h k : ℕ → Option CallHistory) (calls : List Kept) → ((c : ℕ) → h c ≡ k c) → CallsStand h calls → CallsStand k calls
stand_same h k calls e g = λ c. subst (λ x. CallStands c x (call_in calls c) (partner_in calls c)) (e c) (g c)

-- the act that opens a call, or another one
cases_act : (a : Act) (c : ℕ) → ((law : Law) × (a ≡ act.Opened c law)) ⊎ ((n : ℕ) (law : Law) → a ≡ act.Opened n law → n ≡ c → ⊥)
cases_act (act.Opened n law) c = elim (cases_eq n c) [
  | inl e ↦ inl (law, ap (λ n. act.Opened n law) e)
  | inr q ↦ inr (λ m other e f. q (number n m law other e ∙ f))
]
  where
    number : (n m : ℕ) (l k : Law) → act.Opened n l ≡ act.Opened m k → n ≡ m
    number n m l k e = cc
cases_act (act.Closed n p) c = inr (λ m law e f. cc)
cases_act (act.Bridged a b) c = inr (λ m law e f. cc)
cases_act (act.Unbridged a b) c = inr (λ m law e f. cc)
cases_act (act.LevelSet n level) c = inr (λ m law e f. cc)
cases_act (act.DtxSet n mode) c = inr (λ m law e f. cc)

module _ (r : Run) (t : ℕ) (s n : State) (reply : Reply) (calls : List Kept) (due : Due s t reply n)
    (under : t < r.periods) (run : IsRun (whole_in r) n.done) (f : FollowsRun r t s calls) where
  -- the order, executed
  abbrev d : Done
  d = done_by s due.order

  -- it is the last that was executed
  done_is : n.done ≡ s.done ++ d ∷ []
  done_is = ap (λ (m : State). m.done) due.new

  -- no end is told by it
  told_is : (c : ℕ) → gone_in n c ≡ gone_in s c
  told_is c = ap (λ (m : State). gone_in m c) due.new

  -- before it the order is the next that is left
  before : IsSoFar r t s.done (d.order ∷ due.rest)
  before = subst (IsSoFar r t s.done) due.left f.so_far

  -- the executed orders, this one too, are a run's
  run_is : IsRun (whole_in r) (s.done ++ d ∷ [])
  run_is = subst (IsRun (whole_in r)) done_is run

  -- behind it the run is one so far
  far : IsSoFar r t n.done n.left
  far = subst (λ (m : State). IsSoFar r t m.done m.left) (sym due.new) (so_far_more r t s.done d due.rest before due.stamp under run_is)

  -- the settings behind it are those before, changed by the order
  settings_is : (c : ℕ) → settings_now r n.done t c ≡ changed_by c d.result (settings_now r s.done t c)
  settings_is c = ap (λ ds. settings_now r ds t c) done_is ∙ settings_ordered r t s.done d due.rest c before due.stamp run_is

  -- a call that is open afterwards and wasn't opened by the order began where it did
  start_kept : (c : ℕ) → ((law : Law) → d.result ≡ Ok (act.Opened c law) → ⊥) → is_open (gone_at (whole_in r) t n.done) n.done c ≡ true →
      start_of s.done c ≡ start_of n.done c
  start_kept c other o =
      let p = open_facts (gone_at (whole_in r) t n.done) n.done c o in
      elim (opened_cases s.done (d ∷ []) c p.0 (sym (ap (opened_at c) done_is) ∙ p.1)) [
        | inl h ↦ start_is s.done c p.0 h ∙ sym (start_is n.done c p.0 p.1)
        | inr h ↦ let o = (opens c p.0 due.order d.result h.1).0 in absurd (other o.0 o.1)
      ]

  -- **A refused order.**
  pub follows_same : (e : Refusal) → reply.result ≡ Err e → ((c : ℕ) → open_now n c ≡ open_now s c) → FollowsRun r t n calls
  follows_same e refused same =
      let res : d.result ≡ Err e = sym due.result ∙ refused in
      let never : (c : ℕ) (law : Law) → d.result ≡ Ok (act.Opened c law) → ⊥ = λ c law q. cc in
      let tells : TellsEnds (whole_in r) t n =
      tells_more (whole_in r) t s n d told_is done_is f.tells (λ c u h. let o = (opens c u due.order d.result h).0 in absurd (never c o.0 o.1)) in
      record {
        so_far = far;
        tells = tells;
        stands = stand_same (histories_at r s.done t) (histories_at r n.done t) calls
            (λ c. past_same _ _ (law_in r c) _ _ _ _ (sym (open_told (whole_in r) t s f.tells c) ∙ sym (same c) ∙ open_told (whole_in r) t n tells c)
            (λ o. ap (λ b. periods_to r c (t - b)) (start_kept c (never c) o))
            (ap (λ x. changed_by c x (settings_now r s.done t c)) (sym res) ∙ sym (settings_is c))) f.stands;
      }

  -- **An accepted order.**
  module _ (a : Act) (accepted : reply.result ≡ Ok a) (finds : Finds a (opened_now s) (open_now s) (partner_now s))
      (changes : (c : ℕ) → open_now n c ≡ open_after a (open_now s) c) (laws : (c : ℕ) → law_now n c ≡ law_after a (law_now s) c) where
    -- the act is what the order resulted in
    res : d.result ≡ Ok a
    res = sym due.result ∙ accepted

    -- an order that opens a call is this act
    is_act : (c : ℕ) (law : Law) → d.result ≡ Ok (act.Opened c law) → a ≡ act.Opened c law
    is_act c law q = by a (act.Opened c law) (sym res ∙ q)
      where
        by : (x y : Act) → ◌≡◌ {A = Result Act Refusal} (Ok x) (Ok y) → x ≡ y
        by x y e = cc

    -- the call is open then
    opens_it : (c : ℕ) (law : Law) → a ≡ act.Opened c law → open_now n c ≡ true
    opens_it c law q = changes c ∙ ap (λ x. open_after x (open_now s) c) q ∙ ap (λ b. b || open_now s c) (eq-eqb c c refl)

    -- the ends are told in time behind it
    tells : TellsEnds (whole_in r) t n
    tells = tells_more (whole_in r) t s n d told_is done_is f.tells (λ c u h.
        let o = opens c u due.order d.result h in
        let e = due.stamp in
        let g = open_facts (gone_in n) n.done c (opens_it c o.0.0 (is_act c o.0.0 o.0.1)) in
        (omega (arith, o.1, e), g.3))

    -- the calls that the act leaves open are those that are open behind it
    open_is : (c : ℕ) →
        open_after a (λ c. is_open (gone_at (whole_in r) t s.done) s.done c) c
        ≡ is_open (gone_at (whole_in r) t n.done) n.done c
    open_is c = sym (ap (λ g. open_after a g c) (λ i. λ c. open_told (whole_in r) t s f.tells c i)) ∙ sym (changes c)
        ∙ open_told (whole_in r) t n tells c

    -- the call that it opens
    begins : (c : ℕ) (law : Law) → a ≡ act.Opened c law →
        Some (record { law = law; periods = []; now = new_settings }) ≡ histories_at r n.done t c
    begins c law q =
        let o : is_open (gone_at (whole_in r) t n.done) n.done c ≡ true = sym (open_told (whole_in r) t n tells c) ∙ opens_it c law q in
        let p = open_facts (gone_at (whole_in r) t n.done) n.done c o in
        let its : law ≡ law_in r c = sym (laws c ∙ ap (λ x. law_after x (law_now s) c) q ∙ ap (λ b. if b then law else law_now s c) (eq-eqb c c refl))
        ∙ sym (law_run r t n.done n.left c p.0 far p.1) in
        ap (λ (l : Law). Some (record { law = l; periods = []; now = new_settings })) its
        ∙ past_same true _ (law_in r c) [] _ new_settings _ (sym o) (λ b. ap (periods_to r c) (zero_from p.0 p.1))
        (sym (settings_is c ∙ ap (λ x. changed_by c x (settings_now r s.done t c)) (res ∙ ap Ok q)
        ∙ ap (λ b. if b then new_settings else settings_now r s.done t c) (eq-eqb c c refl)))
      where
        zero_from : (u : ℕ) → opened_at c n.done ≡ Some u → 0 ≡ t - start_of n.done c
        zero_from u e = elim (opened_cases s.done (d ∷ []) c u (sym (ap (opened_at c) done_is) ∙ e)) [
          | inl h ↦ absurd (twice u h)
          | inr h ↦ let k = (opens c u due.order d.result h.1).1 in let z = due.stamp in omega (arith, k, z, start_is n.done c u e)
        ]
          where
            twice : (u : ℕ) → opened_at c s.done ≡ Some u → ⊥
            twice u h = let g = subst (λ x. Finds x (opened_now s) (open_now s) (partner_now s)) q finds in let k : opened_now s c ≡ true = ap is_some h in
                no (opened_now s c) g.1 k

    -- what each call has had after the act is what it has had in the run
    same_history : (c : ℕ) → histories_after a (histories_at r s.done t) c ≡ histories_at r n.done t c
    same_history c = elim (cases_act a c) [
      | inl q ↦ ap (λ x. histories_after x (histories_at r s.done t) c) q.1
          ∙ ap (λ b. if b then Some (record { law = q.0; periods = []; now = new_settings }) else histories_at r s.done t c)
          (eq-eqb c c refl) ∙ begins c q.0 q.1
      | inr q ↦ history_by a (λ c. is_open (gone_at (whole_in r) t s.done) s.done c) (law_in r) (λ c. periods_to r c (t - start_of s.done c))
          (settings_now r s.done t) c q
          ∙ past_same _ _ (law_in r c) _ _ _ _ (open_is c) (λ o. ap (λ b. periods_to r c (t - b)) (start_kept c (λ law k. q c law (is_act c law k) refl) o))
          (ap (λ x. changed_by c x (settings_now r s.done t c)) (sym res) ∙ sym (settings_is c))
    ]

    -- where a bridge begins, no handed frame waits
    none_waits_in : NoneWaitsIn a (histories_at r s.done t)
    none_waits_in = by a refl finds
      where
        waits : (c u v : ℕ) → a ≡ act.Bridged u v → (c == u || c == v) ≡ true → open_now s c ≡ true → NoneWaits (histories_at r s.done t c)
        waits c u v q j o =
            let k : is_open (gone_at (whole_in r) t s.done) s.done c ≡ true = sym (open_told (whole_in r) t s f.tells c) ∙ o in
            let p = open_facts (gone_at (whole_in r) t s.done) s.done c k in
            subst (λ b. NoneWaits (past_if b (law_in r c) (periods_to r c (t - start_of s.done c)) (settings_now r s.done t c))) (sym k)
            (subst (λ v. NoneWaits (Some (record { law = law_in r c; periods = periods_to r c (t - v); now = settings_now r s.done t c })))
            (sym (start_is s.done c p.0 p.1))
            (none_waits r t s.done d due.rest u v c p.0 before due.stamp under run_is (res ∙ ap Ok q) j p.1))

        left_or : (c v : ℕ) → (c == c || c == v) ≡ true
        left_or c v = ap (λ b. b || c == v) (eq-eqb c c refl)

        right_or : (b : Bool) → (b || true) ≡ true
        right_or true = refl
        right_or false = refl

        by : (x : Act) → a ≡ x → Finds x (opened_now s) (open_now s) (partner_now s) → NoneWaitsIn x (histories_at r s.done t)
        by (act.Bridged u v) q g = (waits u u v q (left_or u v) g.1.0, waits v u v q (ap (λ b. v == u || b) (eq-eqb v v refl) ∙ right_or (v == u)) g.1.1)
        by (act.Opened c law) q g = tt
        by (act.Closed c p) q g = tt
        by (act.Unbridged u v) q g = tt
        by (act.LevelSet c level) q g = tt
        by (act.DtxSet c mode) q g = tt

    -- **So farm and board follow the run behind the order, if the act carries histories over.**
    pub follows_more : (calls' : List Kept) →
        ((h : ℕ → Option CallHistory) → NoneWaitsIn a h → CallsStand h calls →
        CallsStand (histories_after a h) calls') → FollowsRun r t n calls'
    follows_more calls' carries = record {
      so_far = far;
      tells = tells;
      stands = stand_same (histories_after a (histories_at r s.done t)) (histories_at r n.done t) calls' same_history
          (carries (histories_at r s.done t) none_waits_in f.stands);
    }
