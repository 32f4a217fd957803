-- What is noted of a run, from order to order.
use Rattle.std.proofs.Common.{◌≡◌, ◌≢◌, refl, sym, ap, ◌∙◌, ℕ, ◌-◌, ◌<◌, Bool, true, not, ◌&&◌, ◌||◌, Option, List, [], ◌∷◌, ◌++◌}
use Rattle.std.proofs.Common.{map, inl, inr, ◌⊎◌, arith, subst, false, Some, None}
use Rattle.std.specs.Prelude.{◌==◌, Result, Ok, option_map, if◌then◌else◌}
use Rattle.std.proofs.Math.Bool.{and-false, or-false, or-true}
use Rattle.std.proofs.lemmas.Bool.{cases_eq, eq-eqb, ne_eqb, eqb-true, or_cases}
use Rattle.std.proofs.lemmas.List.{append-nil}
use Rattle.switchboard.specs.declared.act.Act.{Act}
use Rattle.switchboard.specs.declared.act.Act.TheVariants as act
use Rattle.switchboard.specs.declared.act.Refusal.{Refusal}
use Rattle.switchboard.specs.declared.act.Reply.{Reply}
use Rattle.switchboard.specs.declared.table.Bridge.{Bridge}
use Rattle.switchboard.specs.Calls.{Done, is_open, gone_at, closed_at}
use Rattle.switchboard.specs.Bridges.{bridges, bridge_by}
use Rattle.switchboard.specs.Ends.{start_of}
use Rattle.switchboard.specs.State.{State, done_by}
use Rattle.switchboard.specs.Open.{opened_now, open_now, partner_now, Finds, opened_after, open_after}
use Rattle.switchboard.proofs.Orders.OneMore.{after, bridges-more, or_else}
use Rattle.farm_rounds.specs.Calls.{Kept}
use Rattle.farm_rounds.specs.declared.tally.Tally.{Tally}
use Rattle.farm_rounds.specs.Memory.{tally_in}
use Rattle.farm_rounds.specs.Histories.{CallHistory, kept_of, tally_of, tallies_after}
use Rattle.trau_alaw.specs.declared.Law.{Law}
use Rattle.run_spec.specs.Run.{Run, whole_in, periods_to, law_in, done_in}
use Rattle.run_spec.specs.Now.{settings_now, IsSoFar}
use Rattle.farm_run.specs.Match.{past_if, histories_at, FollowsRun}
use Rattle.farm_run.specs.declared.notes.SentBefore.{SentBefore}
use Rattle.farm_run.specs.Noted.{is_opened, ended_at, IsNotedAt, call_end_in, noted_by, sent_in_bridge, IsKept}
use Rattle.farm_run.proofs.Ordered.Due.{Due, open_told}
use Rattle.farm_run.proofs.Noted.Noting.{noted_ordered, noted_same, noted_ends}
use Rattle.farm_run.proofs.Noted.Opened.{noted_opened}
use Rattle.trau_io.specs.declared.ends.CallEnd.{CallEnd}
use Rattle.trau_io.specs.declared.ends.Cause.TheVariants.{Closed}
use Rattle.switchboard.specs.Runs.{IsRun}
use Rattle.switchboard.specs.Stands.{IsLatest}
use Rattle.switchboard.proofs.Orders.Steps.{closed-more}
use Rattle.call_leg.specs.Places.{sent_now}
use Rattle.run_spec.proofs.Periods.Settled.{start_is}
use Rattle.run_spec.proofs.Orders.OpenCalls.{open_facts}
use Rattle.run_spec.proofs.Ending.{end_closed}
use Rattle.run_spec.proofs.Frames.Sent.{sent_at_bridge}
use Rattle.farm_run.specs.Facts.{kept_in}
use Rattle.farm_run.proofs.Told.Next.{eqb-sym}
use Rattle.farm_run.proofs.Noted.Bridging.{noted_bridged}
use Rattle.farm_run.proofs.Noted.Rounds.{kept_at_end, open_not_ended}

module _ (r : Run) (t : ℕ) (s n : State) (reply : Reply) (calls calls' : List Kept) (due : Due s t reply n) (under : t < r.periods)
    (f : FollowsRun r t s calls) (g : FollowsRun r t n calls') where
  -- the order, executed
  abbrev d : Done
  d = done_by s due.order

  -- the end of a call that is closed
  abbrev closed_end : ℕ → CallEnd
  closed_end m = record { call = m; at = t; cause = Closed }

  -- what each call has had
  abbrev h : ℕ → Option CallHistory
  h = histories_at r s.done t

  -- it is the last that was executed
  done_is : n.done ≡ s.done ++ d ∷ []
  done_is = ap (λ (m : State). m.done) due.new

  -- the bridges behind it
  bridges_are : bridges n.done ≡ map (after d) (bridges s.done) ++ bridge_by d.order.stamp d.result []
  bridges_are = ap bridges done_is ∙ bridges-more s.done d

  -- an order that makes no bridge
  no_more : (x : Result Act Refusal) → d.result ≡ x → bridge_by d.order.stamp x [] ≡ [] → bridges n.done ≡ map (after d) (bridges s.done)
  no_more x q e =
      bridges_are ∙ ap (λ (x : Result Act Refusal). map (after d) (bridges s.done) ++ bridge_by d.order.stamp x []) q
      ∙ ap (λ (bs : List Bridge). map (after d) (bridges s.done) ++ bs) e ∙ append-nil (map (after d) (bridges s.done))

  -- who has ended
  ended_was : (c : ℕ) → ended_at r s.done t c ≡ (opened_now s c && not (open_now s c))
  ended_was c = ap (λ (b : Bool). is_opened s.done c && not b) (sym (open_told (whole_in r) t s f.tells c))

  -- a call has ended that was opened and isn't open
  ended_is : (c : ℕ) → ended_at r n.done t c ≡ (opened_now n c && not (open_now n c))
  ended_is c = ap (λ (b : Bool). is_opened n.done c && not b) (sym (open_told (whole_in r) t n g.tells c))

  -- a call that the board has open is so in the run
  open_there : (c : ℕ) → open_now s c ≡ true → is_open (gone_at (whole_in r) t s.done) s.done c ≡ true
  open_there c o = sym (open_told (whole_in r) t s f.tells c) ∙ o

  -- what an open call has had
  history_is : (c : ℕ) (kept : Tally) → open_now s c ≡ true → kept_of (h c) kept
      ≡ tally_of (periods_to r c (t - start_of s.done c)) (settings_now r s.done t c)
  history_is c kept o =
      ap (λ (b : Bool). kept_of (past_if b (law_in r c) (periods_to r c (t - start_of s.done c)) (settings_now r s.done t c)) kept) (open_there c o)

  -- **An order that is refused, or that neither opens, ends nor bridges calls, changes nothing.**
  pub noted_quiet : (x : Result Act Refusal) (ns : List SentBefore)
      (tallies tallies' : List Tally) → reply.result ≡ x → bridge_by due.order.stamp x [] ≡ [] →
      ((c : ℕ) → opened_now n c ≡ opened_now s c) → ((c : ℕ) → open_now n c ≡ open_now s c) →
      ((c : ℕ) → tally_in tallies' c ≡ tally_in tallies c) → IsNotedAt r s.done t ns tallies → IsNotedAt r n.done t ns tallies'
  noted_quiet x ns tallies tallies' q e opened open_same kept noted =
      let result : d.result ≡ x = sym due.result ∙ q in
      noted_same r n.done (ended_at r s.done t) (ended_at r n.done t) ns (tally_in tallies) (tally_in tallies')
      (noted_ordered r s.done n.done (ended_at r s.done t) ns (tally_in tallies)
      (record { opened = opened; order = d; bridges = no_more x result e }) noted)
      (λ c. ended_is c ∙ ap (λ (b : Bool). b && not (open_now n c)) (opened c) ∙ ap (λ (b : Bool). opened_now s c && not b) (open_same c)
      ∙ sym (ended_was c)) kept

  module _ (ns : List SentBefore) (tallies tallies' : List Tally) (noted : IsNotedAt r s.done t ns tallies) where
    -- **A call is opened.**
    opens_call : (m : ℕ) (law : Law) → d.result ≡ Ok (act.Opened m law) →
        Finds (act.Opened m law) (opened_now s) (open_now s) (partner_now s) →
        ((c : ℕ) → opened_now n c ≡ (c == m || opened_now s c)) → ((c : ℕ) → open_now n c ≡ (c == m || open_now s c)) →
        ((c : ℕ) → tally_in tallies' c ≡ tally_in tallies c) → IsNotedAt r n.done t ns tallies'
    opens_call m law result finds opened open_is kept =
        noted_same r n.done (ended_at r s.done t) (ended_at r n.done t) ns (tally_in tallies) (tally_in tallies')
        (noted_opened r s.done n.done (ended_at r s.done t) ns (tally_in tallies) m (record {
          number = (omega (arith, finds.0.0), omega (arith, finds.0.1));
          opened = opened;
          order = d;
          bridges = no_more (Ok (act.Opened m law)) result refl;
        }) noted)
        (λ c. ended_is c ∙ tests c (cases_eq c m) ∙ sym (ended_was c)) kept
      where
        tests : (c : ℕ) → (c ≡ m) ⊎ (c ≢ m) → (opened_now n c && not (open_now n c)) ≡ (opened_now s c && not (open_now s c))
        tests c (inl q) =
            let e = eq-eqb c m q in
            ap (λ (b : Bool). opened_now n c && not b) (open_is c ∙ ap (λ (b : Bool). b || open_now s c) e) ∙ and-false (opened_now n c)
            ∙ sym (ap (λ (b : Bool). b && not (open_now s c)) (ap (opened_now s) q ∙ finds.1))
        tests c (inr q) =
            let e = ne_eqb c m q in
            ap (λ (b : Bool). b && not (open_now n c)) (opened c ∙ ap (λ (b : Bool). b || opened_now s c) e)
            ∙ ap (λ (b : Bool). opened_now s c && not b) (open_is c ∙ ap (λ (b : Bool). b || open_now s c) e)

    -- **A call is closed.**
    closes_call : (m : ℕ) (p : Option ℕ) → d.result ≡ Ok (act.Closed m p) → open_now s m ≡ true →
        ((c : ℕ) → opened_now n c ≡ opened_now s c) →
        ((c : ℕ) → open_now n c ≡ (if c == m then false else open_now s c)) →
        ((c : ℕ) → tally_in tallies' c ≡ (if m == c then kept_of (h c) (tally_in tallies c) else tally_in tallies c)) →
        IsNotedAt r n.done t ns tallies'
    closes_call m p result o opened open_is kept =
        noted_same r n.done (λ c. ended_at r s.done t c || c == m) (ended_at r n.done t) ns (tally_in tallies') (tally_in tallies')
        (noted_ordered r s.done n.done (λ c. ended_at r s.done t c || c == m) ns (tally_in tallies')
        (record { opened = opened; order = d; bridges = no_more (Ok (act.Closed m p)) result refl })
        (noted_ends r s.done (ended_at r s.done t) (λ c. c == m) ns (tally_in tallies) (tally_in tallies') noted right
        (λ c q. kept c ∙ ap (λ (b : Bool). if b then kept_of (h c) (tally_in tallies c) else tally_in tallies c) (eqb-sym m c ∙ q))))
        (λ c. ended_is c ∙ tests c (cases_eq c m) ∙ ap (λ (b : Bool). b || c == m) (sym (ended_was c))) (λ c. refl)
      where
        was : (ended_at r s.done t m ≡ false) × (is_opened s.done m ≡ true)
        was = open_not_ended r t s.done m (open_there m o)

        closed : closed_at m n.done ≡ Some t
        closed =
            ap (closed_at m) done_is ∙ closed-more m s.done d ∙ ap (λ (v : Option ℕ). or_else v (closed_at m (d ∷ [])))
            (open_facts (gone_at (whole_in r) t s.done) s.done m (open_there m o)).2
            ∙ ap (λ (x : Result Act Refusal). closed_at m (record { order = due.order; result = x } ∷ [])) result
            ∙ ap (λ (b : Bool). option_map (λ (e : Done). e.order.stamp)
            (if b then Some (record { order = due.order; result = Ok (act.Closed m p) }) else None)) (eq-eqb m m refl) ∙ ap Some due.stamp

        there : call_end_in r m ≡ closed_end m
        there = end_closed r t n.done n.left m (start_of (done_in r) m) t g.so_far closed

        here : IsKept r s.done m (tally_in tallies' m)
        here =
            subst (IsKept r s.done m) (sym (kept m ∙ ap (λ (b : Bool). if b then kept_of (h m) (tally_in tallies m) else tally_in tallies m) (eq-eqb m m refl)
            ∙ history_is m (tally_in tallies m) o))
            (kept_at_end r t s.done s.left m (settings_now r s.done t m) f.so_far was.1 (ap (λ (e : CallEnd). e.at) there) refl)

        right : (c : ℕ) → (c == m) ≡ true → IsKept r s.done c (tally_in tallies' c)
        right c q = subst (λ (c : ℕ). IsKept r s.done c (tally_in tallies' c)) (sym (eqb-true c m q)) here

        tests : (c : ℕ) → (c ≡ m) ⊎ (c ≢ m) → (opened_now n c && not (open_now n c)) ≡ ((opened_now s c && not (open_now s c)) || c == m)
        tests c (inl q) =
            let e = eq-eqb c m q in
            ap (λ (b : Bool). opened_now n c && not b) (open_is c ∙ ap (λ (b : Bool). if b then false else open_now s c) e)
            ∙ ap (λ (b : Bool). b && true) (opened c ∙ ap (opened_now s) q ∙ was.1)
            ∙ sym (ap (λ (b : Bool). (opened_now s c && not (open_now s c)) || b) e ∙ or-true (opened_now s c && not (open_now s c)))
        tests c (inr q) =
            let e = ne_eqb c m q in
            ap (λ (b : Bool). opened_now n c && not b) (open_is c ∙ ap (λ (b : Bool). if b then false else open_now s c) e)
            ∙ ap (λ (b : Bool). b && not (open_now s c)) (opened c)
            ∙ sym (ap (λ (b : Bool). (opened_now s c && not (open_now s c)) || b) e ∙ or-false (opened_now s c && not (open_now s c)))

    -- how many frames a call has sent in its latest bridge so far
    abbrev sent_so_far : ℕ → ℕ
    sent_so_far c = let kept = kept_in tallies h c in kept.sent

    -- what is noted of a bridge
    abbrev note : ℕ → ℕ → SentBefore
    note a b = record { by_a = sent_so_far a; by_b = sent_so_far b }

    -- **Two calls are bridged.**
    bridges_calls : (a b : ℕ) → d.result ≡ Ok (act.Bridged a b) → Finds (act.Bridged a b) (opened_now s) (open_now s) (partner_now s) →
        ((c : ℕ) → opened_now n c ≡ opened_now s c) → ((c : ℕ) → open_now n c ≡ open_now s c) →
        ((c : ℕ) → tally_in tallies' c ≡ tally_in tallies c) → IsNotedAt r n.done t (ns ++ note a b ∷ []) tallies'
    bridges_calls a b result finds opened open_is kept =
        noted_same r n.done (ended_at r s.done t) (ended_at r n.done t) (ns ++ note a b ∷ []) (tally_in tallies) (tally_in tallies')
        (noted_bridged r s.done n.done (ended_at r s.done t) ns (tally_in tallies) a b sent_so_far (record {
          opened = opened;
          order = d;
          last = record { a = a; b = b; from = due.order.stamp; ended = None };
          all = bridges_are ∙ ap (λ (x : Result Act Refusal). map (after d) (bridges s.done) ++ bridge_by d.order.stamp x []) result;
          calls = (refl, refl);
        }) ((open_not_ended r t s.done a (open_there a finds.1.0)).0, (open_not_ended r t s.done b (open_there b finds.1.1)).0) noted right)
        (λ c. ended_is c ∙ ap (λ (b : Bool). b && not (open_now n c)) (opened c) ∙ ap (λ (b : Bool). opened_now s c && not b) (open_is c)
        ∙ sym (ended_was c)) kept
      where
        -- both calls are open
        is_open_now : (c : ℕ) → (c == a || c == b) ≡ true → open_now s c ≡ true
        is_open_now c e = elim (or_cases (c == a) (c == b) e) [
          | inl q ↦ ap (open_now s) (eqb-true c a q) ∙ finds.1.0
          | inr q ↦ ap (open_now s) (eqb-true c b q) ∙ finds.1.1
        ]

        -- what each of the two sent in its latest bridge
        right : (c k : ℕ) → (c == a || c == b) ≡ true → IsLatest (bridges s.done) c (Some k) → sent_so_far c ≡ sent_in_bridge r k c
        right c k e l =
            let o = is_open_now c e in
            let v = open_facts (gone_at (whole_in r) t s.done) s.done c (open_there c o) in
            ap (λ (x : Tally). x.sent) (history_is c (tally_in tallies c) o)
            ∙ ap (λ (u : ℕ). sent_now (periods_to r c (t - u)) (settings_now r s.done t c)) (start_is s.done c v.0 v.1)
            ∙ sym (sent_at_bridge r t s.done d due.rest a b c v.0 k _ (subst (IsSoFar r t s.done) due.left f.so_far) due.stamp under
            (subst (IsRun (whole_in r)) done_is g.so_far.replies) result e v.1 l)

    -- **What is noted of an accepted order keeps all that is noted right.**
    pub noted_accepted : (a : Act) → reply.result ≡ Ok a → Finds a (opened_now s) (open_now s) (partner_now s) →
        ((c : ℕ) → opened_now n c ≡ opened_after a (opened_now s) c) → ((c : ℕ) → open_now n c ≡ open_after a (open_now s) c) →
        ((c : ℕ) → tally_in tallies' c ≡ tallies_after a h (tally_in tallies) c) →
        IsNotedAt r n.done t (noted_by a (λ c. (kept_in tallies h c).sent) ns) tallies'
    noted_accepted (act.Opened m law) q finds opened open_is kept = opens_call m law (sym due.result ∙ q) finds opened open_is kept
    noted_accepted (act.Closed m p) q finds opened open_is kept = closes_call m p (sym due.result ∙ q) finds.0 opened open_is kept
    noted_accepted (act.Bridged a b) q finds opened open_is kept = bridges_calls a b (sym due.result ∙ q) finds opened open_is kept
    noted_accepted (act.Unbridged a b) q finds opened open_is kept = noted_quiet (Ok (act.Unbridged a b)) ns tallies tallies' q refl opened open_is kept noted
    noted_accepted (act.LevelSet c level) q finds opened open_is kept =
        noted_quiet (Ok (act.LevelSet c level)) ns tallies tallies' q refl opened open_is kept noted
    noted_accepted (act.DtxSet c mode) q finds opened open_is kept = noted_quiet (Ok (act.DtxSet c mode)) ns tallies tallies' q refl opened open_is kept noted
