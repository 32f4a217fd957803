-- For crates above: what the next period of a call has in a run so far: its start, law, settings, uplink and handed
-- item (`periods_more`).
use Rattle.std.proofs.Common.{◌≡◌, refl, sym, ap, ◌∙◌, ℕ, zero, suc, ◌+◌, ◌-◌, ◌<◌, ◌≤◌, Bool, true, false, Some, None, List, [], ◌∷◌, ◌++◌, map}
use Rattle.std.proofs.Common.{arith}
use Rattle.std.specs.Prelude.{Ok, ◌&&◌, ◌||◌, is_some, ◌==◌, if◌then◌else◌}
use Rattle.std.specs.List.{list_any}
use Rattle.std.proofs.lemmas.Bool.{eq-eqb, or_right, or_left, and_from}
use Rattle.std.proofs.lemmas.List.Folds.{list_any-append}
use Rattle.trau_params.specs.Bits260.{bits260}
use Rattle.trau_orders.specs.declared.order.Order.{Order}
use Rattle.switchboard.specs.declared.act.Act.TheVariants as act
use Rattle.switchboard.specs.Calls.{Done, opened_at, law_at}
use Rattle.switchboard.specs.Runs.{IsRun}
use Rattle.switchboard.specs.Bridges.{bridges, bridge_by, joins}
use Rattle.switchboard.specs.Ends.{start_of}
use Rattle.frame_sync.specs.Periods.{yield_of}
use Rattle.rx_handler.specs.Past.{effective_of}
use Rattle.call_leg.specs.Uplink.{sighting_in, heard_as, handed_fields}
use Rattle.call_leg.specs.Periods.{CallPeriod, ups_of, sighting_after, heard_of, effective_now}
use Rattle.call_leg.specs.Settings.{Settings, without_bridge, period_with}
use Rattle.call_leg.specs.Down.{down_periods, frames_of}
use Rattle.down_framer.specs.Made.{handed_due}
use Rattle.run_spec.specs.Run.{Run, whole_in, done_in, law_in, up_in, pcm_in, ups_to, heard_by, item_of, period_of, periods_to}
use Rattle.run_spec.specs.Now.{IsSoFar, NoOrderTo, bridge_now, handed_now, period_now, settings_now, settings_in}
use Rattle.switchboard.proofs.Orders.GivenLaws.{law_stays}
use Rattle.run_spec.proofs.Lists.{some_mapped, any_map}
use Rattle.run_spec.proofs.Orders.Executed.{after_all, bridges-append}
use Rattle.run_spec.proofs.Orders.OpenCalls.{opened_kept}
use Rattle.run_spec.proofs.Periods.Settled.{start_is}
use Rattle.run_spec.proofs.Periods.SoFar.{rest_in, done-rest, standing_now, so_far_more}
use Rattle.run_spec.proofs.Periods.Same.{period_settled}
use Rattle.run_spec.proofs.Bridges.Later.{settings_bridged}
use Rattle.run_spec.proofs.Orders.NewOrder.{starts-more}
use Rattle.run_spec.proofs.Bridges.Covered.{begins, begins_is}
use Rattle.run_spec.proofs.Periods.History.{periods_history}

-- ---- a period, by its settings

-- **A period is worked with the settings of its start.**
pub period_by : (r : Run) (ds : List Done) (u c : ℕ) →
    period_now r ds u c ≡ period_with (settings_in r ds u c) (up_in r c (u - start_of ds c)) (pcm_in r c (u - start_of ds c)) (handed_now r ds u c)
period_by r ds u c = by (is_some (bridge_now r ds u c))
  where
    by : (b : Bool) → period_now r ds u c ≡
        period_with (if b then settings_now r ds u c else without_bridge (settings_now r ds u c)) (up_in r c (u - start_of ds c))
        (pcm_in r c (u - start_of ds c)) (handed_now r ds u c)
    by true = refl
    by false = refl

-- whether these settings have a bridge
abbrev is_bridged : Settings → Bool
is_bridged now = now.bridged

-- **Something is handed over exactly in a bridge.**
pub handed_bridged : (r : Run) (t u : ℕ) (ds : List Done) (left : List Order) (c : ℕ) → IsSoFar r t ds left → t ≤ u →
    is_some (handed_now r ds u c) ≡ is_bridged (settings_in r ds u c)
handed_bridged r t u ds left c s l = some_mapped _ (bridge_now r ds u c) ∙ sym (ap is_bridged (settings_bridged r t u ds c (standing_now r t ds left s) l))

-- one period more
pub periods_more : (r : Run) (t u : ℕ) (ds : List Done) (left : List Order) (c s : ℕ) → IsSoFar r t ds left → t ≤ u → u < r.periods → NoOrderTo u left →
    opened_at c ds ≡ Some s →
    periods_to r c (u + 1 - s) ≡ period_now r ds u c ∷ periods_to r c (u - s)
periods_more r t u ds left c s so tu up n o =
    let begun : s ≤ t = (standing_now r t ds left so).opened c s o in
    let e : u + 1 - s ≡ suc (u - s) = omega arith in
    ap (periods_to r c) e ∙ ap (λ p. p ∷ periods_to r c (u - s)) (period_settled r t u ds left c s so tu up n o)

-- ---- a call's opening

-- a call that was opened so far is opened in the whole run
pub opened_run : (r : Run) (t : ℕ) (ds : List Done) (left : List Order) (c s : ℕ) → IsSoFar r t ds left → opened_at c ds ≡ Some s →
    opened_at c (done_in r) ≡ Some s
opened_run r t ds left c s so o = ap (opened_at c) (done-rest r t ds left so) ∙ opened_kept ds (rest_in r ds left) c s o

-- at the same period
pub start_run : (r : Run) (t : ℕ) (ds : List Done) (left : List Order) (c s : ℕ) → IsSoFar r t ds left → opened_at c ds ≡ Some s → start_of (done_in r) c ≡ s
start_run r t ds left c s so o = start_is (done_in r) c s (opened_run r t ds left c s so o)

-- with the same law
pub law_run : (r : Run) (t : ℕ) (ds : List Done) (left : List Order) (c s : ℕ) → IsSoFar r t ds left → opened_at c ds ≡ Some s → law_in r c ≡ law_at c ds
law_run r t ds left c s so o = ap (law_at c) (done-rest r t ds left so) ∙ law_stays c ds (rest_in r ds left) (ap is_some o)

-- ---- what is handed over

-- what is heard depends on the uplink alone
pub heard_ups : (ts : List CallPeriod) → heard_by (ups_of ts) ≡ heard_of ts
unfolding sighting_after
heard_ups [] = refl
heard_ups (t ∷ past) = ap (λ hs. heard_as (sighting_in (yield_of t.up (ups_of past))) ∷ hs) (heard_ups past)

-- the uplink of a run's periods
pub ups_periods : (r : Run) (c n : ℕ) → ups_of (periods_to r c n) ≡ ups_to r c n
unfolding period_of
ups_periods r c zero = refl
ups_periods r c (suc k) = ap (λ ups. up_in r c k ∷ ups) (ups_periods r c k)

-- the item of a call's newest period is that of its effective frame
pub item_ups : (c : ℕ) (ts : List CallPeriod) → item_of c (ups_of ts) ≡ bits260 (handed_fields (effective_now c ts))
unfolding item_of
item_ups c ts = ap (λ hs. bits260 (handed_fields (effective_of c hs))) (heard_ups ts)

-- ---- a bridge begins

-- **Where an order makes a bridge, no handed frame of its calls waits.**
pub none_waits : (r : Run) (t : ℕ) (ds : List Done) (d : Done) (left : List Order) (a b c s : ℕ) → IsSoFar r t ds (d.order ∷ left) → d.order.stamp ≡ t →
    t < r.periods → IsRun (whole_in r) (ds ++ d ∷ []) →
    d.result ≡ Ok (act.Bridged a b) → (c == a || c == b) ≡ true → opened_at c ds ≡ Some s →
    handed_due (down_periods (periods_to r c (t - s))) (frames_of (periods_to r c (t - s))) ≡ None
unfolding period_of
none_waits r t ds d left a b c s so e l run w j op =
    let begun : s ≤ t = (standing_now r t ds (d.order ∷ left) so).opened c s op in
    let from : start_of (done_in r) c ≡ s = start_run r t ds (d.order ∷ left) c s so op in
    let at : start_of (done_in r) c + (t - s) ≡ t = omega (arith, from) in
    let h = periods_history r c (suc (t - s)) so.orders in
    h.1 (ap (begins r c) at ∙ begins_is r c t ∙ ap (list_any (λ x. joins c x && x.from == t)) whole
    ∙ list_any-append (λ x. joins c x && x.from == t) (map (after_all (rest_in r (ds ++ d ∷ []) left)) (bridges (ds ++ d ∷ [])))
    (bridges (rest_in r (ds ++ d ∷ []) left))
    ∙ or_left _ (list_any (λ x. joins c x && x.from == t) (bridges (rest_in r (ds ++ d ∷ []) left)))
    (any_map (λ x. joins c x && x.from == t) (after_all (rest_in r (ds ++ d ∷ []) left)) (bridges (ds ++ d ∷ [])) ∙ starts-more c t ds d
    ∙ or_right (list_any (λ x. joins c x && x.from == t) (bridges ds)) _
    (ap (λ res. list_any (λ x. joins c x && x.from == t) (bridge_by d.order.stamp res [])) w ∙ or_left _ false (and_from _ _ j (eq-eqb d.order.stamp t e)))))
  where
    whole : bridges (done_in r) ≡ map (after_all (rest_in r (ds ++ d ∷ []) left)) (bridges (ds ++ d ∷ [])) ++ bridges (rest_in r (ds ++ d ∷ []) left)
    whole =
        ap bridges (done-rest r t (ds ++ d ∷ []) left (so_far_more r t ds d left so e l run)) ∙ bridges-append (ds ++ d ∷ []) (rest_in r (ds ++ d ∷ []) left)
