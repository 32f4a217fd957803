-- A round of n periods adds to each call's history what the run's definition has.
use Rattle.std.proofs.Common.{◌≡◌, refl, sym, ap, ◌∙◌, ℕ, zero, suc, ◌+◌, ◌-◌, ◌<◌, ◌≤◌, Bool, true, false, Option, Some, None, List, ◌∷◌, arith}
use Rattle.std.specs.Prelude.{ℤ, ◌&&◌, is_some, option_map, nat_lt, if◌then◌else◌}
use Rattle.trau_orders.specs.declared.order.Order.{Order}
use Rattle.trau_orders.specs.declared.order.DtxMode.{DtxMode}
use Rattle.switchboard.specs.declared.table.Bridge.{Bridge}
use Rattle.switchboard.specs.Calls.{Done, is_open, gone_at}
use Rattle.switchboard.specs.Bridges.{other, bridge_of}
use Rattle.switchboard.specs.Ends.{start_of}
use Rattle.call_leg.specs.Periods.{CallPeriod}
use Rattle.call_leg.specs.Settings.{Settings, settings_later, settings_at, without_bridge, period_with}
use Rattle.call_pair.specs.Memory.{IoMemory}
use Rattle.call_pair.specs.Periods.{up_at, pcm_at}
use Rattle.call_pair.specs.History.{period_at, alone_periods}
use Rattle.run_spec.specs.Run.{Run, whole_in, up_in, pcm_in, ups_to, item_of, periods_to}
use Rattle.run_spec.specs.Now.{bridge_now, handed_now, period_now, settings_now, settings_in}
use Rattle.run_spec.proofs.Periods.SoFar.{standing_now}
use Rattle.run_spec.proofs.Bridges.Later.{bridge_after, same_settings, next_settings}
use Rattle.run_spec.proofs.Periods.Next.{period_by, periods_more}
use Rattle.farm_run.proofs.Rounds.Taken.{IsRound, IsFed, start_at, places_in}
use Rattle.farm_run.proofs.Rounds.Open.{IsOpenAt, open_at, no_order, bridge_at_place}

-- ---- what is set in the round

-- fields of settings
abbrev level_of : Settings → ℤ
level_of now = now.level

abbrev mode_of : Settings → DtxMode
mode_of now = now.mode

abbrev starts_in : Settings → Bool
starts_in now = now.starts

abbrev pub bridged_in : Settings → Bool
bridged_in now = now.bridged

-- periods change nothing of whether a call is bridged
pub bridge_kept : (k : ℕ) (now : Settings) → bridged_in (settings_at k now) ≡ bridged_in now
bridge_kept zero now = refl
bridge_kept (suc k) now = bridge_kept k now

-- what is set for a place is what the run has set for its period, but for the bridge
pub settings_kept : (r : Run) (t n : ℕ) (ds : List Done) (left : List Order) (c k : ℕ) → IsRound r t n ds left → k ≤ n →
    without_bridge (settings_at k (settings_now r ds t c)) ≡ without_bridge (settings_now r ds (t + k) c)
settings_kept r t n ds left c zero h l = let e : t ≡ t + 0 = omega arith in ap (λ u. without_bridge (settings_now r ds u c)) e
settings_kept r t n ds left c (suc k) h l =
    let within = h.within in
    let e : t + k + 1 ≡ t + suc k = omega arith in
    ap settings_later (settings_kept r t n ds left c k h (omega arith))
    ∙ ap settings_later (by (is_some (bridge_now r ds (t + k) c)))
    ∙ ap without_bridge (sym (next_settings r t (t + k) ds c (standing_now r t ds left h.so_far) (omega arith) (omega arith)))
    ∙ ap (λ u. without_bridge (settings_now r ds u c)) e
  where
    by : (b : Bool) → without_bridge (settings_now r ds (t + k) c) ≡ without_bridge
        (if b then settings_now r ds (t + k) c else without_bridge (settings_now r ds (t + k) c))
    by true = refl
    by false = refl

-- settings that differ in no other field and are bridged alike are the same
pub but_for_bridge : (x y : Settings) → without_bridge x ≡ without_bridge y → bridged_in x ≡ bridged_in y → x ≡ y
but_for_bridge x y e b = same_settings x.level y.level x.mode y.mode x.starts y.starts x.bridged y.bridged (ap level_of e) (ap mode_of e) (ap starts_in e) b

-- ---- a place's period

-- **The period of a place is the run's, with what is handed over in it.**
place_period : (r : Run) (t n : ℕ) (ds : List Done) (left : List Order) (c k : ℕ) (io : IoMemory) →
    IsRound r t n ds left → IsOpenAt r t ds c →
    IsFed r ds t n c io → k < io.given →
    period_at k (start_at r ds t c io) (handed_now r ds (t + k) c) ≡ period_now r ds (t + k) c
place_period r t n ds left c k io h o f l =
    let given = f.given in
    let begun = o.begun in
    let at : t - start_of ds c + k ≡ t + k - start_of ds c = omega arith in
    let now = settings_at k (settings_now r ds t c) in
    let handed = handed_now r ds (t + k) c in
    ap (λ (s : Settings). period_with s (up_at k io) (pcm_at k io) handed)
    (settings_kept r t n ds left c k h (omega arith) ∙ worked (is_some (bridge_now r ds (t + k) c)))
    ∙ ap (λ (up : List ℕ). period_with (settings_in r ds (t + k) c) up (pcm_at k io) handed) (f.up k l ∙ ap (up_in r c) at)
    ∙ ap (λ (pcm : List ℕ). period_with (settings_in r ds (t + k) c) (up_in r c (t + k - start_of ds c)) pcm handed) (f.pcm k l ∙ ap (pcm_in r c) at)
    ∙ sym (period_by r ds (t + k) c)
  where
    worked : (b : Bool) → without_bridge (settings_now r ds (t + k) c)
        ≡ without_bridge (if b then settings_now r ds (t + k) c else without_bridge (settings_now r ds (t + k) c))
    worked true = refl
    worked false = refl

-- one place more is one period more
pub place_more : (r : Run) (t n : ℕ) (ds : List Done) (left : List Order) (c k : ℕ) (io : IoMemory)
    (handed : Option (List ℕ)) (past : List CallPeriod) →
    IsRound r t n ds left → IsOpenAt r t ds c → IsFed r ds t n c io → k < io.given →
    handed ≡ handed_now r ds (t + k) c → past ≡ periods_to r c (t + k - start_of ds c) →
    period_at k (start_at r ds t c io) handed ∷ past ≡ periods_to r c (t + suc k - start_of ds c)
place_more r t n ds left c k io handed past h o f l e p =
    let given = f.given in
    let within = h.within in
    let next : t + k + 1 ≡ t + suc k = omega arith in
    ap (λ (x : Option (List ℕ)). period_at k (start_at r ds t c io) x ∷ past) e
    ∙ ap (λ (ts : List CallPeriod). period_at k (start_at r ds t c io) (handed_now r ds (t + k) c) ∷ ts) p
    ∙ ap (λ (x : CallPeriod). x ∷ periods_to r c (t + k - start_of ds c)) (place_period r t n ds left c k io h o f l)
    ∙ sym (periods_more r t (t + k) ds left c (start_of ds c) h.so_far (omega arith) (omega arith) (no_order r t n ds left (t + k) h (omega arith)) o.opened)
    ∙ ap (λ (u : ℕ). periods_to r c (u - start_of ds c)) next

-- ---- a call that lies in no bridge

-- period by period, for the first k of them
alone_go : (r : Run) (t n : ℕ) (ds : List Done) (left : List Order) (c k : ℕ) (io : IoMemory) → IsRound r t n ds left →
    IsOpenAt r t ds c → IsFed r ds t n c io →
    bridge_of (gone_at (whole_in r) t ds) ds c ≡ None → k ≤ io.given →
    alone_periods k (start_at r ds t c io) ≡ periods_to r c (t + k - start_of ds c)
alone_go r t n ds left c zero io h o f b l = let e : t ≡ t + 0 = omega arith in ap (λ (u : ℕ). periods_to r c (u - start_of ds c)) e
alone_go r t n ds left c (suc k) io h o f b l =
    let given = f.given in
    let none : bridge_now r ds (t + k) c ≡ None = bridge_at_place r t n ds left c k h (omega arith)
    ∙ ap (λ (o : Option Bridge). elim o [
      | None ↦ None
      | Some x ↦ if nat_lt k (places_in r ds t n x.a) && nat_lt k
          (places_in r ds t n x.b) then Some x else None
    ]) b in
    place_more r t n ds left c k io None (alone_periods k (start_at r ds t c io)) h o f (omega arith)
    (sym (ap (option_map (λ (x : Bridge). let d = other c x in item_of d (ups_to r d (t + k + 1 - start_of ds d)))) none))
    (alone_go r t n ds left c k io h o f b (omega arith))

-- **The periods of a call that lies in no bridge.**
pub alone_worked : (r : Run) (t n : ℕ) (ds : List Done) (left : List Order) (c : ℕ) (io : IoMemory) → IsRound r t n ds left →
    is_open (gone_at (whole_in r) t ds) ds c ≡ true → IsFed r ds t n c io →
    bridge_of (gone_at (whole_in r) t ds) ds c ≡ None →
    alone_periods io.given (start_at r ds t c io)
    ≡ periods_to r c (t + io.given - start_of ds c)
alone_worked r t n ds left c io h o f b = alone_go r t n ds left c io.given io h (open_at r t ds c (standing_now r t ds left h.so_far) o) f b (omega arith)

-- **What is set for its next period.**
pub alone_settings : (r : Run) (t n : ℕ) (ds : List Done) (left : List Order) (c k : ℕ) → IsRound r t n ds left →
    bridge_of (gone_at (whole_in r) t ds) ds c ≡ None → k ≤ n →
    settings_at k (settings_now r ds t c) ≡ settings_now r ds (t + k) c
alone_settings r t n ds left c k h b l =
    but_for_bridge _ _ (settings_kept r t n ds left c k h l) (bridge_kept k (settings_now r ds t c) ∙ ap is_some b ∙ sym (ap is_some (none k l)))
  where
    none : (k : ℕ) → k ≤ n → bridge_of (gone_at (whole_in r) (t + k) ds) ds c ≡ None
    none zero l = let e : t + 0 ≡ t = omega arith in ap (λ (u : ℕ). bridge_of (gone_at (whole_in r) u ds) ds c) e ∙ b
    none (suc k) l =
        let within = h.within in
        let e : t + suc k ≡ t + k + 1 = omega arith in
        ap (λ (u : ℕ). bridge_of (gone_at (whole_in r) u ds) ds c) e
        ∙ bridge_after r t (t + k) ds c (standing_now r t ds left h.so_far) (omega arith)
        ∙ bridge_at_place r t n ds left c k h (omega arith)
        ∙ ap (λ (o : Option Bridge). elim o [
          | None ↦ None
          | Some x ↦ if nat_lt k (places_in r ds t n x.a) && nat_lt k
              (places_in r ds t n x.b) then Some x else None
        ]) b
