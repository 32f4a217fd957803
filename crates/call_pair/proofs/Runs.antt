-- For crates above: a job of two bridged calls ends as their histories say (`two-finished`).
-- The job of two calls from place to place, for every history of theirs.
use Rattle.std.proofs.Common.{◌≡◌, ℕ, zero, suc, ◌+◌, ◌<◌, ◌≤◌, max, min, ltb, Bool, true, false, if◌then◌else◌, Option, Some, None, List, ◌∷◌, refl, sym, ap}
use Rattle.std.proofs.Common.{subst, ◌∙◌, ⊎_elim, arith}
use Rattle.std.proofs.lemmas.Bool.{cases_lt}
use Rattle.trau_params.specs.Bits260.{bits260}
use Rattle.rx_handler.specs.Origin.{EffectiveFields}
use Rattle.call_leg.specs.Uplink.{handed_fields}
use Rattle.call_leg.specs.Periods.{CallPeriod, effective_now}
use Rattle.call_leg.specs.Settings.{Settings, without_bridge, settings_at}
use Rattle.call_pair.specs.Memory.{IoMemory, HalfMemory, IsIo, places_left, Job, Two}
use Rattle.call_pair.specs.Periods.{has_period}
use Rattle.call_pair.specs.Turn.{effective, half_place, half_place_if, job_place}
use Rattle.call_pair.specs.Jobs.{job_left, after_job_places, finished_job}
use Rattle.call_pair.specs.History.{Start, period_at, handed_at, bridged_periods, settings_past, Begins, HasWorked}
use Rattle.call_pair.specs.Finished.{HasWorkedBridged, TwoWorked}
use Rattle.call_pair.proofs.Places.{is_below, not_below, is_same, is_past, is_before}
use Rattle.call_pair.proofs.Steps.{tells, half_bridged, left_alone, half_place-alone, half_place-bridged, tells-is, half_place-ends, left_alone-is, effective-is, bridged-worked}
use Rattle.call_pair.proofs.Steps.{first_left-worked, later_left-worked}
use Rattle.call_pair.proofs.RunsAlone.{placed, given-is, begun, begun-left, still-bridged, many-bridged}

-- ---- two calls

-- by whether each has a place
job_place-two : (g h : HalfMemory) (x y : Bool) (m : ℕ) → has_period g.io ≡ x →
    has_period h.io ≡ y → min g.io.given h.io.given ≡ m →
    job_place (Two g h) ≡ Two (half_place_if x m (effective m h) g) (half_place_if y m (effective m g) h)
job_place-two g h x y m e f l =
    ap (λ (n : ℕ). Two (half_place_if (has_period g.io) n (effective n h) g) (half_place_if (has_period h.io) n (effective n g) h)) l
    ∙ ap (λ (b : Bool). Two (half_place_if b m (effective m h) g) (half_place_if (has_period h.io) m (effective m g) h)) e
    ∙ ap (λ (b : Bool). Two (half_place_if x m (effective m h) g) (half_place_if b m (effective m g) h)) f

-- after k places of a call whose partner had fewer or as many
abbrev Left : Start → Start → ℕ → HalfMemory → Type 0
Left a b k g = HasWorked a k (bridged_periods k a b) (settings_past k b.io.given a.now) g

-- what is set past the partner's places, and not past them
pub set-past : (k others : ℕ) (now : Settings) (b : Bool) → ltb others k ≡ b → settings_past k others now
    ≡ (if b then without_bridge (settings_at k now) else settings_at k now)
set-past k others now b e = ap (λ (x : Bool). if x then without_bridge (settings_at k now) else settings_at k now) e

-- what is handed over, while there is a place and past all of them
pub handed-none : (k : ℕ) (s : Start) (ts : List CallPeriod) → s.io.given ≤ k → handed_at k s ts ≡ None
handed-none k s ts h = ap (λ (x : Bool). if x then Some (bits260 (handed_fields (effective_now s.io.call (period_at k s None ∷ ts)))) else None)
    (not_below k s.io.given h)

-- a partner with a place hands its effective frame over
pub handed-some : (k : ℕ) (s : Start) (ts : List CallPeriod) → k < s.io.given → handed_at k s ts
    ≡ Some (bits260 (handed_fields (effective_now s.io.call (period_at k s None ∷ ts))))
handed-some k s ts h = ap (λ (x : Bool). if x then Some (bits260 (handed_fields (effective_now s.io.call (period_at k s None ∷ ts)))) else None)
    (is_below k s.io.given h)

-- a half that has processed k places has k of them done
done-is : (s : Start) (k : ℕ) (ts : List CallPeriod) (now : Settings) (h : HalfMemory) → HasWorked s k ts now h → h.io.done ≡ k
done-is s k ts now h w = ap (λ (io : IoMemory). io.done) w.io

-- a place of a half whose partner has none left, whatever is told to it
half_place-left : (a b : Start) (k : ℕ) (e : EffectiveFields) (g : HalfMemory) →
    a.now.bridged ≡ true → b.io.given ≤ k →
    Left a b k g → half_place b.io.given e g ≡ left_alone g b.io.given
half_place-left a b k e g on from w =
    let ts = bridged_periods k a b in
    let others = b.io.given in
    let first = λ (same : k ≤ others).
    let w0 = subst (λ (set : Settings). HasWorked a k ts set g) (set-past k others a.now false (not_below others k same)) w in
    let d = done-is a k ts (settings_at k a.now) g w0 in
    let t = is_same g.io.done others (omega arith) in
    half_place-ends others e g (w0.leg.down.bridged ∙ still-bridged k a.now ∙ on) t ∙ sym (left_alone-is g others true t) in
    let later = λ (past : others < k).
    let w0 = subst (λ (set : Settings). HasWorked a k ts set g) (set-past k others a.now true (is_below others k past)) w in
    let d = done-is a k ts (without_bridge (settings_at k a.now)) g w0 in
    half_place-alone others e g w0.leg.down.bridged ∙ sym (left_alone-is g others false (is_past g.io.done others (omega arith))) in
    ⊎_elim later first (cases_lt others k)

-- a place more of a call that is left alone
left-more : (a b : Start) (k : ℕ) (g : HalfMemory) → IsIo a.io → a.now.bridged ≡ true → b.io.given ≤ k → k < a.io.given →
    Left a b k g → Left a b (suc k) (left_alone g b.io.given)
left-more a b k g room on from below w =
    let ts = bridged_periods k a b in
    let now = settings_at k a.now in
    let others = b.io.given in
    let next = λ (handed : Option (List ℕ)) (set : Settings). HasWorked a (suc k) (period_at k a handed ∷ ts) set (left_alone g others) in
    let first = λ (same : k ≤ others).
    let w0 = subst (λ (set : Settings). HasWorked a k ts set g) (set-past k others a.now false (not_below others k same)) w in
    let e : k ≡ others = omega arith in
    first_left-worked a k others ts now g room (many-bridged k a b) below e (still-bridged k a.now ∙ on) w0 in
    let later = λ (past : others < k).
    let w0 = subst (λ (set : Settings). HasWorked a k ts set g) (set-past k others a.now true (is_below others k past)) w in
    later_left-worked a k others ts now g room (many-bridged k a b) below past w0 in
    let worked : next None (without_bridge (settings_at (suc k) a.now)) = ⊎_elim later first (cases_lt others k) in
    let off = set-past (suc k) others a.now true (is_below others (suc k) (omega arith)) in
    subst (λ (handed : Option (List ℕ)). next handed (settings_past (suc k) others a.now)) (sym (handed-none k b (bridged_periods k b a) from))
    (subst (λ (set : Settings). next None set) (sym off) worked)

-- the first goes on alone, or is at its end as the second
first-runs : (a b : Start) (n k : ℕ) (g h : HalfMemory) → IsIo a.io → a.now.bridged ≡ true → b.io.given ≤ k → k + n ≡ a.io.given →
    Left a b k g → HasWorkedBridged b a h → TwoWorked a b (after_job_places n (Two g h))
first-runs a b zero k g h room on from e w v =
    let last : k ≡ a.io.given = omega arith in
    record { first = g; second = h; are_two = refl; first_worked = subst (λ (i : ℕ). Left a b i g) last w; second_worked = v }
first-runs a b (suc n) k g h room on from e w v =
    let below : k < a.io.given = omega arith in
    let more : suc k + n ≡ a.io.given = omega arith in
    let later : b.io.given ≤ suc k = omega arith in
    let place = placed a k (bridged_periods k a b) (settings_past k b.io.given a.now) g w ∙ is_below k a.io.given below in
    let none = placed b b.io.given (bridged_periods b.io.given b a) (settings_past b.io.given a.io.given b.now) h v
    ∙ not_below b.io.given b.io.given (omega arith) in
    let others = given-is b b.io.given (bridged_periods b.io.given b a) (settings_past b.io.given a.io.given b.now) h v in
    let own = given-is a k (bridged_periods k a b) (settings_past k b.io.given a.now) g w in
    let least : min g.io.given h.io.given ≡ b.io.given = omega arith in
    subst (λ (job : Job). TwoWorked a b (after_job_places n job))
    (sym (job_place-two g h true false b.io.given place none least ∙ ap (λ (x : HalfMemory). Two x h) (half_place-left a b k (effective b.io.given h) g on from w)))
    (first-runs a b n (suc k) (left_alone g b.io.given) h room on later more (left-more a b k g room on from below w) v)

-- the second goes on alone
second-runs : (a b : Start) (n k : ℕ) (g h : HalfMemory) → IsIo b.io → b.now.bridged ≡ true → a.io.given ≤ k → k + n ≡ b.io.given →
    HasWorkedBridged a b g → Left b a k h → TwoWorked a b (after_job_places n (Two g h))
second-runs a b zero k g h room on from e w v =
    let last : k ≡ b.io.given = omega arith in
    record { first = g; second = h; are_two = refl; first_worked = w; second_worked = subst (λ (i : ℕ). Left b a i h) last v }
second-runs a b (suc n) k g h room on from e w v =
    let below : k < b.io.given = omega arith in
    let more : suc k + n ≡ b.io.given = omega arith in
    let later : a.io.given ≤ suc k = omega arith in
    let place = placed b k (bridged_periods k b a) (settings_past k a.io.given b.now) h v ∙ is_below k b.io.given below in
    let none = placed a a.io.given (bridged_periods a.io.given a b) (settings_past a.io.given b.io.given a.now) g w
    ∙ not_below a.io.given a.io.given (omega arith) in
    let others = given-is a a.io.given (bridged_periods a.io.given a b) (settings_past a.io.given b.io.given a.now) g w in
    let own = given-is b k (bridged_periods k b a) (settings_past k a.io.given b.now) h v in
    let least : min g.io.given h.io.given ≡ a.io.given = omega arith in
    subst (λ (job : Job). TwoWorked a b (after_job_places n job))
    (sym (job_place-two g h false true a.io.given none place least ∙ ap (Two g) (half_place-left b a k (effective a.io.given g) h on from v)))
    (second-runs a b n (suc k) g (left_alone h a.io.given) room on later more w (left-more b a k h room on from below v))

-- after k places of a call and as many of its partner
abbrev Both : Start → Start → ℕ → HalfMemory → Type 0
Both a b k g = HasWorked a k (bridged_periods k a b) (settings_at k a.now) g

-- as long as the partner's places aren't past, so is the bridge
both-left : (a b : Start) (k : ℕ) (g : HalfMemory) → k ≤ b.io.given → Both a b k g → Left a b k g
both-left a b k g within w =
    subst (λ (set : Settings). HasWorked a k (bridged_periods k a b) set g) (sym (set-past k b.io.given a.now false (not_below b.io.given k within))) w

-- a place more of a call in a bridge
both-more : (a b : Start) (k : ℕ) (g h : HalfMemory) → IsIo a.io → IsIo b.io → a.now.bridged ≡ true → k < a.io.given → k < b.io.given →
    Both a b k g → Both b a k h → Both a b (suc k) (half_bridged g (tells h))
both-more a b k g h room room' on below below' w v =
    let ts = bridged_periods k a b in
    let us = bridged_periods k b a in
    let heard : tells h ≡ effective_now b.io.call (period_at k b None ∷ us) = effective-is b k us (settings_at k b.now) h room' below' v in
    let handed = ap (λ (e : EffectiveFields). Some (bits260 (handed_fields e))) heard ∙ sym (handed-some k b us below') in
    subst (λ (x : Option (List ℕ)). HasWorked a (suc k) (period_at k a x ∷ ts) (settings_at (suc k) a.now) (half_bridged g (tells h))) handed
    (bridged-worked a k ts (settings_at k a.now) g (tells h) room (many-bridged k a b) below (still-bridged k a.now ∙ on) w)

-- a place of two halves that both have one
half_place-both : (a b : Start) (k : ℕ) (g h : HalfMemory) → a.now.bridged ≡ true →
    b.now.bridged ≡ true → k < a.io.given → k < b.io.given → Both a b k g →
    Both b a k h →
    let m = min g.io.given h.io.given in
    Two (half_place m (effective m h) g) (half_place m (effective m g) h) ≡ Two (half_bridged g (tells h)) (half_bridged h (tells g))
half_place-both a b k g h on on' below below' w v =
    let m = min g.io.given h.io.given in
    let e = given-is a k (bridged_periods k a b) (settings_at k a.now) g w in
    let e' = given-is b k (bridged_periods k b a) (settings_at k b.now) h v in
    let d = done-is a k (bridged_periods k a b) (settings_at k a.now) g w in
    let d' = done-is b k (bridged_periods k b a) (settings_at k b.now) h v in
    let t = is_before g.io.done m (omega arith) in
    let t' = is_before h.io.done m (omega arith) in
    let o = w.leg.down.bridged ∙ still-bridged k a.now ∙ on in
    let o' = v.leg.down.bridged ∙ still-bridged k b.now ∙ on' in
    let f = half_place-bridged m (effective m h) g o t ∙ ap (half_bridged g) (tells-is m h o' t') in
    let f' = half_place-bridged m (effective m g) h o' t' ∙ ap (half_bridged h) (tells-is m g o t) in
    ap (λ (x : HalfMemory). Two x (half_place m (effective m g) h)) f ∙ ap (Two (half_bridged g (tells h))) f'

-- the job of two calls in a bridge, n turns long
both-run : (a b : Start) (n k : ℕ) (g h : HalfMemory) → IsIo a.io → IsIo b.io → a.now.bridged ≡ true → b.now.bridged ≡ true →
    k ≤ a.io.given → k ≤ b.io.given → k + n ≡ max a.io.given b.io.given → Both a b k g → Both b a k h → TwoWorked a b (after_job_places n (Two g h))
both-run a b zero k g h room room' on on' within within' e w v =
    let end : k ≡ b.io.given = omega arith in
    first-runs a b 0 k g h room on (omega arith) (omega arith) (both-left a b k g within' w) (subst (λ (i : ℕ). Left b a i h) end (both-left b a k h within v))
both-run a b (suc n) k g h room room' on on' within within' e w v =
    let others = λ (le : b.io.given ≤ k).
    let end : k ≡ b.io.given = omega arith in
    first-runs a b (suc n) k g h room on le (omega arith) (both-left a b k g within' w) (subst (λ (i : ℕ). Left b a i h) end (both-left b a k h within v)) in
    let own = λ (le : a.io.given ≤ k) (lt : k < b.io.given).
    let end : k ≡ a.io.given = omega arith in
    second-runs a b (suc n) k g h room' on' le (omega arith) (subst (λ (i : ℕ). Left a b i g) end (both-left a b k g within' w)) (both-left b a k h within v) in
    let both = λ (lt : k < a.io.given) (lt' : k < b.io.given).
    let place = placed a k (bridged_periods k a b) (settings_at k a.now) g w ∙ is_below k a.io.given lt in
    let place' = placed b k (bridged_periods k b a) (settings_at k b.now) h v ∙ is_below k b.io.given lt' in
    subst (λ (job : Job). TwoWorked a b (after_job_places n job)) (sym (job_place-two g h true true (min g.io.given h.io.given) place place' refl
    ∙ half_place-both a b k g h on on' lt lt' w v))
    (both-run a b n (suc k) (half_bridged g (tells h)) (half_bridged h (tells g)) room room' on on' (omega arith) (omega arith) (omega arith)
    (both-more a b k g h room room' on lt lt' w v) (both-more b a k h g room' room on' lt' lt v w)) in
    ⊎_elim (λ (lt' : k < b.io.given). ⊎_elim (λ (lt : k < a.io.given). both lt lt') (λ (le : a.io.given ≤ k). own le lt') (cases_lt k a.io.given)) others
    (cases_lt k b.io.given)

-- the job of two calls in a bridge, at its end
pub two-finished : (a b : Start) (g h : HalfMemory) → Begins a g → Begins b h →
    a.now.bridged ≡ true → b.now.bridged ≡ true → TwoWorked a b (finished_job (Two g h))
two-finished a b g h start start' on on' =
    let n : job_left (Two g h) ≡ max a.io.given b.io.given = ap (λ (m : ℕ). max m (places_left h.io)) (begun-left a g start)
    ∙ ap (max a.io.given) (begun-left b h start') in
    both-run a b (job_left (Two g h)) 0 g h start.octets start'.octets on on' (omega arith) (omega arith) (omega (arith, n)) (begun a g start)
    (begun b h start')
