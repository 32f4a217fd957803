-- For crates above: the call of a history has its yields, effective frames and settings (`yield-period`,
-- `effective-period`), given `LooksBack`.
-- The call of a history says of each period what the history says.
use Rattle.std.proofs.Common.{◌≡◌, refl, sym, ap, ◌∙◌, subst, ℕ, ◌*◌, ◌<◌, suc, pos, false, None, List, [], ◌∷◌, ◌++◌, length, map, take, drop, reverse, All}
use Rattle.std.proofs.Common.{get_or, arith, append_assoc, length-append}
use Rattle.std.specs.List.{range_with_len}
use Rattle.std.proofs.lemmas.List.{append-nil, reverse-append, reverse-reverse, length-reverse, get_or_append_left, take_at, drop_at}
use Rattle.std.proofs.lemmas.List.Elements.{All-head, All-tail}
use Rattle.std.proofs.lemmas.List.FromFn.{length-map-range_with_len, get_or-map-range_with_len}
use Rattle.trau_orders.specs.declared.order.DtxMode.TheVariants.{Uplink}
use Rattle.frame_sync.specs.Periods.{yield_of, each_yield}
use Rattle.rx_handler.specs.Heard.{Heard}
use Rattle.rx_handler.specs.Effective.{effective_at, effectives, heard_in}
use Rattle.rx_handler.specs.Origin.{EffectiveFields, Quiet}
use Rattle.rx_handler.specs.Past.{effective_of}
use Rattle.rx_handler.specs.Memory.{RxMemory, home_memory}
use Rattle.rx_handler.specs.Step.{received, all_received}
use Rattle.down_framer.specs.ByNumber.{asked_fields}
use Rattle.call_leg.specs.Who.{Who}
use Rattle.call_leg.specs.Uplink.{sighting_in, heard_as, field_of, dtxd_after}
use Rattle.call_leg.specs.Periods.{CallPeriod, ups_of, sighting_after, heard_of, effective_now, dtxd_of, dtx_in, dtx_now}
use Rattle.call_leg.specs.Down.{down_periods}
use Rattle.call_spec.specs.Call.{setting_at, each_period, up_periods, yield_at, seen_at, heard_at, effective_frame, fields, dtxd_at, dtx_at}
use Rattle.call_spec.specs.History.{IsCallHistory, up_in_history, setting_of, settings_of, call_of_history}
use Rattle.call_spec.proofs.Ranges.{IsPeriod, one_before, each, each-numbered, each_back, each-reverse, each-at}

-- ---- the Up line

length-up_of : (ts : List CallPeriod) → All (λ t. length t.up ≡ 40) ts → length (up_in_history ts) ≡ 40 * length ts
length-up_of [] h = refl
length-up_of (t ∷ past) h =
    let one = All-head (λ t. length t.up ≡ 40) t past h in
    let rest = length-up_of past (All-tail (λ t. length t.up ≡ 40) t past h) in
    length-append (up_in_history past) t.up ∙ omega arith

up-later : (later ts : List CallPeriod) → (more : List ℕ) × (up_in_history (later ++ ts) ≡ up_in_history ts ++ more)
up-later [] ts = ([], sym (append-nil (up_in_history ts)))
up-later (t ∷ later) ts =
    let before = up-later later ts in
    (before.0 ++ t.up, ap (λ z. z ++ t.up) before.1 ∙ append_assoc (up_in_history ts) before.0 t.up)

ups-earlier : (later ts : List CallPeriod) → All (λ t. length t.up ≡ 40) (later ++ ts) → All (λ t. length t.up ≡ 40) ts
ups-earlier [] ts h = h
ups-earlier (t ∷ later) ts h = ups-earlier later ts (All-tail (λ t. length t.up ≡ 40) t (later ++ ts) h)

-- the octets of a period stand at its place
up-at : (later : List CallPeriod) (t : CallPeriod) (past : List CallPeriod) → All (λ t. length t.up ≡ 40) (later ++ t ∷ past) →
    take 40 (drop (40 * length past) (up_in_history (later ++ t ∷ past))) ≡ t.up
up-at later t past h =
    let now = ups-earlier later (t ∷ past) h in
    let one = All-head (λ t. length t.up ≡ 40) t past now in
    let rest = length-up_of past (All-tail (λ t. length t.up ≡ 40) t past now) in
    let more = up-later later (t ∷ past) in
    ap (λ z. take 40 (drop (40 * length past) z)) (more.1 ∙ append_assoc (up_in_history past) t.up more.0) ∙
    ap (take 40) (drop_at (up_in_history past) (t.up ++ more.0) (40 * length past) rest) ∙ take_at t.up more.0 40 one

pub length-settings_of : (ts : List CallPeriod) → length (settings_of ts) ≡ length ts
length-settings_of [] = refl
length-settings_of (t ∷ past) = let n = length-settings_of past in length-append (settings_of past) (setting_of t ∷ []) ∙ omega arith

-- what is said of each period, by its number
pub each-of : {B : Type 0} (who : Who) (ts : List CallPeriod) (f : ℕ → B) (value : CallPeriod → List CallPeriod → B) →
    ((t : CallPeriod) (past : List CallPeriod) → IsPeriod ts t past → f (length past) ≡ value t past) →
    map f (each_period (call_of_history who ts)) ≡ each value ts
each-of who ts f value h = ap (λ n. map f (range_with_len 0 n)) (length-settings_of ts) ∙ each-numbered ts f value h

ups-back : (ts : List CallPeriod) → each_back (λ t past. t.up) ts ≡ ups_of ts
ups-back [] = refl
ups-back (t ∷ past) = ap (λ z. t.up ∷ z) (ups-back past)

-- the call's periods of the Up line are the history's
pub ups-read : (who : Who) (ts : List CallPeriod) → IsCallHistory ts → up_periods (call_of_history who ts) ≡ reverse (ups_of ts)
ups-read who ts h =
    each-of who ts (λ k. take 40 (drop (40 * k) (up_in_history ts))) (λ t past. t.up)
    (λ t past p.
    ap (λ us. take 40 (drop (40 * length past) (up_in_history us))) (sym p.1)
    ∙ up-at p.0 t past (subst (λ us. All (λ t. length t.up ≡ 40) us) (sym p.1) h.ups)) ∙
    each-reverse (λ t past. t.up) ts ∙ ap reverse (ups-back ts)

-- ---- what the search finds

-- what each period yields
yields-each : (ts : List CallPeriod) → each_yield (ups_of ts) ≡ each (λ t past. yield_of t.up (ups_of past)) ts
unfolding each_yield
yields-each [] = refl
yields-each (t ∷ past) = ap (λ z. z ++ yield_of t.up (ups_of past) ∷ []) (yields-each past)

-- **A period yields what the search over the whole line yields in it.**
pub yield-period : (who : Who) (ts : List CallPeriod) (t : CallPeriod) (past : List CallPeriod) → IsCallHistory ts → IsPeriod ts t past →
    yield_at (call_of_history who ts) (length past) ≡ yield_of t.up (ups_of past)
yield-period who ts t past h p =
    ap (λ us. get_or (each_yield (reverse us)) (length past) None) (ups-read who ts h) ∙
    ap (λ us. get_or (each_yield us) (length past) None) (reverse-reverse (ups_of ts)) ∙
    ap (λ ys. get_or ys (length past) None) (yields-each ts) ∙
    each-at (λ t past. yield_of t.up (ups_of past)) None ts t past p

-- so what is seen is the same
pub seen-period : (who : Who) (ts : List CallPeriod) (t : CallPeriod) (past : List CallPeriod) → IsCallHistory ts → IsPeriod ts t past →
    seen_at (call_of_history who ts) (length past) ≡ sighting_after past t.up
unfolding sighting_after
seen-period who ts t past h p = ap sighting_in (yield-period who ts t past h p)

-- ---- effective frames

heards-back : (ts : List CallPeriod) → each_back (λ t past. heard_as (sighting_after past t.up)) ts ≡ heard_of ts
heards-back [] = refl
heards-back (t ∷ past) = ap (λ z. heard_as (sighting_after past t.up) ∷ z) (heards-back past)

-- and what is heard in all periods
heards-read : (who : Who) (ts : List CallPeriod) → IsCallHistory ts →
    map (heard_at (call_of_history who ts)) (each_period (call_of_history who ts)) ≡ reverse (heard_of ts)
heards-read who ts h =
    each-of who ts (heard_at (call_of_history who ts)) (λ t past. heard_as (sighting_after past t.up))
    (λ t past p. ap heard_as (seen-period who ts t past h p)) ∙
    each-reverse (λ t past. heard_as (sighting_after past t.up)) ts ∙ ap reverse (heards-back ts)

heards-later : (later ts : List CallPeriod) → (more : List Heard) × (heard_of (later ++ ts) ≡ more ++ heard_of ts)
heards-later [] ts = ([], refl)
heards-later (t ∷ later) ts =
    let before = heards-later later ts in
    (heard_as (sighting_after (later ++ ts) t.up) ∷ before.0, ap (λ z. heard_as (sighting_after (later ++ ts) t.up) ∷ z) before.1)

length-heard_of : (ts : List CallPeriod) → length (heard_of ts) ≡ length ts
length-heard_of [] = refl
length-heard_of (t ∷ past) = ap suc (length-heard_of past)

-- The laws of effective frames: that of the newest period is that of the last one so far, and all are what a table of
-- states gives.
pub record LooksBack : Type 0 where
  pub newest : (call : ℕ) (y : Heard) (past : List Heard) → effective_of call (y ∷ past) ≡ effective_at call (heard_in (reverse (y ∷ past))) (length past)
  pub table : (call : ℕ) (ys : List Heard) → all_received (home_memory call) ys ≡ effectives call ys

received-front : (memory : RxMemory) (ys zs : List Heard) → (more : List EffectiveFields) × (all_received memory (ys ++ zs) ≡ all_received memory ys ++ more)
unfolding all_received
received-front memory [] zs = (all_received memory zs, refl)
received-front memory (y ∷ ys) zs =
    let rest = received-front (received memory y).1 ys zs in
    (rest.0, ap (λ es. (received memory y).0 ∷ es) rest.1)

-- a period's effective frame is the same whatever comes later
effective-front : LooksBack → (call : ℕ) (ys zs : List Heard) (k : ℕ) → k < length ys →
    effective_at call (heard_in (ys ++ zs)) k ≡ effective_at call (heard_in ys) k
effective-front look call ys zs k l =
    let all : List Heard = ys ++ zs in
    let long = length-append ys zs in
    let more = received-front (home_memory call) ys zs in
    let same : effectives call all ≡ effectives call ys ++ more.0 = sym (look.table call all) ∙ more.1 ∙ ap (λ es. es ++ more.0) (look.table call ys) in
    let count = length-map-range_with_len (effective_at call (heard_in ys)) 0 (length ys) in
    sym (get_or-map-range_with_len (effective_at call (heard_in all)) 0 (length all) k k Quiet (omega arith) (omega arith)) ∙
    ap (λ es. get_or es k Quiet) same ∙ get_or_append_left (effectives call ys) more.0 Quiet k (omega arith) ∙
    get_or-map-range_with_len (effective_at call (heard_in ys)) 0 (length ys) k k Quiet l (omega arith)

-- **The effective frame is the same.**
pub effective-period : LooksBack → (who : Who) (ts : List CallPeriod) (t : CallPeriod) (past : List CallPeriod) → IsCallHistory ts → IsPeriod ts t past →
    effective_frame (call_of_history who ts) (length past) ≡ effective_now who.number (t ∷ past)
effective-period look who ts t past h p =
    let more = heards-later p.0 (t ∷ past) in
    let now = heard_of (t ∷ past) in
    let n = length-heard_of past in
    let m = length-reverse now in
    ap (λ ys. effective_at who.number (heard_in ys) (length past)) (heards-read who ts h) ∙
    ap (λ us. effective_at who.number (heard_in (reverse (heard_of us))) (length past)) (sym p.1) ∙
    ap (λ ys. effective_at who.number (heard_in (reverse ys)) (length past)) more.1 ∙
    ap (λ ys. effective_at who.number (heard_in ys) (length past)) (reverse-append more.0 now) ∙
    effective-front look who.number (reverse now) (reverse more.0) (length past) (omega arith) ∙
    ap (effective_at who.number (heard_in (reverse now))) (sym n) ∙ sym (look.newest who.number (heard_as (sighting_after past t.up)) (heard_of past))

-- ---- fields and settings

fields-back : (ts : List CallPeriod) → each_back (λ t past. field_of (sighting_after past t.up)) ts ≡ map (λ p. p.field) (down_periods ts)
fields-back [] = refl
fields-back (t ∷ past) = ap (λ z. field_of (sighting_after past t.up) ∷ z) (fields-back past)

-- so are the fields
pub fields-read : (who : Who) (ts : List CallPeriod) → IsCallHistory ts → fields (call_of_history who ts) ≡ asked_fields (down_periods ts)
fields-read who ts h =
    each-of who ts (λ k. field_of (seen_at (call_of_history who ts) k)) (λ t past. field_of (sighting_after past t.up))
    (λ t past p. ap field_of (seen-period who ts t past h p)) ∙
    each-reverse (λ t past. field_of (sighting_after past t.up)) ts ∙ ap reverse (fields-back ts)

settings-each : (ts : List CallPeriod) → settings_of ts ≡ each (λ t past. setting_of t) ts
settings-each [] = refl
settings-each (t ∷ past) = ap (λ z. z ++ setting_of t ∷ []) (settings-each past)

-- and the settings
pub setting-period : (who : Who) (ts : List CallPeriod) (t : CallPeriod) (past : List CallPeriod) → IsPeriod ts t past →
    setting_at (call_of_history who ts) (length past) ≡ setting_of t
setting-period who ts t past p =
    ap (λ z. get_or z (length past) (record { level = pos 256; mode = Uplink })) (settings-each ts) ∙
    each-at (λ t past. setting_of t) (record { level = pos 256; mode = Uplink }) ts t past p

-- the last DTXd
dtxd-period : (who : Who) (ts : List CallPeriod) (t : CallPeriod) (past : List CallPeriod) → IsCallHistory ts → IsPeriod ts t past →
    dtxd_at (call_of_history who ts) (length past) ≡ dtxd_of (t ∷ past)
dtxd-period who ts t [] h p = ap (λ s. dtxd_after s false) (seen-period who ts t [] h p)
dtxd-period who ts t (u ∷ past) h p =
    ap (λ s. dtxd_after s (dtxd_at (call_of_history who ts) (length past))) (seen-period who ts t (u ∷ past) h p) ∙
    ap (dtxd_after (sighting_after (u ∷ past) t.up)) (dtxd-period who ts u past h (one_before ts t u past p))

-- and whether DTX is on
pub dtx-period : (who : Who) (ts : List CallPeriod) (t : CallPeriod) (past : List CallPeriod) → IsCallHistory ts → IsPeriod ts t past →
    dtx_at (call_of_history who ts) (length past) ≡ dtx_now (t ∷ past)
dtx-period who ts t past h p =
    ap (λ s. dtx_in s.mode (dtxd_at (call_of_history who ts) (length past))) (setting-period who ts t past p)
    ∙ ap (dtx_in t.mode) (dtxd-period who ts t past h p)
