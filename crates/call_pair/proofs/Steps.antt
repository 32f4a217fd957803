-- One place of a half more, for every history of its call.
use Rattle.std.proofs.Common.{◌≡◌, ◌==◌, ◌&&◌, ℕ, suc, ◌<◌, ◌≤◌, length, Bool, true, false, if◌then◌else◌, Option, Some, None, is_some, List, ◌∷◌, refl, sym}
use Rattle.std.proofs.Common.{ap, subst, ◌∙◌}
use Rattle.trau_params.specs.Bits260.{bits260}
use Rattle.trau_bits.specs.Bits.{octets_of}
use Rattle.rx_handler.specs.Origin.{EffectiveFields}
use Rattle.call_leg.specs.Memory.{LegMemory}
use Rattle.call_leg.specs.Uplink.{handed_fields}
use Rattle.call_leg.specs.Periods.{CallPeriod, effective_now}
use Rattle.call_leg.specs.Settings.{Settings, settings_later, without_bridge, period_with}
use Rattle.call_leg.specs.Step.{with_down, bridge_over}
use Rattle.call_leg.specs.Halves.{up_of, joined, Note, up_turned, down_turned, up_unbridged, handed_bits}
use Rattle.call_leg.proofs.HalfLaws.{turn-stands, turn-note, turn-plays, down_turn-stands}
use Rattle.call_leg.proofs.LegLaws.{join-stands}
use Rattle.call_leg.proofs.OrderLaws.{end-stands}
use Rattle.call_pair.specs.Memory.{IoMemory, HalfMemory, IsIo}
use Rattle.call_pair.specs.Periods.{up_at, pcm_at, with_out, with_period}
use Rattle.call_pair.specs.Turn.{effective, half_place}
use Rattle.call_pair.specs.Phases.{item_if}
use Rattle.call_pair.specs.History.{Start, who_of, HasWorked}
use Rattle.call_pair.proofs.Octets.{io_more}
use Rattle.call_pair.proofs.Places.{length-up_at, length-pcm_at, is_same, is_past}

-- ---- a place of a half, by whether it lies in a bridge

-- a place in which this is handed over, if anything is
abbrev pub worked_with : Option EffectiveFields → HalfMemory → HalfMemory
worked_with item h =
    let up = up_turned (up_of h.leg) (up_at h.io.done h.io) in
    let down = down_turned h.leg.down up.0 item (pcm_at h.io.done h.io) in
    record { leg = joined up.2 down.1; io = with_period (with_out h.io up.1) (octets_of down.0) }

-- a place that lies in no bridge
abbrev pub half_alone : HalfMemory → HalfMemory
half_alone h = worked_with None h

-- a place within a bridge
abbrev pub half_bridged : HalfMemory → EffectiveFields → HalfMemory
half_bridged h handed = worked_with (Some handed) h

-- the effective frame of the next place
abbrev pub tells : HalfMemory → EffectiveFields
tells h = (up_turned (up_of h.leg) (up_at h.io.done h.io)).0.eff

-- the bridge is off
abbrev leg_unbridged : LegMemory → LegMemory
leg_unbridged m = with_down m (bridge_over m.down)

-- a place of a half whose partner, with so many places, has none left
abbrev pub left_alone : HalfMemory → ℕ → HalfMemory
left_alone h others = half_alone (record { leg = if h.io.done == others then leg_unbridged h.leg else h.leg; io = h.io })

-- the next place, by whether a bridge ends at it
abbrev by_end : EffectiveFields → HalfMemory → Bool → HalfMemory
by_end e h ends =
    let up = up_turned (if ends then up_unbridged (up_of h.leg) else up_of h.leg) (up_at h.io.done h.io) in
    let before = if ends then bridge_over h.leg.down else h.leg.down in
    let down = down_turned before up.0 (item_if before.bridged e) (pcm_at h.io.done h.io) in
    record { leg = joined up.2 down.1; io = with_period (with_out h.io up.1) (octets_of down.0) }

-- whether one does
ends-is : (m : ℕ) (h : HalfMemory) (b t : Bool) → h.leg.down.bridged ≡ b → (h.io.done == m) ≡ t → (h.leg.down.bridged && h.io.done == m) ≡ (b && t)
ends-is m h b t eb et = ap (λ (x : Bool). x && h.io.done == m) eb ∙ ap (λ (x : Bool). b && x) et

-- the turn of a half that lies in no bridge
pub half_place-alone : (m : ℕ) (e : EffectiveFields) (h : HalfMemory) → h.leg.down.bridged ≡ false →
    half_place m e h ≡ half_alone h
half_place-alone m e h off = ap (by_end e h) (ends-is m h false (h.io.done == m) off refl) ∙ ap (λ (b : Bool). worked_with (item_if b e) h) off

-- before the bridge's end the turn is one within the bridge
pub half_place-bridged : (m : ℕ) (e : EffectiveFields) (h : HalfMemory) →
    h.leg.down.bridged ≡ true → (h.io.done == m) ≡ false → half_place m e h ≡ half_bridged h e
half_place-bridged m e h on t = ap (by_end e h) (ends-is m h true false on t) ∙ ap (λ (b : Bool). worked_with (item_if b e) h) on

-- before the bridge's end the effective frame is that of the half with its bridge
pub tells-is : (m : ℕ) (h : HalfMemory) → h.leg.down.bridged ≡ true → (h.io.done == m) ≡ false → effective m h ≡ tells h
tells-is m h on t =
    ap (λ (ends : Bool). (up_turned (if ends then up_unbridged (up_of h.leg) else up_of h.leg) (up_at h.io.done h.io)).0.eff) (ends-is m h true false on t)

-- at the bridge's end the turn is that of a half alone
pub half_place-ends : (m : ℕ) (e : EffectiveFields) (h : HalfMemory) → h.leg.down.bridged ≡ true →
    (h.io.done == m) ≡ true → half_place m e h
    ≡ half_alone (record { leg = leg_unbridged h.leg; io = h.io })
half_place-ends m e h on t = ap (by_end e h) (ends-is m h true true on t)

-- ---- a place more

-- a period in which this is handed over
place-worked : (s : Start) (k : ℕ) (ts : List CallPeriod) (now : Settings) (h : HalfMemory)
    (item : Option EffectiveFields) → IsIo s.io → k ≤ length ts →
    k < s.io.given → is_some item ≡ now.bridged → is_some (handed_bits item) ≡ now.bridged → HasWorked s k ts now h →
    HasWorked s (suc k) (period_with now (up_at k s.io) (pcm_at k s.io) (handed_bits item) ∷ ts) (settings_later now) (worked_with item h)
place-worked s k ts now h item room enough below b some w =
    let who = who_of s in
    let up = up_at k s.io in
    let pcm = pcm_at k s.io in
    let t = period_with now up pcm (handed_bits item) in
    let lu = length-up_at s.io k room below in
    let first = up_turned (up_of h.leg) up in
    let last = down_turned h.leg.down first.0 item pcm in
    let down = down_turn-stands who ts now up pcm first.0 item h.leg.down (length-pcm_at s.io k room below) w.leg.down
    (turn-note who ts now up (up_of h.leg) lu w.leg.up) b in
    subst (λ (io : IoMemory). HasWorked s (suc k) (t ∷ ts) (settings_later now) (worked_with item (record { leg = h.leg; io = io }))) (sym w.io) (record {
      io = io_more s k ts t first.1 last.0 enough (turn-plays who ts now up pcm (handed_bits item) (up_of h.leg) lu some w.leg.up) down.1;
      leg = join-stands who (t ∷ ts) (settings_later now) first.2 last.1
          (turn-stands who ts now up pcm (handed_bits item) (up_of h.leg) lu some w.leg.up) down.0;
    })

-- a period that lies in no bridge
pub alone-worked : (s : Start) (k : ℕ) (ts : List CallPeriod) (now : Settings) (h : HalfMemory) →
    IsIo s.io → k ≤ length ts → k < s.io.given → now.bridged ≡ false → HasWorked s k ts now h →
    HasWorked s (suc k) (period_with now (up_at k s.io) (pcm_at k s.io) None ∷ ts) (settings_later now) (half_alone h)
alone-worked s k ts now h room enough below b w = place-worked s k ts now h None room enough below (sym b) (sym b) w

-- a period within a bridge
pub bridged-worked : (s : Start) (k : ℕ) (ts : List CallPeriod) (now : Settings) (h : HalfMemory) (e : EffectiveFields) → IsIo s.io → k ≤ length ts →
    k < s.io.given → now.bridged ≡ true → HasWorked s k ts now h →
    HasWorked s (suc k) (period_with now (up_at k s.io) (pcm_at k s.io) (Some (bits260 (handed_fields e))) ∷ ts) (settings_later now)
    (half_bridged h e)
bridged-worked s k ts now h e room enough below b w = place-worked s k ts now h (Some e) room enough below (sym b) (sym b) w

-- the effective frame of the next place, whatever is handed over in it
pub effective-is : (s : Start) (k : ℕ) (ts : List CallPeriod) (now : Settings) (h : HalfMemory) → IsIo s.io → k < s.io.given →
    HasWorked s k ts now h → tells h ≡ effective_now s.io.call (period_with now (up_at k s.io) (pcm_at k s.io) None ∷ ts)
effective-is s k ts now h room below w =
    ap (λ (io : IoMemory). (up_turned (up_of h.leg) (up_at io.done io)).0.eff) w.io
    ∙ ap (λ (n : Note). n.eff) (turn-note (who_of s) ts now (up_at k s.io) (up_of h.leg) (length-up_at s.io k room below) w.leg.up)

-- a half whose partner has no place left
pub left_alone-is : (h : HalfMemory) (others : ℕ) (b : Bool) → (h.io.done == others) ≡ b → left_alone h others
    ≡ half_alone (record { leg = if b then leg_unbridged h.leg else h.leg; io = h.io })
left_alone-is h others b e = ap (λ (x : Bool). half_alone (record { leg = if x then leg_unbridged h.leg else h.leg; io = h.io })) e

-- the first period after the partner's places
pub first_left-worked : (s : Start) (k others : ℕ) (ts : List CallPeriod) (now : Settings)
    (h : HalfMemory) → IsIo s.io → k ≤ length ts → k < s.io.given → k ≡ others → now.bridged ≡ true → HasWorked s k ts now h →
    HasWorked s (suc k) (period_with now (up_at k s.io) (pcm_at k s.io) None ∷ ts) (without_bridge (settings_later now)) (left_alone h others)
first_left-worked s k others ts now h room enough below e b w =
    let test : (h.io.done == others) ≡ true = is_same h.io.done others (ap (λ (io : IoMemory). io.done) w.io ∙ e) in
    let off : HasWorked s k ts (without_bridge now) (record { leg = leg_unbridged h.leg; io = h.io }) =
    record { io = w.io; leg = end-stands (who_of s) ts now h.leg b w.leg } in
    subst (HasWorked s (suc k) (period_with now (up_at k s.io) (pcm_at k s.io) None ∷ ts) (without_bridge (settings_later now)))
    (sym (left_alone-is h others true test))
    (alone-worked s k ts (without_bridge now) (record { leg = leg_unbridged h.leg; io = h.io }) room enough below refl off)

-- a later period after the partner's places
pub later_left-worked : (s : Start) (k others : ℕ) (ts : List CallPeriod) (now : Settings)
    (h : HalfMemory) → IsIo s.io → k ≤ length ts → k < s.io.given → others < k → HasWorked s k ts (without_bridge now) h →
    HasWorked s (suc k) (period_with now (up_at k s.io) (pcm_at k s.io) None ∷ ts) (without_bridge (settings_later now)) (left_alone h others)
later_left-worked s k others ts now h room enough below past w =
    let done : h.io.done ≡ k = ap (λ (io : IoMemory). io.done) w.io in
    let test : (h.io.done == others) ≡ false = is_past h.io.done others (subst (λ (n : ℕ). others < n) (sym done) past) in
    subst (HasWorked s (suc k) (period_with now (up_at k s.io) (pcm_at k s.io) None ∷ ts) (without_bridge (settings_later now)))
    (sym (left_alone-is h others false test))
    (alone-worked s k ts (without_bridge now) h room enough below refl w)
