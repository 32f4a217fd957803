-- For crates above: the memory of an uplink half after k places (`ups`).
-- The halves of a half's leg from place to place, where a bridge that it has ends at place m.
use Rattle.std.proofs.Common.{◌≡◌, ◌==◌, ◌&&◌, ℕ, zero, suc, ◌+◌, ◌*◌, ◌<◌, ◌≤◌, min, ltb, Bool, true, false, if◌then◌else◌, Option, List, refl, sym, ap, ◌∙◌}
use Rattle.std.proofs.Common.{⊎_elim, arith}
use Rattle.std.proofs.lemmas.Bool.{cases_lt, eq-eqb}
use Rattle.trau_bits.specs.Bits.{octets_of}
use Rattle.rx_handler.specs.Origin.{EffectiveFields}
use Rattle.call_leg.specs.Memory.{DownMemory}
use Rattle.call_leg.specs.Halves.{UpMemory, up_of, joined, Note, up_turned, down_turned}
use Rattle.call_leg.proofs.HalfSteps.{up-keeps, down-keeps}
use Rattle.call_pair.specs.Memory.{IoMemory, HalfMemory}
use Rattle.call_pair.specs.Periods.{up_at, pcm_at, buffer_with, with_out, with_period}
use Rattle.call_pair.specs.Turn.{effective, half_place, half_place_if}
use Rattle.call_pair.specs.Phases.{up_before, down_before, item_if}
use Rattle.call_pair.proofs.Places.{is_below, not_below}
use Rattle.call_pair.proofs.Joined.{down-flag, before-flag, effective-joined, half_place-joined}

-- ---- the uplink

-- the uplink half after k places
unfoldable pub ups : ℕ → HalfMemory → ℕ → UpMemory
ups m h zero = up_of h.leg
ups m h (suc k) = (up_turned (up_before m k (ups m h k)) (up_at k h.io)).2

-- place k
abbrev pub told : ℕ → HalfMemory → ℕ → Note × List ℕ × UpMemory
told m h k = up_turned (up_before m k (ups m h k)) (up_at k h.io)

-- the octets of Out after k places, and the notes
unfoldable pub outs : ℕ → HalfMemory → ℕ → List ℕ
outs m h zero = h.io.out
outs m h (suc k) = buffer_with (outs m h k) (160 * k) (told m h k).1

-- ---- the downlink, with these frames of the partner

abbrev pub made_from : ℕ → (ℕ → EffectiveFields) → HalfMemory → ℕ → DownMemory → List ℕ × DownMemory
made_from m items h k d = let c = down_before m k d in down_turned c (told m h k).0 (item_if c.bridged (items k)) (pcm_at k h.io)

unfoldable pub downs : ℕ → (ℕ → EffectiveFields) → HalfMemory → ℕ → DownMemory
downs m items h zero = h.leg.down
downs m items h (suc k) = (made_from m items h k (downs m items h k)).1

unfoldable pub lines : ℕ → (ℕ → EffectiveFields) → HalfMemory → ℕ → List ℕ
lines m items h zero = h.io.down
lines m items h (suc k) = buffer_with (lines m items h k) (40 * k) (octets_of (made_from m items h k (downs m items h k)).0)

-- ---- both

abbrev pub io_from : HalfMemory → List ℕ → List ℕ → ℕ → IoMemory
io_from h out down k = record { call = h.io.call; up = h.io.up; pcm = h.io.pcm; out = out; down = down; given = h.io.given; done = k }

abbrev pub half_after : ℕ → (ℕ → EffectiveFields) → HalfMemory → ℕ → HalfMemory
half_after m items h k = record { leg = joined (ups m h k) (downs m items h k); io = io_from h (outs m h k) (lines m items h k) k }

-- before the first place
pub half_after-zero : (m : ℕ) (items : ℕ → EffectiveFields) (h : HalfMemory) → h.io.done ≡ 0 →
    h ≡ half_after m items h 0
unfolding ups outs downs lines
half_after-zero m items h e = ap (λ (n : ℕ). record { leg = h.leg; io = io_from h h.io.out h.io.down n }) e

-- ---- the flags

-- both halves are bridged, or neither is
same-flag : (m : ℕ) (items : ℕ → EffectiveFields) (h : HalfMemory) (k : ℕ) → (ups m h k).bridged ≡ (downs m items h k).bridged
unfolding ups downs
same-flag m items h zero = refl
same-flag m items h (suc k) =
    let u = up_before m k (ups m h k) in
    let d = down_before m k (downs m items h k) in
    up-keeps u (up_at k h.io) ∙ before-flag m k (ups m h k) (downs m items h k) (same-flag m items h k)
    ∙ sym (down-keeps d (told m h k).0 (item_if d.bridged (items k)) (pcm_at k h.io))

-- from the end of the bridge on it is off
ends_by : (b : Bool) → (if b && true then false else b) ≡ false
ends_by true = refl
ends_by false = refl

-- at place m the bridge ends
ends-at : (m k : ℕ) (d : DownMemory) → k ≡ m → (down_before m k d).bridged ≡ false
ends-at m k d e = down-flag (d.bridged && k == m) d ∙ ap (λ (t : Bool). if d.bridged && t then false else d.bridged) (eq-eqb k m e) ∙ ends_by d.bridged

-- A bridge that is off stays off.
stays-off : (m k : ℕ) (d : DownMemory) → d.bridged ≡ false → (down_before m k d).bridged ≡ false
stays-off m k d e = down-flag (d.bridged && k == m) d ∙ ap (λ (f : Bool). if f && k == m then false else f) e

off-from : (m : ℕ) (items : ℕ → EffectiveFields) (h : HalfMemory) (k : ℕ) → m ≤ k → (down_before m k (downs m items h k)).bridged ≡ false
unfolding downs
off-from m items h zero le = ends-at m 0 (downs m items h 0) (omega arith)
off-from m items h (suc k) le =
    let d = down_before m k (downs m items h k) in
    ⊎_elim (λ (l : m < suc k). stays-off m (suc k) (downs m items h (suc k)) (down-keeps d (told m h k).0 (item_if d.bridged (items k)) (pcm_at k h.io)
    ∙ off-from m items h k (omega arith)))
    (λ (g : suc k ≤ m). ends-at m (suc k) (downs m items h (suc k)) (omega arith))
    (cases_lt m (suc k))

-- ---- a place more

abbrev on_at : ℕ → (ℕ → EffectiveFields) → HalfMemory → ℕ → Bool
on_at m items h k = (down_before m k (downs m items h k)).bridged

-- whatever frame is told once the bridge is off
half-step : (m : ℕ) (items : ℕ → EffectiveFields) (h : HalfMemory) (k : ℕ) (e : EffectiveFields) →
    item_if (on_at m items h k) e ≡ item_if (on_at m items h k) (items k) → half_place m e (half_after m items h k) ≡ half_after m items h (suc k)
unfolding ups outs downs lines
half-step m items h k e same =
    let t = told m h k in
    let io = io_from h (outs m h k) (lines m items h k) k in
    let next : k + 1 ≡ suc k = omega arith in
    half_place-joined m e (ups m h k) (downs m items h k) io (same-flag m items h k)
    ∙ ap (λ (i : Option EffectiveFields).
    let w = down_turned (down_before m k (downs m items h k)) t.0 i (pcm_at k h.io) in
    record { leg = joined t.2 w.1; io = with_period (with_out io t.1) (octets_of w.0) }) same
    ∙ ap (λ (n : ℕ). record { leg = joined (ups m h (suc k)) (downs m items h (suc k)); io = io_from h (outs m h (suc k)) (lines m items h (suc k)) n }) next

-- the effective frame that is told at place k
pub effective-at : (m : ℕ) (items : ℕ → EffectiveFields) (h : HalfMemory) (k : ℕ) → effective m (half_after m items h k) ≡ (told m h k).0.eff
effective-at m items h k = effective-joined m (ups m h k) (downs m items h k) (io_from h (outs m h k) (lines m items h k) k) (same-flag m items h k)

-- what is told is what was taken, or the bridge is off
off-item : (m : ℕ) (items : ℕ → EffectiveFields) (h : HalfMemory) (k : ℕ) (e : EffectiveFields) →
    (k < m → e ≡ items k) → item_if (on_at m items h k) e ≡ item_if (on_at m items h k) (items k)
off-item m items h k e same =
    ⊎_elim (λ (l : k < m). ap (item_if (on_at m items h k)) (same l))
    (λ (g : m ≤ k). ap (λ (t : Bool). item_if t e) (off-from m items h k g) ∙ sym (ap (λ (t : Bool). item_if t (items k)) (off-from m items h k g)))
    (cases_lt k m)

-- one place more of both halves is the turn of their half
pub step : (m : ℕ) (items : ℕ → EffectiveFields) (h : HalfMemory) (k : ℕ) (e : EffectiveFields) → (k < m → e ≡ items k) →
    half_place_if (ltb (min k h.io.given) h.io.given) m e (half_after m items h (min k h.io.given)) ≡ half_after m items h (min (suc k) h.io.given)
step m items h k e same =
    ⊎_elim (λ (l : k < h.io.given).
    let here : min k h.io.given ≡ k = omega arith in
    let next : suc k ≡ min (suc k) h.io.given = omega arith in
    ap (λ (j : ℕ). half_place_if (ltb j h.io.given) m e (half_after m items h j)) here
    ∙ ap (λ (b : Bool). half_place_if b m e (half_after m items h k)) (is_below k h.io.given l)
    ∙ half-step m items h k e (off-item m items h k e same)
    ∙ ap (half_after m items h) next)
    (λ (o : h.io.given ≤ k).
    let here : min k h.io.given ≡ h.io.given = omega arith in
    let next : h.io.given ≡ min (suc k) h.io.given = omega arith in
    ap (λ (j : ℕ). half_place_if (ltb j h.io.given) m e (half_after m items h j)) here
    ∙ ap (λ (b : Bool). half_place_if b m e (half_after m items h h.io.given)) (not_below h.io.given h.io.given (omega arith))
    ∙ ap (half_after m items h) next)
    (cases_lt k h.io.given)
