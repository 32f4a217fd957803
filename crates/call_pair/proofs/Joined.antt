-- A place of a half is a place of each half of its leg.
use Rattle.std.proofs.Common.{◌≡◌, ◌==◌, ◌&&◌, ℕ, Bool, true, false, if◌then◌else◌, refl, sym, ap, ◌∙◌}
use Rattle.trau_bits.specs.Bits.{octets_of}
use Rattle.rx_handler.specs.Origin.{EffectiveFields}
use Rattle.call_leg.specs.Memory.{DownMemory}
use Rattle.call_leg.specs.Step.{bridge_over}
use Rattle.call_leg.specs.Halves.{UpMemory, joined, up_turned, down_turned, up_unbridged}
use Rattle.call_leg.proofs.HalfSteps.{up_of-joined}
use Rattle.call_pair.specs.Memory.{IoMemory}
use Rattle.call_pair.specs.Periods.{up_at, pcm_at, with_out, with_period}
use Rattle.call_pair.specs.Turn.{effective, half_place}
use Rattle.call_pair.specs.Phases.{up_before, down_before, item_if}

-- ---- the flags

-- the bridge of a half, where it is taken off by a test
up-flag : (b : Bool) (u : UpMemory) → (if b then up_unbridged u else u).bridged ≡ (if b then false else u.bridged)
up-flag true u = refl
up-flag false u = refl

pub down-flag : (b : Bool) (d : DownMemory) → (if b then bridge_over d else d).bridged ≡ (if b then false else d.bridged)
down-flag true d = refl
down-flag false d = refl

-- halves of one bridge are so before the next place too
pub before-flag : (m k : ℕ) (u : UpMemory) (d : DownMemory) → u.bridged ≡ d.bridged → (up_before m k u).bridged ≡ (down_before m k d).bridged
before-flag m k u d e = up-flag (u.bridged && k == m) u ∙ ap (λ (f : Bool). if f && k == m then false else f) e ∙ sym (down-flag (d.bridged && k == m) d)

-- ---- the leg of two halves

-- what is told at the next place
pub effective-joined : (m : ℕ) (u : UpMemory) (d : DownMemory) (io : IoMemory) → u.bridged ≡ d.bridged →
    effective m (record { leg = joined u d; io = io }) ≡ (up_turned (up_before m io.done u) (up_at io.done io)).0.eff
effective-joined m u d io e = ap (λ (x : UpMemory). (up_turned (up_before m io.done x) (up_at io.done io)).0.eff) (up_of-joined u d e)

-- the place itself
pub half_place-joined : (m : ℕ) (e : EffectiveFields) (u : UpMemory) (d : DownMemory)
    (io : IoMemory) → u.bridged ≡ d.bridged →
    let t = up_turned (up_before m io.done u) (up_at io.done io) in
    let c = down_before m io.done d in
    let w = down_turned c t.0 (item_if c.bridged e) (pcm_at io.done io) in
    half_place m e (record { leg = joined u d; io = io }) ≡ record { leg = joined t.2 w.1; io = with_period (with_out io t.1) (octets_of w.0) }
half_place-joined m e u d io flag =
    ap (λ (x : UpMemory).
    let t = up_turned (up_before m io.done x) (up_at io.done io) in
    let c = down_before m io.done d in
    let w = down_turned c t.0 (item_if c.bridged e) (pcm_at io.done io) in
    record { leg = joined t.2 w.1; io = with_period (with_out io t.1) (octets_of w.0) }) (up_of-joined u d flag)
