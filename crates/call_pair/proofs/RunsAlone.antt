-- For crates above: a job of one call ends as the call's history says (`one-finished`); places keep the bridge
-- (`still-bridged`).
-- The job of one call from place to place, for every history of the call.
use Rattle.std.proofs.Common.{◌≡◌, ℕ, zero, suc, ◌+◌, ◌<◌, ◌≤◌, ltb, Bool, true, false, List, length, refl, sym, ap, subst, ◌∙◌, arith}
use Rattle.rx_handler.specs.Origin.{Quiet}
use Rattle.call_leg.specs.Periods.{CallPeriod}
use Rattle.call_leg.specs.Settings.{Settings, settings_at}
use Rattle.call_pair.specs.Memory.{IoMemory, HalfMemory, IsIo, places_left, Job, One}
use Rattle.call_pair.specs.Periods.{has_period}
use Rattle.call_pair.specs.Turn.{half_place_if, job_place}
use Rattle.call_pair.specs.Jobs.{after_job_places, finished_job}
use Rattle.call_pair.specs.History.{Start, alone_periods, bridged_periods, Begins, HasWorked}
use Rattle.call_pair.specs.Finished.{OneWorked}
use Rattle.call_pair.proofs.Places.{is_below}
use Rattle.call_pair.proofs.Steps.{half_alone, half_place-alone, alone-worked}

-- ---- what a half tells of its places

-- a half that has worked k places has one left where the round has more
pub placed : (s : Start) (k : ℕ) (ts : List CallPeriod) (now : Settings) (h : HalfMemory) →
    HasWorked s k ts now h → has_period h.io ≡ ltb k s.io.given
placed s k ts now h w = ap has_period w.io

-- such a half has the round's places
pub given-is : (s : Start) (k : ℕ) (ts : List CallPeriod) (now : Settings) (h : HalfMemory) → HasWorked s k ts now h → h.io.given ≡ s.io.given
given-is s k ts now h w = ap (λ (io : IoMemory). io.given) w.io

-- at the start none is done
pub begun : (s : Start) (h : HalfMemory) → Begins s h → HasWorked s 0 s.past s.now h
begun s h b = record {
  io = b.io ∙ ap (λ (n : ℕ). record { call = s.io.call; up = s.io.up; pcm = s.io.pcm; out = s.io.out; down = s.io.down; given = s.io.given; done = n })
      b.none_done;
  leg = b.leg;
}

-- at the start all places are left
pub begun-left : (s : Start) (h : HalfMemory) → Begins s h → places_left h.io ≡ s.io.given
begun-left s h b = ap places_left b.io ∙ (let e = b.none_done in omega arith)

-- a bridge stays on over the places
pub still-bridged : (k : ℕ) (now : Settings) → (settings_at k now).bridged ≡ now.bridged
still-bridged zero now = refl
still-bridged (suc k) now = still-bridged k now

-- a call has a period of each place
many-alone : (k : ℕ) (s : Start) → k ≤ length (alone_periods k s)
many-alone zero s = omega arith
many-alone (suc k) s = omega (arith, many-alone k s)

pub many-bridged : (k : ℕ) (a b : Start) → k ≤ length (bridged_periods k a b)
many-bridged zero a b = omega arith
many-bridged (suc k) a b = omega (arith, many-bridged k a b)

-- ---- one call

-- the turn of a job of one call that lies in no bridge
job_place-one : (h : HalfMemory) → has_period h.io ≡ true → h.leg.down.bridged ≡ false →
    job_place (One h) ≡ One (half_alone h)
job_place-one h e off = ap (λ (b : Bool). One (half_place_if b 0 Quiet h)) e ∙ ap One (half_place-alone 0 Quiet h off)

-- such a job, n turns long
one-runs : (s : Start) (n k : ℕ) (h : HalfMemory) → IsIo s.io → s.now.bridged ≡ false → k + n ≡ s.io.given →
    HasWorked s k (alone_periods k s) (settings_at k s.now) h → OneWorked s (after_job_places n (One h))
one-runs s zero k h room b e w =
    let last : k ≡ s.io.given = omega arith in
    record {
      half = h;
      is_one = refl;
      worked = subst (λ (i : ℕ). HasWorked s i (alone_periods i s) (settings_at i s.now) h) last w;
    }
one-runs s (suc n) k h room b e w =
    let below : k < s.io.given = omega arith in
    let more : suc k + n ≡ s.io.given = omega arith in
    let next = alone-worked s k (alone_periods k s) (settings_at k s.now) h room (many-alone k s) below (still-bridged k s.now ∙ b) w in
    subst (λ (job : Job). OneWorked s (after_job_places n job))
    (sym (job_place-one h (placed s k (alone_periods k s) (settings_at k s.now) h w ∙ is_below k s.io.given below) (w.leg.down.bridged ∙ still-bridged k s.now
    ∙ b)))
    (one-runs s n (suc k) (half_alone h) room b more next)

-- such a job at its end
pub one-finished : (s : Start) (h : HalfMemory) → Begins s h → s.now.bridged ≡ false → OneWorked s (finished_job (One h))
one-finished s h start b = one-runs s (places_left h.io) 0 h start.octets b (omega (arith, begun-left s h start)) (begun s h start)
