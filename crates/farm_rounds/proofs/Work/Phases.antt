-- What the phases of a round make of a call's job.
use Rattle.std.proofs.Common.{◌≡◌, refl, sym, ap, ◌∙◌, ℕ, zero, suc, ◌+◌, Bool, true, false, Option, Some, None, List, [], length, arith}
use Rattle.std.specs.Prelude.{◌==◌, ◌&&◌, if◌then◌else◌}
use Rattle.frame_sync.specs.Step.{next_period}
use Rattle.rx_handler.specs.Origin.{EffectiveFields}
use Rattle.call_leg.specs.Halves.{UpMemory, Note, up_turned, up_unbridged}
use Rattle.call_pair.specs.Memory.{HalfMemory}
use Rattle.call_pair.specs.Periods.{up_at, has_period}
use Rattle.call_pair.specs.Phases.{CallMemory, up_before, phase_place, call_place, after_call_places, periods_left, job_at_phase_end, begin, job_at_start, leg_in, first_phase}
use Rattle.call_pair.specs.declared.call_job.Phase.{Phase}
use Rattle.call_pair.specs.declared.call_job.Phase.TheVariants.{First, Second}
use Rattle.call_pair.proofs.Sequences.{ups}
use Rattle.call_pair.proofs.Phased.{length-notes, first_after, first-finished}
use Rattle.round_lines.specs.Memory.{whole_in}
use Rattle.farm_rounds.specs.declared.open.OpenCall.{OpenCall}
use Rattle.farm_rounds.specs.Opens.{portion_of_open, open_begun, open_finished}
use Rattle.farm_rounds.specs.Opened.{met_beside}
use Rattle.farm_rounds.specs.Rounds.{io_of}
use Rattle.farm_rounds.specs.Working.{IsInRound}

-- ---- what a phase keeps

pub record Keeps (j k : CallMemory) : Type 0 where
  pub call : k.io.call ≡ j.io.call
  pub up : k.io.up ≡ j.io.up
  pub phase : k.phase ≡ j.phase

keeps_same : (j : CallMemory) → Keeps j j
keeps_same j = record { call = refl; up = refl; phase = refl }

call_place_keeps : (j : CallMemory) → Keeps j (call_place j)
call_place_keeps j = by (has_period j.io) j.phase where
  by : (b : Bool) (p : Phase) → Keeps j (if b then phase_place p j else j)
  by true First = record { call = refl; up = refl; phase = refl }
  by true Second = record { call = refl; up = refl; phase = refl }
  by false p = keeps_same j

call_places_keep : (n : ℕ) (j : CallMemory) → Keeps j (after_call_places n j)
call_places_keep zero j = keeps_same j
call_places_keep (suc n) j =
    let one = call_place_keeps j in
    let rest = call_places_keep n (call_place j) in
    record { call = rest.call ∙ one.call; up = rest.up ∙ one.up; phase = rest.phase ∙ one.phase }

pub finished_keeps : (j : CallMemory) → Keeps j (job_at_phase_end j)
finished_keeps j = call_places_keep (periods_left j) j

-- the second keeps the uplink half
second_place : (b : Bool) (p : Phase) (j : CallMemory) → p ≡ Second →
    (if b then phase_place p j else j).up ≡ j.up
second_place true Second j e = refl
second_place true First j e = absurd (cc)
second_place false p j e = refl

second_up : (n : ℕ) (j : CallMemory) → j.phase ≡ Second → (after_call_places n j).up ≡ j.up
second_up zero j e = refl
second_up (suc n) j e = second_up n (call_place j) ((call_place_keeps j).phase ∙ e) ∙ second_place (has_period j.io) j.phase j e

pub second_keeps : (j : CallMemory) → j.phase ≡ Second → (job_at_phase_end j).up ≡ j.up
second_keeps j e = second_up (periods_left j) j e

-- in the first the uplink half works as many periods as there are places
before_periods : (b : Bool) (u : UpMemory) → (if b then up_unbridged u else u).search.periods ≡ u.search.periods
before_periods true u = refl
before_periods false u = refl

turned_periods : (u : UpMemory) (up : List ℕ) → (up_turned u up).2.search.periods ≡ u.search.periods + 1
unfolding up_turned next_period
turned_periods u up = refl

ups_periods : (m : ℕ) (h : HalfMemory) (k : ℕ) → (ups m h k).search.periods ≡ h.leg.search.periods + k
unfolding ups
ups_periods m h zero = omega arith
ups_periods m h (suc k) =
    let one = turned_periods (up_before m k (ups m h k)) (up_at k h.io) in
    let same = before_periods ((ups m h k).bridged && k == m) (ups m h k) in
    let rest = ups_periods m h k in
    omega (arith, one, same, rest)

-- ---- the first phase

-- the half of a call with the octets of its portion
abbrev pub half_open : OpenCall → HalfMemory
half_open o = record { leg = leg_in o.job; io = io_of (portion_of_open o) }

-- the first phase of a call begins
abbrev shape : CallMemory → ℕ → ℕ → Bool → ℕ → ℕ → List Note → List EffectiveFields → Phase →
    CallMemory
shape j w m b c d ns es p = record {
  up = record j.up { bridged = b };
  down = j.down;
  io = record j.io { call = c; given = w; done = d };
  notes = ns;
  partner = es;
  bridge_end = m;
  phase = p;
}

pub begun_is : (start ended m : ℕ) (o : OpenCall) → IsInRound start ended o → begin (whole_in o.lines) m o.job ≡ job_at_start m (half_open o)
begun_is start ended m o r =
    let j = o.job in
    let w = whole_in o.lines in
    ap (λ (b : Bool). shape j w m b j.io.call j.io.done j.notes j.partner j.phase) (r.call.up ∙ sym r.call.down)
    ∙ ap (λ (c : ℕ). shape j w m j.down.bridged c j.io.done j.notes j.partner j.phase) (sym r.call.lines)
    ∙ ap (λ (d : ℕ). shape j w m j.down.bridged o.lines.call d j.notes j.partner j.phase) r.call.none
    ∙ ap (λ (ns : List Note). shape j w m j.down.bridged o.lines.call 0 ns j.partner j.phase) r.fresh
    ∙ ap (λ (es : List EffectiveFields). shape j w m j.down.bridged o.lines.call 0 [] es j.phase) r.alone
    ∙ ap (λ (p : Phase). shape j w m j.down.bridged o.lines.call 0 [] [] p) r.call.first

-- a call after its first phase, where its bridge ends at place m
abbrev pub told_at : ℕ → OpenCall → OpenCall
told_at m o = open_finished (open_begun m o)

pub told_is : (start ended m : ℕ) (o : OpenCall) → IsInRound start ended o → (told_at m o).job ≡ first_phase m (half_open o)
told_is start ended m o r = ap job_at_phase_end (begun_is start ended m o r)

pub told_number : (m : ℕ) (o : OpenCall) → (told_at m o).job.io.call ≡ o.job.io.call
told_number m o = (finished_keeps (begin (whole_in o.lines) m o.job)).call

-- what is so behind it
pub record IsHeard (m : ℕ) (o : OpenCall) (j : CallMemory) : Type 0 where
  pub phase : j.phase ≡ First
  pub finished : periods_left j ≡ 0
  pub alone : j.partner ≡ []
  pub ends : j.bridge_end ≡ m
  pub notes : length j.notes ≡ whole_in o.lines
  pub periods : j.up.search.periods ≡ o.job.up.search.periods + whole_in o.lines

pub told_heard : (start ended m : ℕ) (o : OpenCall) → IsInRound start ended o → IsHeard m o (told_at m o).job
told_heard start ended m o r =
    let h = half_open o in
    let w = whole_in o.lines in
    let e : (told_at m o).job ≡ first_after m h w = told_is start ended m o r ∙ first-finished m h refl in
    record {
      phase = ap (λ (j : CallMemory). j.phase) e;
      finished = ap (λ (j : CallMemory). periods_left j) e ∙ (omega arith);
      alone = ap (λ (j : CallMemory). j.partner) e;
      ends = ap (λ (j : CallMemory). j.bridge_end) e;
      notes = ap (λ (j : CallMemory). length j.notes) e ∙ length-notes m h w;
      periods = ap (λ (j : CallMemory). j.up.search.periods) e ∙ ups_periods m h w;
    }

-- ---- the second

-- a call between the phases
pub record IsMet (o n : OpenCall) : Type 0 where
  pub call : n.job.io.call ≡ o.job.io.call
  pub up : n.job.io.up ≡ o.job.io.up
  pub half : n.job.up ≡ o.job.up
  pub phase : n.job.phase ≡ Second
  pub lines : n.lines ≡ o.lines
  pub partner : n.partner ≡ o.partner

met_keeps : (opens : List OpenCall) (o : OpenCall) (p : Option ℕ) → IsMet o (met_beside opens o p)
met_keeps opens o None = record { call = refl; up = refl; half = refl; phase = refl; lines = refl; partner = refl }
met_keeps opens o (Some d) = record { call = refl; up = refl; half = refl; phase = refl; lines = refl; partner = refl }

-- a call after both phases, where these are all calls after the first
abbrev pub done_at : List OpenCall → ℕ → OpenCall → OpenCall
done_at opens m o = open_finished (met_beside opens (told_at m o) o.partner)

-- what both phases keep
pub record IsDone (o n : OpenCall) : Type 0 where
  pub call : n.job.io.call ≡ o.job.io.call
  pub up : n.job.io.up ≡ o.job.io.up
  pub lines : n.lines ≡ o.lines
  pub partner : n.partner ≡ o.partner

pub done_keeps : (opens : List OpenCall) (m : ℕ) (o : OpenCall) → IsDone o (done_at opens m o)
done_keeps opens m o =
    let first = finished_keeps (begin (whole_in o.lines) m o.job) in
    let met = met_keeps opens (told_at m o) o.partner in
    let second = finished_keeps (met_beside opens (told_at m o) o.partner).job in
    record { call = second.call ∙ met.call ∙ first.call; up = second.up ∙ met.up ∙ first.up; lines = met.lines; partner = met.partner }

-- the uplink half has worked all its places
pub done_periods : (opens : List OpenCall) (start ended m : ℕ) (o : OpenCall) → IsInRound start ended o →
    (done_at opens m o).job.up.search.periods ≡ o.job.up.search.periods + whole_in o.lines
done_periods opens start ended m o r =
    let met = met_keeps opens (told_at m o) o.partner in
    ap (λ (u : UpMemory). u.search.periods) (second_keeps (met_beside opens (told_at m o) o.partner).job met.phase ∙ met.half)
    ∙ (told_heard start ended m o r).periods
