-- The job of a call in two phases: all its uplink halves, then all its downlink halves.
use Rattle.std.specs.Prelude.{ℕ, zero, suc, ◌+◌, Bool, true, false, ◌&&◌, ◌==◌, if◌then◌else◌, Option, Some, None, List, [], ◌∷◌, ◌++◌, map, take, slice_index_or}
use Rattle.trau_bits.specs.Bits.{octets_of}
use Rattle.rx_handler.specs.Origin.{EffectiveFields, Quiet}
use Rattle.call_leg.specs.Memory.{DownMemory, LegMemory}
use Rattle.call_leg.specs.Step.{bridge_over}
use Rattle.call_leg.specs.Halves.{UpMemory, up_of, joined, Note, up_turned, down_turned, up_unbridged}
use Rattle.call_pair.specs.Memory.{IoMemory, HalfMemory, places_left, io_at_rest, io_planned}
use Rattle.call_pair.specs.Periods.{up_at, pcm_at, with_out, with_period, has_period}
use Rattle.call_pair.specs.declared.call_job.Phase.{Phase}
use Rattle.call_pair.specs.declared.call_job.Phase.TheVariants.{First, Second}

-- The memory of a call's job: the halves of its leg; its octets, with the number of places done in the present phase;
-- the notes of the first phase; the partner's effective frames, by place; and the place at which a bridge ends.
pub record CallMemory : Type 0 where
  pub up : UpMemory
  pub down : DownMemory
  pub io : IoMemory
  pub notes : List Note
  pub partner : List EffectiveFields
  pub bridge_end : ℕ
  pub phase : Phase

-- ---- a place of each phase

-- a half before its place k; if it has a bridge, that ends at place m
abbrev pub up_before : ℕ → ℕ → UpMemory → UpMemory
up_before m k u = if u.bridged && k == m then up_unbridged u else u

abbrev pub down_before : ℕ → ℕ → DownMemory → DownMemory
down_before m k d = if d.bridged && k == m then bridge_over d else d

-- the frame that is handed to a half, if it is bridged
abbrev pub item_if : Bool → EffectiveFields → Option EffectiveFields
item_if true e = Some e
item_if false e = None

-- the note of place k, and the partner's frame; the values past the lists are never used
abbrev pub note_at : ℕ → List Note → Note
note_at k notes = slice_index_or notes k (record { eff = Quiet; ask = 0; dtx = None })

abbrev pub effective_in : ℕ → List EffectiveFields → EffectiveFields
effective_in k frames = slice_index_or frames k Quiet

-- a place of the uplink is done
abbrev pub one_done : IoMemory → IoMemory
one_done io = record io { done = io.done + 1 }

-- The next place of an uplink half: its note, its octets of Out, and the half after it. A bridge ends at place m.
abbrev pub next_up : ℕ → IoMemory → UpMemory → Note × List ℕ × UpMemory
next_up m io u = up_turned (up_before m io.done u) (up_at io.done io)

-- The next place of a downlink half, by the notes and the partner's frames: its bits of Down, and the half after it.
abbrev pub next_down : ℕ → IoMemory → List Note → List EffectiveFields → DownMemory →
    List ℕ × DownMemory
next_down m io notes frames d =
    let c = down_before m io.done d in
    let item = item_if c.bridged (effective_in io.done frames) in
    down_turned c (note_at io.done notes) item (pcm_at io.done io)

abbrev pub up_place : CallMemory → CallMemory
up_place j =
    let t = next_up j.bridge_end j.io j.up in
    record j { up = t.2; io = one_done (with_out j.io t.1); notes = j.notes ++ t.0 ∷ [] }

abbrev pub down_place : CallMemory → CallMemory
down_place j =
    let t = next_down j.bridge_end j.io j.notes j.partner j.down in
    record j { down = t.1; io = with_period j.io (octets_of t.0) }

abbrev pub phase_place : Phase → CallMemory → CallMemory
phase_place First j = up_place j
phase_place Second j = down_place j

-- ---- a job from its start to its end

-- a job after the next place of its phase, if there is one
abbrev pub call_place : CallMemory → CallMemory
call_place j = if has_period j.io then phase_place j.phase j else j

-- a job after n places
abbrev pub after_call_places : ℕ → CallMemory → CallMemory
after_call_places zero j = j
after_call_places (suc n) j = after_call_places n (call_place j)

-- the remaining places of the phase, and the job at the phase's end
abbrev pub periods_left : CallMemory → ℕ
periods_left j = places_left j.io

abbrev pub job_at_phase_end : CallMemory → CallMemory
job_at_phase_end j = after_call_places (periods_left j) j

-- the second phase begins
abbrev pub turn_down : CallMemory → CallMemory
turn_down j = record j { io = record j.io { done = 0 }; phase = Second }

-- ---- a half as the job of a call

-- a half at the start of its first phase; if it has a bridge, that ends at place m
abbrev pub job_at_start : ℕ → HalfMemory → CallMemory
job_at_start m h = record {
  up = up_of h.leg;
  down = h.leg.down;
  io = h.io;
  notes = [];
  partner = [];
  bridge_end = m;
  phase = First;
}

abbrev pub with_partner : List EffectiveFields → CallMemory → CallMemory
with_partner frames j = record j { partner = frames }

abbrev pub half_in : CallMemory → HalfMemory
half_in j = record { leg = joined j.up j.down; io = j.io }

abbrev pub leg_in : CallMemory → LegMemory
leg_in j = joined j.up j.down

abbrev pub with_leg : LegMemory → CallMemory → CallMemory
with_leg m j = record j { up = up_of m; down = m.down }

-- ---- between the rounds

-- a job at its start, without any place
abbrev pub at_rest : CallMemory → CallMemory
at_rest j = job_at_start 0 (record { leg = leg_in j; io = io_at_rest j.io })

-- a job with room for n places, all of them given, and for a bridged call for as many frames of its partner
abbrev pub plan : ℕ → Bool → CallMemory → CallMemory
plan n bridged j =
    job_at_start (if bridged then n else 0) (record { leg = leg_in j; io = io_planned j.io.call n })

-- a job with this number of places given, and a bridge's end at place m
abbrev pub begin : ℕ → ℕ → CallMemory → CallMemory
begin given m j = record j { io = record j.io { given = given }; bridge_end = m }

-- ---- between the phases

-- the effective frames of the notes
abbrev pub frames_in : List Note → List EffectiveFields
frames_in notes = map (λ (n : Note). n.eff) notes

-- a call takes over its partner's frames of the places before the bridge's end, and its second phase begins
abbrev pub hear_from : CallMemory → CallMemory → CallMemory
hear_from p j = turn_down (with_partner (take j.bridge_end (frames_in p.notes)) j)

-- a half at the end of its first phase, where a bridge that it has ends at place m
abbrev pub first_phase : ℕ → HalfMemory → CallMemory
first_phase m h = job_at_phase_end (job_at_start m h)

-- ---- a round of a call: both phases, and the partner's frames between them

abbrev pub round_alone : HalfMemory → CallMemory
round_alone h = job_at_phase_end (turn_down (first_phase 0 h))

-- the round of a call g whose partner is h and whose bridge ends at place m
abbrev pub round_beside : ℕ → HalfMemory → HalfMemory → CallMemory
round_beside m g h = job_at_phase_end (hear_from (first_phase m h) (first_phase m g))
