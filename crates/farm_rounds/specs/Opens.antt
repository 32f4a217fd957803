-- The open calls of a farm.
use Rattle.std.specs.Prelude.{◌≡◌, ◌≢◌, ℕ, ◌==◌, ◌≤◌, Bool, Option, Some, None, is_some, if◌then◌else◌, false, List, [], map}
use Rattle.std.specs.List.{All}
use Rattle.std.specs.Global.{Box}
use Rattle.trau_alaw.specs.declared.Law.{Law}
use Rattle.call_number.specs.CallNumber.{IsCallNumber}
use Rattle.call_leg.specs.Memory.{home_memory}
use Rattle.call_pair.specs.Memory.{IoMemory, no_octets}
use Rattle.call_pair.specs.Phases.{CallMemory, job_at_start, at_rest, plan, begin, job_at_phase_end, periods_left, leg_in}
use Rattle.call_pair.specs.declared.call_job.Phase.TheVariants.{First}
use Rattle.round_lines.specs.Transfer.{has_failed}
use Rattle.round_lines.specs.declared.transfer.Outlet.TheVariants.{Sound}
use Rattle.round_lines.specs.Memory.{LinesMemory, fresh_lines, nothing_taken, whole_in}
use Rattle.round_lines.specs.Portions.{PortionMemory}
use Rattle.farm_rounds.specs.declared.calls.Calls.{Calls}
use Rattle.farm_rounds.specs.declared.open.OpenCall.{OpenCall}
use Rattle.farm_rounds.specs.Calls.{Kept, partner_in}
use Rattle.farm_rounds.specs.Memory.{FarmMemory}
use Rattle.farm_rounds.specs.Numbers.{IsRising, is_among}

-- what is in the boxes
abbrev pub opens_in : List (Box OpenCall) → List OpenCall
opens_in boxes = map (λ b. b.value) boxes

-- what is seen of an open call, and of its lines in a round
abbrev pub kept_of : OpenCall → Kept
kept_of o = record {
  call = record {
    number = o.job.io.call;
    leg = leg_in o.job;
    down_failed = has_failed o.lines.down;
    out_failed = has_failed o.lines.out;
  };
  partner = o.partner;
}

abbrev pub calls_of : List (Box OpenCall) → List Kept
calls_of boxes = map kept_of (opens_in boxes)

abbrev pub portion_with : LinesMemory → IoMemory → PortionMemory
portion_with lines io = record {
  lines = lines;
  up = io.up;
  pcm = io.pcm;
  down = io.down;
  out = io.out;
}

abbrev pub portion_of_open : OpenCall → PortionMemory
portion_of_open o = portion_with o.lines o.job.io

abbrev pub portions_of : List (Box OpenCall) → List PortionMemory
portions_of boxes = map portion_of_open (opens_in boxes)

-- what is seen of the calls of a farm
abbrev pub farm_of : Calls → FarmMemory
farm_of x = record {
  calls = calls_of x.open.items;
  live = x.live.items;
  tallies = x.tallies.items;
  failed = x.failed.items;
  ended = x.ended;
}

-- ---- the steps of one call

abbrev pub new_open : ℕ → Law → OpenCall
new_open c law = record {
  job = job_at_start 0 (record {
    leg = home_memory (record { number = c; law = law });
    io = no_octets c;
  });
  lines = fresh_lines c 1 false false;
  partner = None;
}

abbrev pub with_job : OpenCall → CallMemory → OpenCall
with_job o j = record { job = j; lines = o.lines; partner = o.partner }

-- a round of n periods is planned
abbrev pub open_planned : ℕ → OpenCall → OpenCall
open_planned n o = record {
  job = plan n (is_some o.partner) o.job;
  lines = fresh_lines o.lines.call n (has_failed o.lines.down) (has_failed o.lines.out);
  partner = o.partner;
}

-- a call without the octets and the marks of its incoming lines
abbrev pub same_portion : OpenCall → OpenCall
same_portion o = record {
  job = record o.job { io = record o.job.io { up = []; pcm = [] } };
  lines = record o.lines { up = nothing_taken; pcm = nothing_taken };
  partner = o.partner;
}

-- a call without the marks of its outgoing lines
abbrev pub same_call : OpenCall → OpenCall
same_call o = record {
  job = o.job;
  lines = record o.lines { down = Sound; out = Sound };
  partner = o.partner;
}

-- a call whose first phase begins: it has the whole periods that its lines gave, and the first m are bridged
abbrev pub open_begun : ℕ → OpenCall → OpenCall
open_begun m o = with_job o (begin (whole_in o.lines) m o.job)

abbrev pub open_left : OpenCall → ℕ
open_left o = periods_left o.job

-- a call whose phase is finished
abbrev pub open_finished : OpenCall → OpenCall
open_finished o = with_job o (job_at_phase_end o.job)

-- a call goes on if its lines gave all periods of the round
abbrev pub goes_on_open : OpenCall → Bool
goes_on_open o = whole_in o.lines == o.lines.periods

-- the partner, if it is in the list
abbrev pub still_among : List ℕ → Option ℕ → Option ℕ
still_among live None = None
still_among live (Some p) = if is_among live p then Some p else None

-- a call after a round: its job is reset, and it has no partner if that one has ended
abbrev pub open_rested : List ℕ → OpenCall → OpenCall
open_rested live o = record {
  job = at_rest o.job;
  lines = o.lines;
  partner = still_among live o.partner;
}

-- ---- between the rounds

-- an open call whose leg has processed at most `most` periods: both halves of the leg are bridged exactly if it has a
-- partner
pub record IsOpenCall (most : ℕ) (o : OpenCall) : Type 0 where
  pub number : IsCallNumber o.job.io.call
  pub lines : o.lines.call ≡ o.job.io.call
  pub worked : o.job.up.search.periods ≤ most
  pub first : o.job.phase ≡ First
  pub none : o.job.io.done ≡ 0
  pub up : o.job.up.bridged ≡ is_some o.partner
  pub down : o.job.down.bridged ≡ is_some o.partner

-- a bridge is between two calls
abbrev pub AreMutual : List Kept → Type 0
AreMutual calls = (c d : ℕ) → partner_in calls c ≡ Some d → (partner_in calls d ≡ Some c) × (c ≢ d)

-- The calls are in rising order of their numbers, which `live` lists.
pub record AreOpen (most : ℕ) (live : List ℕ) (opens : List OpenCall) : Type 0 where
  pub listed : live ≡ map (λ o. o.job.io.call) opens
  pub rising : IsRising live
  pub each : All (IsOpenCall most) opens
  pub both : AreMutual (map kept_of opens)
