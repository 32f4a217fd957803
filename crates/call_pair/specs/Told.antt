-- The result of a round, by the history of its calls: the runs of the halves of each leg.
use Rattle.std.specs.Prelude.{◌≡◌, ℕ, ◌*◌, List, [], ◌++◌, drop, take, min}
use Rattle.rx_handler.specs.Origin.{EffectiveFields}
use Rattle.call_leg.specs.Halves.{Note}
use Rattle.call_leg.specs.Runs.{LegHistory, UpRun, DownRun}
use Rattle.call_pair.specs.Memory.{IoMemory, HalfMemory, Job, One, Two}
use Rattle.call_pair.specs.Periods.{up_at, pcm_at}
use Rattle.call_pair.specs.History.{Start, who_of}
use Rattle.call_pair.specs.Phases.{frames_in}

-- the history of a call's leg at the start of a round, and the octets of each place
abbrev pub history_of : Start → LegHistory
history_of s = record { who = who_of s; past = s.past; now = s.now }

abbrev pub ups_in : Start → ℕ → List ℕ
ups_in s k = up_at k s.io

abbrev pub pcms_in : Start → ℕ → List ℕ
pcms_in s k = pcm_at k s.io

-- ---- a job's run

-- the octets of a call after all its places
abbrev pub io_with : IoMemory → List ℕ → List ℕ → IoMemory
io_with io outs downs = record {
  call = io.call;
  up = io.up;
  pcm = io.pcm;
  out = outs ++ drop (160 * io.given) io.out;
  down = downs ++ drop (40 * io.given) io.down;
  given = io.given;
  done = io.given;
}

-- A half's octets are those of the run of its uplink half, which gives these notes, and of the run of its downlink half
-- with these items.
pub record HalfRuns (s : Start) (m : ℕ) (notes : List Note) (items : List EffectiveFields)
    (h : HalfMemory) : Type 0 where
  pub outs : List ℕ
  pub downs : List ℕ
  pub up : UpRun (history_of s) (ups_in s) m s.io.given notes outs
  pub down : DownRun (history_of s) notes items (pcms_in s) s.io.given downs
  pub io : h.io ≡ io_with s.io outs downs

-- the job of one call
pub record OneRuns (s : Start) (job : Job) : Type 0 where
  pub half : HalfMemory
  pub notes : List Note
  pub is_one : job ≡ One half
  pub run : HalfRuns s 0 notes [] half

-- The job of two calls: the items of each are the other's effective frames of the places that both have.
pub record TwoRun (a b : Start) (job : Job) : Type 0 where
  pub first : HalfMemory
  pub second : HalfMemory
  pub first_notes : List Note
  pub second_notes : List Note
  pub are_two : job ≡ Two first second
  pub first_run : HalfRuns a (min a.io.given b.io.given) first_notes
      (take (min a.io.given b.io.given) (frames_in second_notes)) first
  pub second_run : HalfRuns b (min a.io.given b.io.given) second_notes
      (take (min a.io.given b.io.given) (frames_in first_notes)) second
