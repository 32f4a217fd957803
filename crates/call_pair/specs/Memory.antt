-- The memory of a call in a job.
use Rattle.std.specs.Prelude.{◌≡◌, ℕ, ◌-◌, ◌*◌, ◌≤◌, List, [], length, replicate}
use Rattle.call_number.specs.CallNumber.{IsCallNumber}
use Rattle.call_leg.specs.Memory.{LegMemory}

-- the octets of a call in a round: those of its Up and Pcm lines, those for its Out and Down lines; how many periods
-- are given, and how many of them are done
pub record IoMemory : Type 0 where
  pub call : ℕ
  pub up : List ℕ
  pub pcm : List ℕ
  pub out : List ℕ
  pub down : List ℕ
  pub given : ℕ
  pub done : ℕ

-- a leg with its octets
pub record HalfMemory : Type 0 where
  pub leg : LegMemory
  pub io : IoMemory

-- what a round is defined over: one call, or the two calls of a bridge together
pub data Job : Type 0 where
  One : HalfMemory → Job
  Two : HalfMemory → HalfMemory → Job

-- no period of a call
abbrev pub no_octets : ℕ → IoMemory
no_octets c = record { call = c; up = []; pcm = []; out = []; down = []; given = 0; done = 0 }

abbrev pub io_at_rest : IoMemory → IoMemory
io_at_rest io = record io { given = 0; done = 0 }

-- room for n periods, all of them given
abbrev pub io_planned : ℕ → ℕ → IoMemory
io_planned c n = record {
  call = c;
  up = replicate (40 * n) 0;
  pcm = replicate (160 * n) 0;
  out = replicate (160 * n) 0;
  down = replicate (40 * n) 0;
  given = n;
  done = 0;
}

-- the remaining places: the periods given and not yet done
abbrev pub places_left : IoMemory → ℕ
places_left io = io.given - io.done

-- All buffers have room for the same number of periods, at least for those given: 40 octets a period in Up and Down,
-- 160 in Pcm and Out.
pub record HaveRoom (up pcm out down : List ℕ) (given : ℕ) : Type 0 where
  pub periods : ℕ
  pub enough : given ≤ periods
  pub up_room : length up ≡ 40 * periods
  pub pcm_room : length pcm ≡ 160 * periods
  pub out_room : length out ≡ 160 * periods
  pub down_room : length down ≡ 40 * periods

pub record IsIo (io : IoMemory) : Type 0 where
  pub number : IsCallNumber io.call
  pub room : HaveRoom io.up io.pcm io.out io.down io.given
  pub within : io.done ≤ io.given
