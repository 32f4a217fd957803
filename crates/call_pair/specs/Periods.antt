-- The places of a call's octets in a round: place k has those of period k.
use Rattle.std.specs.Prelude.{ℕ, ◌+◌, ◌*◌, Bool, nat_lt, List, ◌++◌, length, take, drop}
use Rattle.call_pair.specs.Memory.{IoMemory}

-- the octets of place k
abbrev pub up_at : ℕ → IoMemory → List ℕ
up_at k io = take 40 (drop (40 * k) io.up)

abbrev pub pcm_at : ℕ → IoMemory → List ℕ
pcm_at k io = take 160 (drop (160 * k) io.pcm)

-- a buffer with these octets from `start` on, and its other octets unchanged
abbrev pub buffer_with : List ℕ → ℕ → List ℕ → List ℕ
buffer_with buffer start octets = take start buffer ++ octets ++ drop (start + length octets) buffer

-- the octets of the next place are written: those of Out, then those of Down, which complete the place
abbrev pub with_out : IoMemory → List ℕ → IoMemory
with_out io octets = record io { out = buffer_with io.out (160 * io.done) octets }

abbrev pub with_period : IoMemory → List ℕ → IoMemory
with_period io octets = record io {
  down = buffer_with io.down (40 * io.done) octets;
  done = io.done + 1;
}

-- a place remains
abbrev pub has_period : IoMemory → Bool
has_period io = nat_lt io.done io.given
