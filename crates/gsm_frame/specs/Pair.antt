-- The 65 octets that carry two frames in WAV49 files (format 49 of RIFF WAVE): the 260 bits of the first frame, then
-- those of the second, eight to an octet, least significant first.
use Rattle.std.specs.Prelude.{ℕ, List}
use Rattle.std.specs.List.{flat_map}
use Rattle.trau_params.specs.FieldBits.{low_bits}

-- the bits of the octets in this order
abbrev pub bits_of_pair : List ℕ → List ℕ
bits_of_pair octets = flat_map (low_bits 8) octets
