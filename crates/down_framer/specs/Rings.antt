-- The invariant of a framer's rings.
use Rattle.std.specs.Prelude.{◌≡◌, ℕ, ◌<◌, ◌≤◌, length, ◌⊎◌}
use Rattle.circular_buffer.specs.Buffer.{Buffer}
use Rattle.time_align.specs.Shift.{greatest_shift}
use Rattle.trau_bits.specs.Bits.{AreBits}
use Rattle.down_framer.specs.Memory.{FramerMemory, IsBetweenPeriods, IsWithinPeriod}

-- the state that the rings hold
abbrev pub ring_memory : Buffer ℕ → Buffer ℕ → ℕ → FramerMemory
ring_memory bits octets skip = record { stored = bits.items; held = octets.items; to_skip = skip }

-- Room for 960 bits and 320 octets. At most the greatest shift is to be skipped, and only if none are held. A framer is
-- between periods or within one.
pub record AreRings (bits octets : Buffer ℕ) (skip : ℕ) : Type 0 where
  pub rooms : (bits.capacity ≡ 960) × (octets.capacity ≡ 320)
  pub fits : (length bits.items ≤ 960) × (length octets.items ≤ 320)
  pub bounded : skip ≤ greatest_shift
  pub none_held : 0 < length octets.items → skip ≡ 0
  pub are_bits : AreBits bits.items
  pub phase : IsBetweenPeriods (ring_memory bits octets skip) ⊎ IsWithinPeriod (ring_memory bits octets skip)
