-- The search from period to period.
use Rattle.std.specs.Prelude.{ℕ, ◌+◌, ◌-◌, ◌*◌, ◌≤◌, List, ◌++◌, slice_index, Option, Some, None}
use Rattle.trau_bits.specs.Bits.{bits_of}
use Rattle.trau_frame.specs.Match.{frame_at}
use Rattle.frame_sync.specs.declared.yields.Ending.{Ending}
use Rattle.frame_sync.specs.declared.yields.Ending.TheVariants.{Nothing, Framed, Missed}
use Rattle.frame_sync.specs.declared.yields.Mode.{Mode}
use Rattle.frame_sync.specs.declared.yields.Yield.{Yield}
use Rattle.frame_sync.specs.declared.yields.Yield.TheVariants.{Frame, Miss}
use Rattle.frame_sync.specs.Periods.{searched}
use Rattle.frame_sync.specs.Memory.{SyncMemory}

-- the bits of two neighbouring periods as a line; the second period begins at place `base`
abbrev pub bit_of_two : ℕ → List ℕ → ℕ → ℕ
bit_of_two base bits p = slice_index bits (p + 320 - base)

-- the yield for what ends in a period of the line
abbrev pub yield_of_ending : (ℕ → ℕ) → Ending → Option Yield
yield_of_ending line Nothing = None
yield_of_ending line (Framed p) = Some (Frame p (frame_at line p))
yield_of_ending line (Missed p) = Some (Miss p)

-- the same for two neighbouring periods, with the mode after it
abbrev pub ends_in_two : ℕ → List ℕ → Ending × Mode → Option Yield × Mode
ends_in_two base bits found = (yield_of_ending (bit_of_two base bits) found.0, found.1)

-- a frame lies within two periods; the second period begins at place `base`
abbrev pub LiesWithin : ℕ → Ending → Type 0
LiesWithin base Nothing = Unit {0}
LiesWithin base (Framed p) = (base ≤ p + 320) × (p ≤ base)
LiesWithin base (Missed p) = Unit {0}

-- one period: its yield or none, and the memory after it
unfoldable pub next_period : SyncMemory → List ℕ → Option Yield × SyncMemory
next_period memory octets =
    let base = 320 * memory.periods in
    let found = searched (bit_of_two base (memory.last ++ bits_of octets)) base memory.mode in
    (found.0, record { periods = memory.periods + 1; last = bits_of octets; mode = found.1 })
