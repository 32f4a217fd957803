-- Time alignment, one operation after another (this project's profile, modelled on GSM 08.60).
use Rattle.std.specs.Prelude.{ℕ, ℤ, pos, true, false, if◌then◌else◌, None, unwrap_or}
use Rattle.time_align.specs.Shift.{asked_then}
use Rattle.time_align.specs.Memory.{AlignMemory}

-- a field is asked: if it has a shift, that replaces the kept one
abbrev pub after_ask : AlignMemory → ℕ → AlignMemory
after_ask memory field = record { kept = asked_then field memory.kept; frozen = memory.frozen }

-- shifts are frozen
abbrev pub after_freeze : AlignMemory → AlignMemory
after_freeze memory = record { kept = memory.kept; frozen = true }

-- shifts are thawed
abbrev pub after_thaw : AlignMemory → AlignMemory
after_thaw memory = record { kept = memory.kept; frozen = false }

-- a frame is made: its shift, and the memory after it
abbrev pub adopted : AlignMemory → ℤ × AlignMemory
adopted memory =
    if memory.frozen then (pos 0, memory)
    else (unwrap_or memory.kept (pos 0), record { kept = None; frozen = false })
