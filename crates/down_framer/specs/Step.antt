-- The state of a framer after each operation.
use Rattle.std.specs.Prelude.{ℕ, ◌-◌, ℤ, List, ◌++◌, length, drop}
use Rattle.down_framer.specs.Made.{octets_to_next, frame_on_line}
use Rattle.down_framer.specs.Memory.{FramerMemory}

-- a period's octets: those that are to be skipped are dropped, the rest are held
abbrev pub after_put : FramerMemory → List ℕ → FramerMemory
after_put s octets = record { stored = s.stored; held = s.held ++ drop s.to_skip octets; to_skip = s.to_skip - 160 }

-- a frame and its shift: the frame goes into store, and the octets up to the next frame's start are dropped; those of
-- them that aren't held yet are to be skipped
abbrev pub after_frame : FramerMemory → List ℕ → ℤ → FramerMemory
after_frame s f shift = record {
  stored = s.stored ++ frame_on_line shift f;
  held = drop (octets_to_next shift) s.held;
  to_skip = octets_to_next shift - length s.held;
}

-- the bits of a period go out
abbrev pub after_take : FramerMemory → FramerMemory
after_take s = record { stored = drop 320 s.stored; held = s.held; to_skip = s.to_skip }
