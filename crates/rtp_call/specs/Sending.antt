-- When a frame is sent to the base station (GSM 06.31, section 5.1, and this project's profile).
use Rattle.std.specs.Prelude.{ℕ, zero, suc, ◌+◌, ◌%◌, Bool, true, false, if◌then◌else◌, ◌==◌, Option, Some, None}
use Rattle.call_coders.specs.declared.coders.DownKind.{DownKind}
use Rattle.call_coders.specs.declared.coders.DownKind.TheVariants.{Speech, Descriptor, Idle}
use Rattle.rtp_session.specs.declared.outgoing.Outgoing.{Outgoing}
use Rattle.rtp_session.specs.Outgoing.{sent, left_out}

-- in a pause one silence descriptor of so many is sent
abbrev pub descriptor_periods : ℕ
descriptor_periods = 24

-- in a pause, the silence descriptors that were made since the last one that was sent, after a period of this kind
abbrev pub pause_after : DownKind → Option ℕ → Option ℕ
pause_after Speech pause = None
pause_after Descriptor None = Some 0
pause_after Descriptor (Some descriptors) = Some ((descriptors % descriptor_periods + 1) % descriptor_periods)
pause_after Idle pause = None

-- after so many silence descriptors in a row, from the beginning of a pause on
abbrev pub pause_of : ℕ → Option ℕ
pause_of zero = None
pause_of (suc n) = pause_after Descriptor (pause_of n)

-- **Speech is sent, and so is the first silence descriptor of a pause and then each 24th one. Of a quiet call nothing
-- is sent.**
abbrev pub is_descriptor_sent : Option ℕ → Bool
is_descriptor_sent None = false
is_descriptor_sent (Some descriptors) = descriptors == 0

abbrev pub is_sent : DownKind → Option ℕ → Bool
is_sent Speech pause = true
is_sent Descriptor pause = is_descriptor_sent (pause_after Descriptor pause)
is_sent Idle pause = false

abbrev pub is_speech : DownKind → Bool
is_speech Speech = true
is_speech Descriptor = false
is_speech Idle = false

-- the stream to the base station after the period: a frame of 33 octets was sent, or there is a gap
abbrev pub station_after : DownKind → Option ℕ → Outgoing → Outgoing
station_after kind pause to = if is_sent kind pause then sent to 33 (is_speech kind) else left_out to
