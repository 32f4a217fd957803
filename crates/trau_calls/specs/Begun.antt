-- The call of a handle, before and after an export.
use Rattle.std.specs.Prelude.{Option, Some, None}
use Rattle.rtp_call.specs.declared.call.Call.{Call}
use Rattle.rtp_call.specs.Call.{IsReady}

-- it has a call, as an export leaves it
abbrev pub IsBegun : Option Call → Type 0
IsBegun None = ⊥
IsBegun (Some call) = IsReady call

-- it has a call before and after, of which this holds
abbrev pub FromTo : Option Call → Option Call → (Call → Call → Type 0) → Type 0
FromTo None after holds = ⊥
FromTo (Some old) None holds = ⊥
FromTo (Some old) (Some new) holds = holds old new
