-- What a handle owns.
use Rattle.std.specs.Prelude.{Option, Some, None}
use base.Fml.{Fml, ftrue}
use denote.RawPtr.{Ptr}
use Rattle.std.specs.Box.Ownership.{box_owns}
use Rattle.std.specs.Global.{Global}
use Rattle.std.specs.contracts.impls.GlobalAllocator.TheImpl.{ghosts}
use Rattle.rtp_call.specs.declared.call.Call.{Call}
use Rattle.rtp_call.specs.contracts.call.Call.{the_row}

-- the block at its pointer has the call, and may be freed
abbrev pub held : Global → Ptr → Option Call → Fml
held heap at None = ftrue
held heap at (Some call) = box_owns (ghosts.dealloc_token heap) the_row at call
