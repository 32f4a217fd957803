-- A handle may go to another thread: what it owns is plain data, and a block that any thread may free.
use Rattle.std.specs.Prelude.{Option, Some, None}
use Rattle.std.specs.Global.{Global}
use base.Shift.{Keyless}
use mir.Raw.{raw}
use denote.Memory.{lone}
use denote.Builtin.{RawPtr}
use denote.RawPtr.{Ptr}
use denote.Struct.Struct.{exits_of}
use denote.Struct.Owning.{shape, fields, to}
use denote.Param.Send.{IsSend, owning_send, struct_send, sendable}
use Rattle.std_alloc.proofs.SendSync.{quiet, lies}
use Rattle.std.proofs.Crossing.{frees}
use Rattle.rtp_call.specs.declared.call.Call.{Call}
use Rattle.rtp_call.specs.contracts.call.Call.{the_row as C}
use Rattle.rtp_call.proofs.call.Call.TheSendSync as of_call
use Rattle.trau_calls.specs.Held.{held}
use Rattle.trau_calls.specs.contracts.handle.Handle.{the_row, the_type}

pointer : IsSend RawPtr
pointer = search sendable

held_keyless : (heap : Global) (at : Ptr) (held-call : Option Call) → Keyless (held heap at held-call)
held_keyless heap at None = tt
held_keyless heap at (Some it) = (lies C of_call.the_send at it, frees.frees heap (raw (lone C.mir)) at)

pub send : IsSend the_row
send = owning_send the_type (pointer, tt) (λ h. held_keyless h.heap h.state h.call)
    (λ k. quiet (to the_type) (exits_of k (fields the_type)) ((struct_send (shape the_type) (pointer, tt)).leaving k))
