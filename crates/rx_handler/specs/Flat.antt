-- The memory that the plain numbers of a receive side stand for.
use Rattle.std.specs.Prelude.{if◌then◌else◌, ◌==◌}
use Rattle.trau_params.specs.Fields.{fields_of}
use Rattle.rx_handler.specs.Memory.{RxState, Quiet, Speech, Noise, RxMemory}
use Rattle.rx_handler.specs.declared.flat.FlatRx.{FlatRx}

-- quiet for tag 0, speech for 1, else noise
abbrev pub flat_state : FlatRx → RxState
flat_state f =
    if f.tag == 0 then Quiet
    else if f.tag == 1 then Speech (fields_of f.first) f.periods
    else Noise (fields_of f.first) (fields_of f.second) f.step f.missed f.periods

abbrev pub flat_memory : FlatRx → RxMemory
flat_memory f = record { state = flat_state f; source = f.source }
