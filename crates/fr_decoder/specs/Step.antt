-- The decoder from frame to frame (GSM 06.10, section 4.3).
use Rattle.std.specs.Prelude.{ℤ, List, [], ◌∷◌, ◌++◌, map}
use Rattle.trau_params.specs.Fields.{Fields}
use Rattle.fr_decoder.specs.Blocks.{ltp_block}
use Rattle.fr_short.specs.Deemphasis.{deemphasised, last_of}
use Rattle.fr_decoder.specs.Truncation.{truncated}
use Rattle.fr_long.specs.Memory as ltp
use Rattle.fr_long.specs.Step.{synthesised}
use Rattle.fr_short.specs.Step.{synthesised_frame}
use Rattle.fr_decoder.specs.Memory.{DecoderMemory, home_memory}

-- the residual of a frame's four blocks, and the memory after them
unfoldable pub synthesised_blocks : ltp.LtpMemory → Fields → List ℤ × ltp.LtpMemory
synthesised_blocks memory f =
    let a = synthesised memory (ltp_block f 0) in
    let b = synthesised a.1 (ltp_block f 1) in
    let c = synthesised b.1 (ltp_block f 2) in
    let d = synthesised c.1 (ltp_block f 3) in
    (a.0 ++ b.0 ++ c.0 ++ d.0, d.1)

-- one frame: its 160 samples, and the memory after it
unfoldable pub decoded_frame : DecoderMemory → Fields → List ℤ × DecoderMemory
decoded_frame memory f =
    let long = synthesised_blocks memory.long_term f in
    let short = synthesised_frame memory.short_term f.larc long.0 in
    let msr = deemphasised memory.msr short.0 in
    (map truncated msr, record { long_term = long.1; short_term = short.1; msr = last_of memory.msr msr })

-- frames one after another from the home state, the newest first: all samples, and the memory after them
unfoldable pub decoded_in_turn : List Fields → List ℤ × DecoderMemory
decoded_in_turn [] = ([], home_memory)
decoded_in_turn (f ∷ past) =
    let before = decoded_in_turn past in
    let newest = decoded_frame before.1 f in
    (before.0 ++ newest.0, newest.1)
