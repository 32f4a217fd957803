-- The input of long-term synthesis from a frame (GSM 06.10, section 4.3). A history has the newest block first.
use Rattle.std.specs.Prelude.{ℕ, ℤ, List, [], ◌∷◌, ◌++◌, slice_index, slice_index_or}
use Rattle.trau_params.specs.Fields.{Fields}
use Rattle.fr_rpe.specs.Pulses.{block_of}
use Rattle.fr_long.specs.Synthesis.{LtpBlock, block, residual_of}

-- block j of a frame: its lag, its gain, and the samples of its pulses
unfoldable pub ltp_block : Fields → ℕ → LtpBlock
ltp_block f j =
    block (slice_index f.nc j) (slice_index f.bc j) (block_of (slice_index f.mc j) (slice_index f.xmaxc j) (slice_index_or f.xmc j []))

-- the first blocks of a frame, after the blocks of earlier frames
abbrev pub one_block : Fields → List LtpBlock → List LtpBlock
one_block f past = ltp_block f 0 ∷ past

abbrev pub two_blocks : Fields → List LtpBlock → List LtpBlock
two_blocks f past = ltp_block f 1 ∷ one_block f past

abbrev pub three_blocks : Fields → List LtpBlock → List LtpBlock
three_blocks f past = ltp_block f 2 ∷ two_blocks f past

abbrev pub four_blocks : Fields → List LtpBlock → List LtpBlock
four_blocks f past = ltp_block f 3 ∷ three_blocks f past

-- the 160 residuals of a frame, block by block
unfoldable pub frame_residual : Fields → List LtpBlock → List ℤ
frame_residual f past =
    residual_of (ltp_block f 0) past ++ residual_of (ltp_block f 1) (one_block f past)
    ++ residual_of (ltp_block f 2) (two_blocks f past) ++ residual_of (ltp_block f 3) (three_blocks f past)
