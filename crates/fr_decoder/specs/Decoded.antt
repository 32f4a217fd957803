-- The decoded list: the samples of all frames from the home state (GSM 06.10, section 4.3). A history has the newest
-- frame first.
use Rattle.std.specs.Prelude.{ℤ, pos, List, [], ◌∷◌, ◌++◌, map, reverse}
use Rattle.trau_params.specs.Fields.{Fields}
use Rattle.fr_long.specs.Synthesis.{LtpBlock}
use Rattle.fr_short.specs.Synthesis.{ResidualFrame, residual_frame, synthesis_of}
use Rattle.fr_decoder.specs.Blocks.{four_blocks, frame_residual}
use Rattle.fr_short.specs.Deemphasis.{deemphasised, last_of}
use Rattle.fr_decoder.specs.Truncation.{truncated}

-- all blocks of the frames
unfoldable pub blocks_of : List Fields → List LtpBlock
blocks_of [] = []
blocks_of (f ∷ past) = four_blocks f (blocks_of past)

-- the input of short-term synthesis from each frame: its ratio codes and its residual
unfoldable pub residual_frames : List Fields → List ResidualFrame
residual_frames [] = []
residual_frames (f ∷ past) = residual_frame f.larc (frame_residual f (blocks_of past)) ∷ residual_frames past

-- the last de-emphasised sample, 0 in the home state
unfoldable pub last_msr : List Fields → ℤ
last_msr [] = pos 0
last_msr (f ∷ past) = let before = last_msr past in last_of before (deemphasised before (synthesis_of (residual_frames (f ∷ past))).0)

-- the 160 samples of a frame after the frames of the past
unfoldable pub samples_of : Fields → List Fields → List ℤ
samples_of f past = map truncated (deemphasised (last_msr past) (synthesis_of (residual_frames (f ∷ past))).0)

-- all samples, the oldest first
unfoldable pub all_samples : List Fields → List ℤ
all_samples [] = []
all_samples (f ∷ past) = all_samples past ++ samples_of f past

-- the decoded list of frames, the oldest first
abbrev pub decoded : List Fields → List ℤ
decoded frames = all_samples (reverse frames)
