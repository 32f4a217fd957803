-- The preprocessed list of a whole list of samples from the home state (GSM 06.10, sections 4.2.1 to 4.2.3). A history
-- has the newest frame first.
use Rattle.std.specs.Prelude.{ℤ, List, [], ◌∷◌, ◌++◌}
use Rattle.fr_pre.specs.Memory.{PreMemory, home_memory}
use Rattle.fr_pre.specs.Step.{preprocessed_frame}

-- the samples of all frames, the oldest first
unfoldable pub samples_of_frames : List (List ℤ) → List ℤ
samples_of_frames [] = []
samples_of_frames (frame ∷ past) = samples_of_frames past ++ frame

-- the preprocessed list of a whole list of samples
abbrev pub preprocessed : List ℤ → List ℤ
preprocessed xs = (preprocessed_frame home_memory xs).0

-- the memory after all frames
abbrev pub memory_after : List (List ℤ) → PreMemory
memory_after past = (preprocessed_frame home_memory (samples_of_frames past)).1

-- the preprocessed samples of a frame after the frames of the past
abbrev pub newest_preprocessed : List ℤ → List (List ℤ) → List ℤ
newest_preprocessed frame past = (preprocessed_frame (memory_after past) frame).0
