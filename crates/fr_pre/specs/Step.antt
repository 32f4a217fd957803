-- Preprocessing, one sample after another and one frame after another (GSM 06.10, sections 4.2.1 to 4.2.3).
use Rattle.std.specs.Prelude.{ℤ, ◌-ℤ◌, List, [], ◌∷◌}
use Rattle.fr_pre.specs.Memory.{PreMemory}
use Rattle.fr_pre.specs.Preprocessing.{downscaled, next_l_z2, offset_free, preemphasised}

-- one sample, and the memory after it
unfoldable pub preprocessed_sample : PreMemory → ℤ → ℤ × PreMemory
preprocessed_sample memory x =
    let so = downscaled x in
    let l_z2 = next_l_z2 memory.l_z2 (so -ℤ memory.z1) in
    let sof = offset_free l_z2 in
    (preemphasised memory.mp sof, record { z1 = so; l_z2 = l_z2; mp = sof })

-- the samples of a frame, or of any list, one after another, and the memory after them
unfoldable pub preprocessed_frame : PreMemory → List ℤ → List ℤ × PreMemory
preprocessed_frame memory [] = ([], memory)
preprocessed_frame memory (x ∷ xs) =
    let first = preprocessed_sample memory x in
    let rest = preprocessed_frame first.1 xs in
    (first.0 ∷ rest.0, rest.1)
