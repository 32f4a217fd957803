-- The encoder from frame to frame (GSM 06.10, section 4.2).
use Rattle.std.specs.Prelude.{ℤ, List, [], ◌∷◌, ◌++◌, drop}
use Rattle.fr_pre.specs.Step.{preprocessed_frame}
use Rattle.fr_lpc.specs.Scaling.{samples_after}
use Rattle.fr_lpc.specs.Ratios.{ratio_codes, ratios_of_frame}
use Rattle.fr_short.specs.Step.{analysed_frame}
use Rattle.fr_encoder.specs.Blocks.{CodedBlock, coded_block, block_at, block_fields}
use Rattle.fr_encoder.specs.Encoded.{Encoded, encoding}
use Rattle.fr_encoder.specs.Memory.{EncoderMemory, home_memory}

-- one block: its codes, and the last 120 reconstructed residuals after it
unfoldable pub next_block : List ℤ → List ℤ → CodedBlock × List ℤ
next_block residuals d = let coded = coded_block d residuals in (coded.0, drop 40 residuals ++ coded.1)

-- the four blocks of a frame's residual: their codes, and the last 120 reconstructed residuals after them
unfoldable pub next_blocks : List ℤ → List ℤ → List CodedBlock × List ℤ
next_blocks residuals d =
    let first = next_block residuals (block_at d 0) in
    let second = next_block first.1 (block_at d 1) in
    let third = next_block second.1 (block_at d 2) in
    let fourth = next_block third.1 (block_at d 3) in
    (first.0 ∷ second.0 ∷ third.0 ∷ fourth.0 ∷ [], fourth.1)

-- one frame: its encoding, and the memory after it
unfoldable pub encoded_frame : EncoderMemory → List ℤ → Encoded × EncoderMemory
encoded_frame memory x =
    let pre = preprocessed_frame memory.preprocessing x in
    let short = analysed_frame memory.short_term (ratio_codes (ratios_of_frame pre.0)) (samples_after pre.0) in
    let long = next_blocks memory.long_term short.0 in
    (encoding pre.0 (block_fields long.0), record { preprocessing = pre.1; short_term = short.1; long_term = long.1 })

-- frames one after another from the home state, the newest first: all encodings, and the memory after them
unfoldable pub encoded_in_turn : List (List ℤ) → List Encoded × EncoderMemory
encoded_in_turn [] = ([], home_memory)
encoded_in_turn (x ∷ past) =
    let before = encoded_in_turn past in
    let newest = encoded_frame before.1 x in
    (before.0 ++ newest.0 ∷ [], newest.1)
