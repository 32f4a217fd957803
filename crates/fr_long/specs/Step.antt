-- One block, from the memory before it: synthesis (GSM 06.10, section 4.3.2), and the residuals that the encoder keeps
-- (section 4.2.18).
use Rattle.std.specs.Prelude.{ℤ, List, ◌++◌, drop, if◌then◌else◌}
use Rattle.fr_long.specs.Synthesis.{LtpBlock, is_lag, residual_after}
use Rattle.fr_long.specs.Memory.{LtpMemory}
use Rattle.fr_long.specs.Prediction.{reconstructed_of}

-- one block: its residual, and the memory after it
unfoldable pub synthesised : LtpMemory → LtpBlock → List ℤ × LtpMemory
synthesised memory b =
    let lag = if is_lag b.nc then b.nc else memory.lag in
    let residual = residual_after memory.residuals lag b.bc b.erp in
    (residual, record { lag = lag; residuals = drop 40 memory.residuals ++ residual })

-- the last 120 residuals after one more block
unfoldable pub updated : List ℤ → List ℤ → List ℤ → List ℤ
updated residuals dpp ep = drop 40 residuals ++ reconstructed_of dpp ep
