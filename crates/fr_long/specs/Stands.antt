-- The past that the memory of synthesis, or the encoder's residuals, stand for.
use Rattle.std.specs.Prelude.{◌-◌, ◌≡◌, ℤ, pos, List, ◌++◌, length, drop, replicate}
use Rattle.fr_long.specs.Synthesis.{LtpBlock, lag_in_force, residuals_of}
use Rattle.fr_long.specs.Memory.{LtpMemory}

-- the last 120 of a list
abbrev pub last_120 : List ℤ → List ℤ
last_120 xs = drop (length xs - 120) xs

-- the memory is the one after these blocks from the home state
pub record Stands (past : List LtpBlock) (memory : LtpMemory) : Type 0 where
  pub lag : memory.lag ≡ lag_in_force past
  pub residuals : memory.residuals ≡ last_120 (residuals_of past)

-- all earlier residuals, the oldest first, after 120 zeros
abbrev pub after_zeros : List ℤ → List ℤ
after_zeros past = replicate 120 (pos 0) ++ past

-- the residuals kept are the last 120 of all earlier ones
pub record HistoryStands (past residuals : List ℤ) : Type 0 where
  pub residuals_are : residuals ≡ last_120 (after_zeros past)
