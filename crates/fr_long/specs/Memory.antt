-- What long-term synthesis keeps from block to block (GSM 06.10, section 4.3.2).
use Rattle.std.specs.Prelude.{ℕ, ℤ, pos, List, replicate}

-- the last used lag, and the last 120 residuals, the oldest first
pub record LtpMemory : Type 0 where
  pub lag : ℕ
  pub residuals : List ℤ

-- the memory in the home state
abbrev pub home_memory : LtpMemory
home_memory = record { lag = 40; residuals = replicate 120 (pos 0) }
