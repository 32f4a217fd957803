-- Truncation (GSM 06.10, sections 4.3.6 and 4.3.7).
use Rattle.std.specs.Prelude.{ℤ, pos, ◌*ℤ◌}
use Rattle.trau_num.specs.Num.{add_of, floor_shr}

-- sro: twice the sample, without its three lowest bits
unfoldable pub truncated : ℤ → ℤ
truncated msr = floor_shr (add_of msr msr) 3 *ℤ pos 8
