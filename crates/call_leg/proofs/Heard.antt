-- For crates above: the Up line has one list of octets for each period (`length-ups_of`).
use Rattle.std.proofs.Common.{◌≡◌, refl, ap, List, [], ◌∷◌}
use Rattle.std.specs.Prelude.{length, suc}
use Rattle.call_leg.specs.Periods.{CallPeriod, ups_of}

pub length-ups_of : (ts : List CallPeriod) → length (ups_of ts) ≡ length ts
length-ups_of [] = refl
length-ups_of (t ∷ past) = ap suc (length-ups_of past)
