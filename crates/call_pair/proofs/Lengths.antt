-- A part of octets has its length, and a period 40 octets of the Down line.
use Rattle.std.proofs.Common.{◌≡◌, ℕ, ◌+◌, ◌≤◌, List, ◌∷◌, length, take, drop, arith}
use Rattle.std.proofs.lemmas.List.{length-drop, length-take-le}
use Rattle.trau_bits.specs.Bits.{octets_of}
use Rattle.trau_bits.proofs.Octets.{length-octets_of}
use Rattle.call_leg.specs.Who.{Who}
use Rattle.call_leg.specs.Periods.{CallPeriod}
use Rattle.call_leg.specs.Down.{down_now}
use Rattle.call_leg.proofs.LineLaws.{length-down_now}

pub length-taken : (xs : List ℕ) (n start : ℕ) → start + n ≤ length xs → length (take n (drop start xs)) ≡ n
length-taken xs n start h = length-take-le n (drop start xs) (omega (arith, length-drop start xs))

pub length-down_octets : (who : Who) (t : CallPeriod) (past : List CallPeriod) → length (octets_of (down_now who (t ∷ past))) ≡ 40
length-down_octets who t past = length-octets_of (down_now who (t ∷ past)) 40 (length-down_now who t past)
