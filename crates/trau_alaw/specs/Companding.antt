-- Companding (G.711): an octet stands for an interval of values of 16 bits.
use Rattle.std.specs.Prelude.{◌≡◌, ℕ, ◌+◌, ◌<◌, ℤ, pos, negsuc, neg_ℤ, FitsSigned, Bool, not, ◌&&◌, nat_le, nat_lt, IsTrue, if◌then◌else◌}
use Rattle.std.specs.Int.{w16}
use Rattle.std.specs.List.{range_with_len, position_or_len}

-- the values of one sign with `width` magnitudes from `least` on; `centre` is the magnitude that stands for them
pub record Interval : Type 0 where
  pub is_positive : Bool
  pub least : ℕ
  pub width : ℕ
  pub centre : ℕ

-- a companding law: the interval of each octet
abbrev pub Companding : Type 0
Companding = ℕ → Interval

-- the magnitude of a value x: x, or -1 - x if x is negative
abbrev pub magnitude : ℤ → ℕ
magnitude (pos n) = n
magnitude (negsuc n) = n

-- whether the interval contains the magnitude, whatever the sign
abbrev pub has_magnitude : Interval → ℕ → Bool
has_magnitude i n = nat_le i.least n && nat_lt n (i.least + i.width)

-- whether the value lies in the interval
abbrev pub contains : Interval → ℤ → Bool
contains i (pos n) = i.is_positive && has_magnitude i n
contains i (negsuc n) = not i.is_positive && has_magnitude i n

-- the value that stands for the interval: its centre, with its sign
abbrev pub middle : Interval → ℤ
middle i = if i.is_positive then pos i.centre else neg_ℤ (pos i.centre)

-- the octet whose interval contains the value; in A-law and mu-law, each value of 16 bits has exactly one
unfoldable pub octet_of : Companding → ℤ → ℕ
octet_of law x = position_or_len (λ octet. contains (law octet) x) (range_with_len 0 256)

-- the octet's interval holds the value, and no other octet's does
pub record IsOnlyOctet (law : Companding) (x : ℤ) (octet : ℕ) : Type 0 where
  pub is_octet : octet < 256
  pub within : IsTrue (contains (law octet) x)
  pub only : (other : ℕ) → other < 256 → IsTrue (contains (law other) x) → other ≡ octet

-- the law's intervals partition the values of 16 bits: each value lies in exactly one
abbrev pub PartsWords : Companding → Type 0
PartsWords law = (x : ℤ) → FitsSigned w16 x → (octet : ℕ) × IsOnlyOctet law x octet
