-- What becomes of an octet's place in a period.
use Rattle.std.specs.Prelude.{ℕ, ◌+◌, ◌-◌, ◌&&◌, Bool, true, false, if◌then◌else◌, nat_le, nat_lt, Option, Some, None, List, slice_index}
use Rattle.rtp_buffer.specs.declared.octet.Octet.{Octet}
use Rattle.rtp_buffer.specs.declared.octet.Octet.TheVariants.{Missing, Held, Played}

-- the octet that comes for the k-th place, if the first so many of these are put from a place on
abbrev pub came : ℕ → List ℕ → ℕ → ℕ → Option ℕ
came part octets count k = if nat_le part k && nat_lt k (part + count) then Some (slice_index octets (k - part)) else None

-- the first one that comes is held, whatever comes later
abbrev pub with_octet : Octet → Option ℕ → Octet
with_octet Missing (Some octet) = Held octet
with_octet Missing None = Missing
with_octet (Held octet) more = Held octet
with_octet Played more = Played

-- what is played of it, and how it stands then
abbrev pub heard : Octet → ℕ → ℕ
heard Missing filler = filler
heard (Held octet) filler = octet
heard Played filler = filler

abbrev pub after_taking : Octet → Octet
after_taking Missing = Missing
after_taking (Held octet) = Played
after_taking Played = Played

-- how it stands if what waits is left out
abbrev pub after_leaving_out : Octet → Octet
after_leaving_out Missing = Missing
after_leaving_out (Held octet) = Missing
after_leaving_out Played = Played

-- what waits there, and whether it came
abbrev pub held : Octet → Option ℕ
held Missing = None
held (Held octet) = Some octet
held Played = None

abbrev pub has_come : Octet → Bool
has_come Missing = false
has_come (Held octet) = true
has_come Played = true
