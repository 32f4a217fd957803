-- What became of a store, by all that was done with it, the latest first.
use Rattle.std.specs.Prelude.{◌≡◌, ℕ, if◌then◌else◌, ◌==◌, Option, Some, None, List, [], ◌∷◌, length, Bool, ◌&&◌, ◌||◌, not, true, false}
use Rattle.rtp_buffer.specs.declared.octet.Octet.{Octet}
use Rattle.rtp_buffer.specs.declared.octet.Octet.TheVariants.{Missing}
use Rattle.rtp_buffer.specs.declared.slot.Slot.{Slot}
use Rattle.rtp_buffer.specs.Octets.{came, with_octet, after_taking, after_leaving_out}
use Rattle.rtp_buffer.specs.Store.{place, slot_of, is_before}

pub data Deed : Type 0 where
  -- octets of a period were put, from one of its places on
  Put : ℕ → ℕ → List ℕ → Deed
  -- a period was played
  Take : ℕ → Deed
  -- what waited of a period, or of all before a period, was left out
  LeaveOut : ℕ → Deed
  LeaveOutBefore : ℕ → Deed

-- an octet's place after one of these
abbrev pub step : Deed → ℕ → ℕ → Octet → Octet
step (Put other part octets) period k octet =
    if other == period then with_octet octet (came part octets (length octets) k) else if slot_of other == slot_of period then Missing else octet
step (Take other) period k octet = if other == period then after_taking octet else octet
step (LeaveOut other) period k octet = if other == period then after_leaving_out octet else octet
step (LeaveOutBefore first) period k octet = if is_before period first then after_leaving_out octet else octet

abbrev pub place_after : List Deed → ℕ → ℕ → Octet
place_after [] period k = Missing
place_after (deed ∷ deeds) period k = step deed period k (place_after deeds period k)

-- the store is the one after these
pub record Stands {N : ℕ} (deeds : List Deed) (slots : List (Slot N)) : Type 0 where
  pub places : (period k : ℕ) → place slots period k ≡ place_after deeds period k

-- the octet that came for a place, if one did
abbrev pub came_by : Deed → ℕ → ℕ → Option ℕ
came_by (Put other part octets) period k = if other == period then came part octets (length octets) k else None
came_by (Take other) period k = None
came_by (LeaveOut other) period k = None
came_by (LeaveOutBefore first) period k = None

abbrev pub or_else : Option ℕ → Option ℕ → Option ℕ
or_else (Some octet) later = Some octet
or_else None later = later

-- whether octets of another period come into the slot of a period: what came for that one before is forgotten
abbrev pub gives_away : Deed → ℕ → Bool
gives_away (Put other part octets) period = not (other == period) && (slot_of other == slot_of period)
gives_away (Take other) period = false
gives_away (LeaveOut other) period = false
gives_away (LeaveOutBefore first) period = false

-- the first octet of all that came for a place since another period had its slot
abbrev pub first_came : List Deed → ℕ → ℕ → Option ℕ
first_came [] period k = None
first_came (deed ∷ deeds) period k = if gives_away deed period then None else or_else (first_came deeds period k) (came_by deed period k)

-- since then nothing was done with the period but to put octets of it
abbrev pub leaves : Deed → ℕ → Bool
leaves (Put other part octets) period = true
leaves (Take other) period = not (other == period)
leaves (LeaveOut other) period = not (other == period)
leaves (LeaveOutBefore first) period = not (is_before period first)

abbrev pub is_waiting : List Deed → ℕ → Bool
is_waiting [] period = true
is_waiting (deed ∷ deeds) period = gives_away deed period || (leaves deed period && is_waiting deeds period)
