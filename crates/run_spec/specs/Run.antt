-- A run, and the periods of its calls (this project's profile). Lists of periods have the newest first, lists of
-- orders the oldest.
use Rattle.std.specs.Prelude.{ℕ, ◌+◌, ◌-◌, ◌*◌, zero, suc, ℤ, pos, Bool, ◌&&◌, ◌||◌, if◌then◌else◌, ◌==◌, nat_le, nat_lt, min, true, ◌≡◌, Option, option_map}
use Rattle.std.specs.Prelude.{is_some, find, Result, Ok, List, [], ◌∷◌, length, take, drop, filter}
use Rattle.std.specs.List.{list_any}
use Rattle.trau_params.specs.Bits260.{bits260}
use Rattle.trau_alaw.specs.declared.Law.{Law}
use Rattle.trau_io.specs.declared.ends.Cause.{Cause}
use Rattle.trau_orders.specs.declared.order.Order.{Order}
use Rattle.trau_orders.specs.declared.order.DtxMode.{DtxMode}
use Rattle.trau_orders.specs.declared.order.DtxMode.TheVariants.{Uplink}
use Rattle.switchboard.specs.declared.act.Act.{Act}
use Rattle.switchboard.specs.declared.act.Act.TheVariants as act
use Rattle.switchboard.specs.declared.act.Refusal.{Refusal}
use Rattle.switchboard.specs.declared.act.Span.{Span}
use Rattle.switchboard.specs.Calls.{Done, opened_at, law_at}
use Rattle.switchboard.specs.Runs.{done_of}
use Rattle.switchboard.specs.Ends.{Given, whole_of, start_of, end_of, ends_at, spans_of}
use Rattle.frame_sync.specs.Periods.{yield_of}
use Rattle.rx_handler.specs.Heard.{Heard}
use Rattle.rx_handler.specs.Past.{effective_of}
use Rattle.call_leg.specs.Uplink.{sighting_in, heard_as, handed_fields}
use Rattle.call_leg.specs.Who.{Who}
use Rattle.call_leg.specs.Periods.{CallPeriod}

-- what a call's incoming lines give: the octets of the Up and the Pcm line, and whether a read failed after these
pub record Incoming : Type 0 where
  pub up : List ℕ
  pub pcm : List ℕ
  pub up_failed : Bool
  pub pcm_failed : Bool

-- A run: the incoming lines of each call, the orders, and the number of periods at which it ends.
pub record Run : Type 0 where
  pub lines : ℕ → Incoming
  pub orders : List Order
  pub periods : ℕ

-- how much a call's lines give
abbrev pub given_in : Run → ℕ → Given
given_in r c = let l = r.lines c in record { up = length l.up; pcm = length l.pcm; up_failed = l.up_failed; pcm_failed = l.pcm_failed }

-- the whole periods that they give
abbrev pub whole_in : Run → ℕ → ℕ
whole_in r c = whole_of (given_in r c)

-- the executed orders with their replies
abbrev pub done_in : Run → List Done
done_in r = done_of (whole_in r) r.periods r.orders

-- the spans of all bridges, in the order of their acceptance
abbrev pub spans_in : Run → List Span
spans_in r = spans_of (given_in r) r.periods (done_in r)

-- the period of the run at which a call begins, and the first one that it doesn't have
abbrev pub start_in : Run → ℕ → ℕ
start_in r c = start_of (done_in r) c

abbrev pub end_in : Run → ℕ → ℕ
end_in r c = ends_at (given_in r) r.periods (done_in r) c

-- an order of the run opened the call
abbrev pub IsOpened : Run → ℕ → Type 0
IsOpened r c = is_some (opened_at c (done_in r)) ≡ true

-- why a call ended
abbrev pub cause_in : Run → ℕ → Cause
cause_in r c = (end_of (given_in r) r.periods (done_in r) c (start_of (done_in r) c)).cause

-- how many periods of a call are before period t of the run
abbrev pub worked_to : Run → ℕ → ℕ → ℕ
worked_to r t c = min t (end_in r c) - start_in r c

-- the law of the order that opened a call, and the call's number with this law
abbrev pub law_in : Run → ℕ → Law
law_in r c = law_at c (done_in r)

abbrev pub who_in : Run → ℕ → Who
who_in r c = record { number = c; law = law_in r c }

-- ---- settings

abbrev pub level_by : ℕ → Result Act Refusal → ℤ → ℤ
level_by c (Ok (act.LevelSet d level)) before = if c == d then level else before
level_by c _ before = before

abbrev pub mode_by : ℕ → Result Act Refusal → DtxMode → DtxMode
mode_by c (Ok (act.DtxSet d mode)) before = if c == d then mode else before
mode_by c _ before = before

-- the level and the DTX mode of a call after these orders: those that were set last; without any, the values before
abbrev pub level_after : ℕ → ℤ → List Done → ℤ
level_after c before [] = before
level_after c before (d ∷ ds) = level_after c (level_by c d.result before) ds

abbrev pub dtx_mode_after : ℕ → DtxMode → List Done → DtxMode
dtx_mode_after c before [] = before
dtx_mode_after c before (d ∷ ds) = dtx_mode_after c (mode_by c d.result before) ds

-- the orders that are executed up to the start of period t
abbrev pub done_to : ℕ → List Done → List Done
done_to t ds = filter (λ d. nat_le d.order.stamp t) ds

-- ---- the incoming lines, period by period

-- the octets of period k of a call, counted from its opening
abbrev pub up_in : Run → ℕ → ℕ → List ℕ
up_in r c k = let l = r.lines c in take 40 (drop (40 * k) l.up)

abbrev pub pcm_in : Run → ℕ → ℕ → List ℕ
pcm_in r c k = let l = r.lines c in take 160 (drop (160 * k) l.pcm)

-- the first n periods of the Up line, the newest first
abbrev pub ups_to : Run → ℕ → ℕ → List (List ℕ)
ups_to r c zero = []
ups_to r c (suc k) = up_in r c k ∷ ups_to r c k

-- what is heard in each of these periods of an uplink
abbrev pub heard_by : List (List ℕ) → List Heard
heard_by [] = []
heard_by (up ∷ past) = heard_as (sighting_in (yield_of up past)) ∷ heard_by past

-- What a call hands to its partner in the newest of these periods: the 260 bits of its effective frame, or of silence
-- if it is quiet. They depend only on its number and its uplink.
unfoldable pub item_of : ℕ → List (List ℕ) → List ℕ
item_of c ups = bits260 (handed_fields (effective_of c (heard_by ups)))

-- ---- the periods of a call

-- a span is of this call; the other call of the span
abbrev pub is_of : ℕ → Span → Bool
is_of c x = c == x.a || c == x.b

abbrev pub other_in : ℕ → Span → ℕ
other_in c x = if c == x.a then x.b else x.a

-- the span of a call in which period t is
abbrev pub span_at : Run → ℕ → ℕ → Option Span
span_at r c t = find (λ x. is_of c x && nat_le x.from t && nat_lt t x.to) (spans_in r)

-- what is handed to a call in period t: its partner's frame of that period, within a span
abbrev pub handed_to : Run → ℕ → ℕ → Option (List ℕ)
handed_to r c t = option_map (λ x. let d = other_in c x in item_of d (ups_to r d (t + 1 - start_in r d))) (span_at r c t)

-- period k of a call, counted from its opening
unfoldable pub period_of : Run → ℕ → ℕ → CallPeriod
period_of r c k = let t = start_in r c + k in record {
  up = up_in r c k;
  pcm = pcm_in r c k;
  level = level_after c (pos 256) (done_to t (done_in r));
  mode = dtx_mode_after c Uplink (done_to t (done_in r));
  starts = list_any (λ x. is_of c x && x.from == t) (spans_in r);
  handed = handed_to r c t;
}

-- the first n periods of a call
abbrev pub periods_to : Run → ℕ → ℕ → List CallPeriod
periods_to r c zero = []
periods_to r c (suc k) = period_of r c k ∷ periods_to r c k

-- all periods of a call, from its opening to its end
abbrev pub periods_in : Run → ℕ → List CallPeriod
periods_in r c = periods_to r c (end_in r c - start_in r c)
