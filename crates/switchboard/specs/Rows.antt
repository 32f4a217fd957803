-- The table of calls and bridges, as plain data.
use Rattle.std.specs.Prelude.{◌≡◌, ◌<◌, ℕ, Bool, not, ◌&&◌, if◌then◌else◌, nat_lt, Option, Some, None, is_some, is_none, option_map, IfSome, Result, Ok, Err}
use Rattle.std.specs.Prelude.{List, [], ◌∷◌, ◌++◌, length, take, slice_index_or, slice_set}
use Rattle.std.specs.List.{filter_map, insert}
use Rattle.call_number.specs.declared.TheConstants.{NUMBERS}
use Rattle.trau_io.specs.declared.ends.CallEnd.{CallEnd}
use Rattle.switchboard.specs.declared.act.Act.{Act}
use Rattle.switchboard.specs.declared.act.Act.TheVariants as act
use Rattle.switchboard.specs.declared.act.Refusal.{Refusal}
use Rattle.switchboard.specs.declared.act.Span.{Span}
use Rattle.switchboard.specs.declared.table.Call.{Call}
use Rattle.switchboard.specs.declared.table.Bridge.{Bridge}
use Rattle.switchboard.specs.Replies.{Known}
use Rattle.switchboard.specs.Calls.{is_this}
use Rattle.switchboard.specs.Bridges.{bridge_at}
use Rattle.switchboard.specs.Ends.{least, span_to}

pub record Rows : Type 0 where
  pub calls : List Call
  pub bridges : List Bridge
  pub spans : List Span
  pub most : ℕ

abbrev pub never : Call
never = record { opened = None; closed = None; gone = None; bridge = None }

-- Each call number has an entry, and the indices and numbers that are kept are within the lists.
pub record IsSized (calls : List Call) (bridges : List Bridge) : Type 0 where
  pub all : length calls ≡ NUMBERS
  pub places : (c : ℕ) → IfSome (slice_index_or calls c never).bridge (λ k. k < length bridges)
  pub named : (k : ℕ) → k < length bridges →
      ((bridge_at bridges k).a < NUMBERS) × ((bridge_at bridges k).b < NUMBERS)

-- ---- reading

abbrev pub call_in : Rows → ℕ → Call
call_in r c = slice_index_or r.calls c never

abbrev pub bridge_at_place : Rows → ℕ → Bridge
bridge_at_place r k = bridge_at r.bridges k

-- the first period after a call, if its lines or the run's end ended it
abbrev pub gone_from : Call → Option ℕ
gone_from e = option_map (λ end. end.at) e.gone

abbrev pub gone_from_in : Rows → ℕ → Option ℕ
gone_from_in r c = gone_from (call_in r c)

abbrev pub is_open_in : Rows → ℕ → Bool
is_open_in r c = is_some (call_in r c).opened && not (is_some (call_in r c).closed)
    && not (is_some (gone_from_in r c))

abbrev pub has_ended_in : Rows → ℕ → Bool
has_ended_in r c = is_some (call_in r c).opened && not (is_open_in r c)

abbrev pub is_live_in : Rows → Bridge → Bool
is_live_in r x = is_none x.ended && is_open_in r x.a && is_open_in r x.b

abbrev pub some_if : {X : Type 0} → Bool → X → Option X
some_if b x = if b then Some x else None

-- the latest bridge of a call, if no order has ended it and both of its calls are open
abbrev pub bridge_in : Rows → ℕ → Option Bridge
bridge_in r c = elim (call_in r c).bridge [
  | None ↦ None
  | Some k ↦ some_if (is_live_in r (bridge_at_place r k)) (bridge_at_place r k)
]

-- the latest bridge of a call, if an order with stamp t ended it
abbrev pub bridge_ended_in : Rows → ℕ → ℕ → Option Bridge
bridge_ended_in r t c = elim (call_in r c).bridge [
  | None ↦ None
  | Some k ↦ some_if (is_this t (bridge_at_place r k).ended) (bridge_at_place r k)
]

abbrev pub known_in : Rows → ℕ → Known
known_in r t = record {
  is_open = is_open_in r;
  has_ended = has_ended_in r;
  bridge_of = bridge_in r;
  bridge_ended = bridge_ended_in r t;
}

abbrev pub bridge_end_in : Rows → Bridge → Option ℕ
bridge_end_in r x = least x.ended (least (gone_from_in r x.a) (gone_from_in r x.b))

abbrev pub span_in : Rows → Bridge → Option Span
span_in r x = option_map (span_to x) (bridge_end_in r x)

-- the number of bridges before index k that have ended
abbrev pub position_in : Rows → ℕ → ℕ
position_in r k = length (filter_map (span_in r) (take k r.bridges))

-- ---- writing

abbrev pub opened_in : Rows → ℕ → ℕ → Rows
opened_in r t c = record r {
  calls = slice_set r.calls c (record (call_in r c) { opened = Some t });
}

abbrev pub closed_in : Rows → ℕ → ℕ → Rows
closed_in r t c = record r {
  calls = slice_set r.calls c (record (call_in r c) { closed = Some t });
}

abbrev pub with_latest : List Call → ℕ → ℕ → List Call
with_latest calls k c =
    slice_set calls c (record (slice_index_or calls c never) { bridge = Some k })

abbrev pub bridged_in : Rows → ℕ → ℕ → ℕ → Rows
bridged_in r t a b = record r {
  calls = with_latest (with_latest r.calls (length r.bridges) a) (length r.bridges) b;
  bridges = r.bridges ++ record { a = a; b = b; from = t; ended = None } ∷ [];
}

abbrev pub ended_at_place : Rows → ℕ → ℕ → Rows
ended_at_place r t k = record r {
  bridges = slice_set r.bridges k (record (bridge_at_place r k) { ended = Some t });
}

abbrev pub parted_at : Rows → ℕ → ℕ → Rows
parted_at r t k = record (ended_at_place r t k) {
  spans = insert r.spans (position_in r k) (span_to (bridge_at_place r k) t);
}

-- an order with stamp t ends the latest bridge of a call
abbrev pub parted_in : Rows → ℕ → ℕ → Rows
parted_in r t c = elim (call_in r c).bridge [ None ↦ r | Some k ↦ parted_at r t k ]

-- the spans after the end of a call whose latest bridge is at index k
abbrev pub spans_after : Rows → ℕ → ℕ → List Span
spans_after r at k = elim (bridge_end_in r (bridge_at_place r k)) [
  | None ↦ insert r.spans (position_in r k) (span_to (bridge_at_place r k) at)
  | Some v ↦
      if nat_lt at v then slice_set r.spans (position_in r k) (span_to (bridge_at_place r k) at)
      else r.spans
]

abbrev pub spans_ended_in : Rows → ℕ → ℕ → Rows
spans_ended_in r at c = record r {
  spans = elim (call_in r c).bridge [ None ↦ r.spans | Some k ↦ spans_after r at k ];
}

abbrev pub gone_in_rows : Rows → CallEnd → Rows
gone_in_rows r e = record r {
  calls = slice_set r.calls e.call (record (call_in r e.call) { gone = Some e });
}

-- a call ends without an order
abbrev pub call_ended_in : Rows → CallEnd → Rows
call_ended_in r e = gone_in_rows (spans_ended_in r e.at e.call) e

abbrev pub closes_bridge : Option ℕ → Rows → ℕ → ℕ → Rows
closes_bridge None r t c = r
closes_bridge (Some d) r t c = parted_in r t c

-- the table after a reply
abbrev pub rows_after : Rows → ℕ → Result Act Refusal → Rows
rows_after r t (Ok (act.Opened c law)) = opened_in r t c
rows_after r t (Ok (act.Closed c p)) = closed_in (closes_bridge p r t c) t c
rows_after r t (Ok (act.Bridged a b)) = bridged_in r t a b
rows_after r t (Ok (act.Unbridged a b)) = parted_in r t a
rows_after r t _ = r

-- no refusal, or this one
abbrev pub passes : Option Refusal → Result (Unit {0}) Refusal
passes None = Ok tt
passes (Some r) = Err r
