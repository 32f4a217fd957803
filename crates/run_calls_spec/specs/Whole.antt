-- The calls of a run as wholes: what a call's own lines give, its orders, and the spans of its bridges with what its
-- partners hand over in them.
use Rattle.std.specs.Prelude.{◌≡◌, ◌≤◌, ◌<◌, ℕ, ◌+◌, ◌-◌, ◌*◌, pos, Bool, true, ◌&&◌, nat_lt, Option, List, Contains, map, filter, take}
use Rattle.std.specs.List.{range_with_len}
use Rattle.trau_orders.specs.declared.order.DtxMode.TheVariants.{Uplink}
use Rattle.switchboard.specs.declared.act.Span as board
use Rattle.frame_sync.specs.declared.yields.Yield.{Yield}
use Rattle.rx_handler.specs.Origin.{EffectiveFields}
use Rattle.call_spec.specs.Call.{Call, Setting, Span, yield_at, effective_frame, item_at}
use Rattle.run_spec.specs.Run.{Run, who_in, done_in, spans_in, start_in, end_in, level_after, dtx_mode_after, done_to, ups_to, item_of, is_of, other_in}

-- how many periods a call has
abbrev pub count_in : Run → ℕ → ℕ
count_in r c = end_in r c - start_in r c

-- what is in force for a call in period t of the run
abbrev pub setting_in : Run → ℕ → ℕ → Setting
setting_in r c t = record {
  level = level_after c (pos 256) (done_to t (done_in r));
  mode = dtx_mode_after c Uplink (done_to t (done_in r));
}

-- what a call hands to the partner of its bridge in period t of the run
abbrev pub item_in : Run → ℕ → ℕ → List ℕ
item_in r d t = item_of d (ups_to r d (t + 1 - start_in r d))

-- a span is of this call and begins before the call's end: if a bridge is made at the period at which the call ends,
-- the call has no part in it
abbrev pub begins_in : Run → ℕ → board.Span → Bool
begins_in r c x = is_of c x && nat_lt x.from (end_in r c)

-- the span, counted from the call's opening, with the partner's item of each period
abbrev pub span_for : Run → ℕ → board.Span → Span
span_for r c x = record {
  from = x.from - start_in r c;
  to = x.to - start_in r c;
  items = map (item_in r (other_in c x)) (range_with_len x.from (x.to - x.from));
}

abbrev pub spans_for : Run → ℕ → List Span
spans_for r c = map (span_for r c) (filter (begins_in r c) (spans_in r))

-- the call: its number and the law of its order, what its lines give up to its end, what is in force in its periods,
-- and its spans
abbrev pub whole_call : Run → ℕ → Call
whole_call r c = record {
  who = who_in r c;
  up = take (40 * count_in r c) (r.lines c).up;
  pcm = take (160 * count_in r c) (r.lines c).pcm;
  settings = map (λ k. setting_in r c (start_in r c + k)) (range_with_len 0 (count_in r c));
  spans = spans_for r c;
}

-- ---- a period of a bridge

-- period t of the run is in this span of a call
pub record IsBridged (r : Run) (c t : ℕ) (x : board.Span) : Type 0 where
  pub span : Contains (spans_in r) x
  pub call : is_of c x ≡ true
  pub begun : x.from ≤ t
  pub lasts : t < x.to

-- what a call is handed in period t of the run
abbrev pub item_for : Run → ℕ → ℕ → Option (List ℕ)
item_for r c t = item_at (whole_call r c).spans (t - start_in r c)

-- what a call's uplink yields in period t of the run, and its effective frame
abbrev pub yield_on : Run → ℕ → ℕ → Option Yield
yield_on r c t = yield_at (whole_call r c) (t - start_in r c)

abbrev pub frame_on : Run → ℕ → ℕ → EffectiveFields
frame_on r c t = effective_frame (whole_call r c) (t - start_in r c)
