-- A frame carries nothing but what is handed over in a period of a bridge.
use Rattle.std.proofs.Common.{◌≡◌, refl, ap, ◌∙◌, subst, ℕ, ◌+◌, ◌-◌, ◌<◌, ◌≤◌, Bool, true, false, Some, List, [], ◌∷◌, map, arith}
use Rattle.std.specs.Prelude.{if◌then◌else◌, ◌&&◌, nat_lt, nat_le, filter, Contains}
use Rattle.std.specs.List.{AllByRecursion}
use Rattle.std.proofs.lemmas.Bool.{and_parts, leb-true, ltb-true}
use Rattle.std.proofs.lemmas.List.Elements.{recursion_from_All, All-contains_itself}
use Rattle.trau_orders.specs.Lists.{AreOrders}
use Rattle.switchboard.specs.declared.act.Span as board
use Rattle.down_framer.specs.ByNumber.{when, count_from, carried_item}
use Rattle.call_spec.specs.Call.{Call, Span}
use Rattle.call_spec.specs.Down.{without_items, first_frames, frame_by_number, HasItem}
use Rattle.run_spec.specs.Run.{Run, spans_in, start_in, end_in, is_of}
use Rattle.run_spec.proofs.Lists.{each_map, each_filter, each_passes, each_both, each_weaker}
use Rattle.run_calls_spec.specs.Whole.{begins_in, span_for, whole_call, IsBridged}
use Rattle.run_calls_spec.specs.Sent.{CarriesHanded}
use Rattle.run_calls_spec.proofs.Spans.{LiesIn, spans_lie}

-- the span that a carried item is of
item_span : (P : Span → Type 0) (call : Call) (j h : ℕ) (spans : List Span) → AllByRecursion P spans →
    carried_item (map without_items spans) (when (frame_by_number call j).start) (first_frames call j) ≡ Some h →
    (span : Span) × P span × (i : ℕ) × HasItem call span j i × (h ≡ span.from + i)
item_span P call j h [] p e = cc
item_span P call j h (span ∷ spans) p e =
    by (nat_le span.from (when (frame_by_number call j).start) && nat_lt (count_from span.from (first_frames call j)) (span.to - span.from)) refl e
    (item_span P call j h spans p.1)
  where
    same : (a b : ℕ) → Some a ≡ Some b → b ≡ a
    same a b q = cc

    by : (b : Bool) →
        (nat_le span.from (when (frame_by_number call j).start) && nat_lt (count_from span.from (first_frames call j)) (span.to - span.from)) ≡ b →
        (if b then Some (span.from + count_from span.from (first_frames call j))
        else carried_item (map without_items spans) (when (frame_by_number call j).start) (first_frames call j)) ≡ Some h →
        (carried_item (map without_items spans) (when (frame_by_number call j).start) (first_frames call j)
        ≡ Some h → (span : Span) × P span × (i : ℕ) × HasItem call span j i × (h ≡ span.from + i)) →
        (span : Span) × P span × (i : ℕ) × HasItem call span j i × (h ≡ span.from + i)
    by false q e rest = rest e
    by true q e rest =
        let n : ℕ = count_from span.from (first_frames call j) in
        let k = and_parts (nat_le span.from (when (frame_by_number call j).start)) (nat_lt n (span.to - span.from)) q in (
          span,
          p.0,
          n,
          record { number = refl; begun = leb-true span.from (when (frame_by_number call j).start) k.0; left = ltb-true n (span.to - span.from) k.1 },
          same (span.from + n) h e,
        )

-- a span of the call is one of the run
abbrev IsSpanOf : Run → ℕ → Span → Type 0
IsSpanOf r c span = (x : board.Span) × (span ≡ span_for r c x) × Contains (spans_in r) x × (begins_in r c x ≡ true) × (is_of c x ≡ true → LiesIn r c x)

-- each span of a call as a whole is one of the run
spans_of_run : (r : Run) (c : ℕ) → AreOrders r.orders → AllByRecursion (IsSpanOf r c) (whole_call r c).spans
spans_of_run r c a =
    let each = each_both _ _ (spans_in r) (recursion_from_All (Contains (spans_in r)) (spans_in r) (All-contains_itself (spans_in r))) (spans_lie r c a) in
    each_map (IsSpanOf r c) (span_for r c) (filter (begins_in r c) (spans_in r))
    (each_weaker (λ x. (Contains (spans_in r) x × (is_of c x ≡ true → LiesIn r c x)) × (begins_in r c x ≡ true)) (λ x. IsSpanOf r c (span_for r c x))
    (filter (begins_in r c) (spans_in r))
    (λ x h. (x, refl, h.0.0, h.1, h.0.1))
    (each_both _ _ (filter (begins_in r c) (spans_in r)) (each_filter _ (begins_in r c) (spans_in r) each) (each_passes (begins_in r c) (spans_in r))))

-- **What a frame carries is handed over in a period of a bridge.**
pub carried_only : (r : Run) (c j h : ℕ) → AreOrders r.orders → (frame_by_number (whole_call r c) j).carries ≡ Some h →
    (x : board.Span) × IsBridged r c (start_in r c + h) x × CarriesHanded r c (start_in r c + h) x j
carried_only r c j h a e =
    let call = whole_call r c in
    let s = item_span (IsSpanOf r c) call j h call.spans (spans_of_run r c a) e in
    let x = s.1.0 in
    let q = and_parts (is_of c x) (nat_lt x.from (end_in r c)) s.1.3 in
    let lies = s.1.4 q.0 in
    let has : HasItem call (span_for r c x) j s.2 = subst (λ (span : Span). HasItem call span j s.2) s.1.1 s.3 in
    let n = placed (start_in r c) x.from x.to h s.2 lies.opened (s.4 ∙ ap (λ (span : Span). span.from + s.2) s.1.1) has.left in
    (x, record { span = s.1.2; call = q.0; begun = n.0; lasts = n.1 }, subst (HasItem call (span_for r c x) j) n.2 has)
  where
    placed : (s from to h i : ℕ) → s ≤ from → h ≡ from - s + i → i < (to - s) - (from - s) → (from ≤ s + h) × (s + h < to) × (i ≡ s + h - from)
    placed s from to h i l e m = (omega arith, omega arith, omega arith)
