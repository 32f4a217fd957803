-- What is handed over are the bits of the effective frame, and those of a good speech frame as they came.
use Rattle.std.proofs.Common.{◌≡◌, refl, sym, ap, ◌∙◌, subst, ℕ, zero, suc, ◌-◌, ◌*◌, ◌<◌, Bool, true, Option, Some, List, [], ◌∷◌, length, inl, inr, arith}
use Rattle.std.specs.Prelude.{IfSome, is_some}
use Rattle.std.proofs.lemmas.Bool.{cases_lt}
use Rattle.std.proofs.lemmas.List.Elements.{All-nil, All-append}
use Rattle.std.proofs.lemmas.List.FromFn.{length-map-range_with_len}
use Rattle.trau_bits.specs.Bits.{AreBits, bits_of}
use Rattle.trau_bits.proofs.BitList.{bits_of-below}
use Rattle.trau_params.specs.Fields.{Fields, fields_in}
use Rattle.trau_params.specs.Bits260.{bits260}
use Rattle.trau_params.proofs.FieldsWritten.{bits260-fields_in}
use Rattle.trau_orders.specs.Lists.{AreOrders}
use Rattle.trau_frame.specs.declared.frames.Kind.{Kind}
use Rattle.trau_frame.specs.declared.frames.Kind.TheVariants as kinds
use Rattle.trau_frame.specs.declared.frames.Class.{Class}
use Rattle.trau_frame.specs.declared.frames.Class.TheVariants as classes
use Rattle.trau_frame.specs.Role.{Data, bit_with}
use Rattle.trau_frame.specs.Frame.{data_of}
use Rattle.trau_frame.specs.UpFrame.{kind_of, class_of, words_in}
use Rattle.trau_frame.specs.Relay.{IsGoodSpeech}
use Rattle.trau_frame.proofs.RowPlaces.{bit-below}
use Rattle.trau_frame.proofs.ReadRows.{data_of-below}
use Rattle.frame_sync.specs.declared.yields.Yield.{Yield}
use Rattle.frame_sync.specs.declared.yields.Yield.TheVariants.{Frame}
use Rattle.trau_frame.specs.Match.{bit_in}
use Rattle.frame_sync.specs.Periods.{line_bits, mode_after, yield_of, CarriesFrame}
use Rattle.frame_sync.proofs.Searched.{carries-searched}
use Rattle.rx_handler.specs.Heard.{Heard, Good, heard_frame}
use Rattle.rx_handler.specs.Origin.{Speech}
use Rattle.rx_handler.specs.Past.{anchor_of, effective_of}
use Rattle.switchboard.specs.declared.act.Span as board
use Rattle.switchboard.specs.Calls.{opened_at}
use Rattle.call_leg.specs.Uplink.{Framed, sighting_in, heard_as, handed_fields}
use Rattle.call_leg.specs.Periods.{effective_now}
use Rattle.call_spec.specs.Call.{yield_at, effective_frame}
use Rattle.call_spec.specs.History.{IsCallHistory, call_of_history}
use Rattle.call_spec.proofs.Ranges.{IsPeriod}
use Rattle.call_spec.proofs.Reading.{LooksBack, yield-period, effective-period}
use Rattle.call_spec.proofs.Whole.{history-whole, call-whole}
use Rattle.run_spec.specs.Run.{who_in, Run, done_in, start_in, end_in, other_in, up_in, ups_to, item_of, heard_by, period_of, periods_to, periods_in}
use Rattle.run_spec.proofs.Periods.Next.{ups_periods, item_ups}
use Rattle.run_spec.proofs.Parts.LongerLines.{length-periods_to}
use Rattle.run_calls_spec.specs.Whole.{count_in, whole_call, IsBridged, item_for, yield_on, frame_on}
use Rattle.run_calls_spec.proofs.Periods.{is_whole, history_same}
use Rattle.run_calls_spec.proofs.Items.{bridged_lies, partner_bridged, both_have, counted, item_found}

-- ---- a call as the history of its periods

-- it was opened, and period k is one of its periods
record HasPeriod (r : Run) (c k : ℕ) : Type 0 where
  orders : AreOrders r.orders
  known : is_some (opened_at c (done_in r)) ≡ true
  within : k < count_in r c

-- period k is one of a call that has it
period_among : (r : Run) (c k n : ℕ) → k < n → IsPeriod (periods_to r c n) (period_of r c k) (periods_to r c k)
period_among r c k zero l = absurd (omega arith)
period_among r c k (suc n) l = elim (cases_lt k n) [
  | inl before ↦ let p = period_among r c k n before in (period_of r c n ∷ p.0, ap (λ ts. period_of r c n ∷ ts) p.1)
  | inr now ↦ let e : k ≡ n = omega arith in ([], ap (λ k. periods_to r c (suc k)) e)
]

-- the periods of such a call are a history
as_history : (r : Run) (c k : ℕ) → HasPeriod r c k → IsCallHistory (periods_in r c)
as_history r c k h = subst IsCallHistory (history_same r c h.orders) (history-whole (whole_call r c) (is_whole r c h.orders h.known))

-- and the call as a whole is that of it
as_call : (r : Run) (c k : ℕ) → HasPeriod r c k → whole_call r c ≡ call_of_history (who_in r c) (periods_in r c)
as_call r c k h = sym (call-whole (whole_call r c) (is_whole r c h.orders h.known)) ∙ ap (call_of_history (who_in r c)) (history_same r c h.orders)

-- the effective frame by its periods
frame_known : LooksBack → (r : Run) (c k : ℕ) → HasPeriod r c k → effective_frame (whole_call r c) k ≡ effective_now c (periods_to r c (suc k))
frame_known look r c k h =
    ap (λ n. effective_frame (whole_call r c) n) (sym (length-periods_to r c k))
    ∙ ap (λ call. effective_frame call (length (periods_to r c k))) (as_call r c k h)
    ∙ effective-period look (who_in r c) (periods_in r c) (period_of r c k) (periods_to r c k) (as_history r c k h) (period_among r c k (count_in r c) h.within)

-- what the uplink yields by them
yield_known : (r : Run) (c k : ℕ) → HasPeriod r c k → yield_at (whole_call r c) k ≡ yield_of (up_in r c k) (ups_to r c k)
unfolding period_of
yield_known r c k h =
    ap (λ n. yield_at (whole_call r c) n) (sym (length-periods_to r c k)) ∙ ap (λ call. yield_at call (length (periods_to r c k))) (as_call r c k h)
    ∙ yield-period (who_in r c) (periods_in r c) (period_of r c k) (periods_to r c k) (as_history r c k h) (period_among r c k (count_in r c) h.within)
    ∙ ap (yield_of (up_in r c k)) (ups_periods r c k)

-- the partner has each period of a bridge
partner_has : (r : Run) (c t : ℕ) (x : board.Span) → AreOrders r.orders → IsBridged r c t x → HasPeriod r (other_in c x) (t - start_in r (other_in c x))
partner_has r c t x a b =
    let d = other_in c x in
    let h = both_have r c t x a b in
    record { orders = a; known = (bridged_lies r d t x a (partner_bridged r c t x b)).known; within = (counted (start_in r d) t (end_in r d) h.2 h.3).0 }

-- **The item is the bits of the partner's effective frame.**
pub item_frame : LooksBack → (r : Run) (c t : ℕ) (x : board.Span) → AreOrders r.orders → IsBridged r c t x →
    item_for r c t ≡ Some (bits260 (handed_fields (frame_on r (other_in c x) t)))
item_frame look r c t x a b =
    let d = other_in c x in
    let k = t - start_in r d in
    item_found r c t x a b ∙ ap (λ ups. Some (item_of d ups)) (sym (ups_periods r d (suc k))) ∙ ap Some (item_ups d (periods_to r d (suc k)))
    ∙ ap (λ frame. Some (bits260 (handed_fields frame))) (sym (frame_known look r d k (partner_has r c t x a b)))

-- ---- a good speech frame

line_bits-below : (past : List (List ℕ)) → AreBits (line_bits past)
unfolding line_bits
line_bits-below [] = All-nil (λ bit. bit < 2)
line_bits-below (octets ∷ past) = All-append (λ bit. bit < 2) (line_bits past) (bits_of octets) (line_bits-below past) (bits_of-below octets)

-- what a period yields carries bits
yield_bits : (octets : List ℕ) (past : List (List ℕ)) (p : ℕ) (bits : List ℕ) → yield_of octets past ≡ Some (Frame p bits) → AreBits bits
yield_bits octets past p bits e =
    let line = line_bits (octets ∷ past) in
    let c : IfSome (yield_of octets past) CarriesFrame =
    carries-searched (bit_in line) (320 * length past) (mode_after past) (bit-below line (line_bits-below (octets ∷ past))) in
    let f : IfSome (Some (Frame p bits)) CarriesFrame = subst (λ (o : Option Yield). IfSome o CarriesFrame) e c in
    f.1

length-data_of : (bits : List ℕ) → length (data_of bits) ≡ 260
unfolding data_of
length-data_of bits = length-map-range_with_len (λ n. bit_with bits (Data n)) 1 260

heard_good : (kind : Kind) (class : Class) (taf : Bool) (d : List ℕ) → kind ≡ kinds.Speech → class ≡ classes.Good →
    heard_frame kind class taf d ≡ Good (fields_in d)
heard_good kind class taf d e f = ap (λ kind. heard_frame kind class taf d) e ∙ ap (λ class. heard_frame kinds.Speech class taf d) f

-- a good speech frame is heard as it is
good_heard : (bits : List ℕ) → IsGoodSpeech bits → heard_as (Framed (words_in bits)) ≡ Good (fields_in (data_of bits))
unfolding words_in
good_heard bits g = heard_good (kind_of bits) (class_of bits) _ (data_of bits) g.kind g.class

-- and is the effective frame
good_effective : (c : ℕ) (p : Fields) (past : List Heard) → effective_of c (Good p ∷ past) ≡ Speech p
unfolding effective_of anchor_of
good_effective c p past = refl

-- so its bits are handed over as they came
good_item : (c : ℕ) (octets : List ℕ) (past : List (List ℕ)) (p : ℕ) (bits : List ℕ) → yield_of octets past ≡ Some (Frame p bits) → IsGoodSpeech bits →
    item_of c (octets ∷ past) ≡ data_of bits
unfolding item_of
good_item c octets past p bits e g =
    ap (λ o. bits260 (handed_fields (effective_of c (heard_as (sighting_in o) ∷ heard_by past)))) e
    ∙ ap (λ y. bits260 (handed_fields (effective_of c (y ∷ heard_by past)))) (good_heard bits g)
    ∙ ap (λ f. bits260 (handed_fields f)) (good_effective c (fields_in (data_of bits)) (heard_by past))
    ∙ bits260-fields_in (data_of bits) (length-data_of bits) (data_of-below bits (yield_bits octets past p bits e))

-- **A good speech frame's data bits are handed over as they came.**
pub item_good : (r : Run) (c t : ℕ) (x : board.Span) (p : ℕ) (bits : List ℕ) → AreOrders r.orders → IsBridged r c t x →
    yield_on r (other_in c x) t ≡ Some (Frame p bits) → IsGoodSpeech bits →
    item_for r c t ≡ Some (data_of bits)
item_good r c t x p bits a b y g =
    let d = other_in c x in
    let k = t - start_in r d in
    item_found r c t x a b
    ∙ ap Some (good_item d (up_in r d k) (ups_to r d k) p bits (sym (yield_known r d k (partner_has r c t x a b)) ∙ y) g)
