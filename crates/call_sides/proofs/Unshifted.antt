-- The frames of a call in which no shift is asked for.
use Rattle.std.proofs.Common.{◌≡◌, refl, sym, ap, ◌∙◌, ℕ, ◌+◌, ◌-◌, ◌*◌, ℤ, pos, if◌then◌else◌, nat_le, Option, Some, None}
use Rattle.std.proofs.Common.{true, is_none, is_some, option_map, unwrap_or, All, List, [], ◌∷◌, length, map, take, filter, find, arith, inl, inr}
use Rattle.std.proofs.lemmas.Bool.{cond-true, cond-false, cases_lt, le-leb, lt-leb}
use Rattle.std.proofs.lemmas.List.Elements.{All-head, All-tail, All-take}
use Rattle.time_align.specs.Shift.{latest_ask, latest_shift}
use Rattle.down_framer.specs.Made.{Period, MadeFrame, next_start, latest_start, hands_at, made_from, handed_due, counted_fields, shift_due, next_frame, grown}
use Rattle.down_framer.specs.Made.{epoch_of}
use Rattle.down_framer.proofs.Due.{hands_at-new, one_made, none_made, due-some, due-none, latest_start-below}
use Rattle.down_framer.proofs.Latest.{started}
use Rattle.call_leg.specs.Periods.{CallPeriod}
use Rattle.call_leg.specs.Down.{CallFrame, down_period, down_periods, frames_of}
use Rattle.call_leg.proofs.Downlink.Enter.{length-down_periods}
use Rattle.call_leg.proofs.Downlink.Step.{begun-same}
use Rattle.call_sides.specs.Sent.{AsksNoShift, AreUnshifted, frames_by_period}

-- a period fewer
pub unshifted-past : (t : CallPeriod) (past : List CallPeriod) → AreUnshifted (t ∷ past) → AreUnshifted past
unshifted-past t past h = record {
  pcms = All-tail (λ t. length t.pcm ≡ 160) t past h.pcms;
  fields = All-tail AsksNoShift (down_period t past).field (map (λ p. p.field) (down_periods past)) h.fields;
  bridges = h.bridges.0;
  begun = All-tail (λ t. t.starts ≡ true → is_some t.handed ≡ true) t past h.begun;
}

-- ---- no shift

asks-none : (fields : List (Option ℕ)) → All AsksNoShift fields → latest_ask fields ≡ None
asks-none [] h = refl
asks-none (None ∷ before) h = asks-none before (All-tail AsksNoShift None before h)
asks-none (Some a ∷ before) h =
    ap (λ (o : Option ℤ). elim o as (λ x. Option ℤ) [ None ↦ latest_ask before | Some shift ↦ Some shift ]) (All-head AsksNoShift (Some a) before h)
    ∙ asks-none before (All-tail AsksNoShift (Some a) before h)

-- the fields that count are some of all
counted-none : {A : Type 0} (ps : List (Period A)) (fs : List (MadeFrame A)) → All AsksNoShift (map (λ p. p.field) ps) → All AsksNoShift (counted_fields ps fs)
counted-none {A} ps fs h = go (find (λ f. is_none f.carries) fs)
  where
    go : (o : Option (MadeFrame A)) → All AsksNoShift (elim o as (λ x. List (Option ℕ)) [
      | None ↦ map (λ p. p.field) ps
      | Some m ↦ take (length ps - (m.period + 1)) (map (λ p. p.field) ps)
    ])
    go None = h
    go (Some m) = All-take AsksNoShift (length ps - (m.period + 1)) (map (λ p. p.field) ps) h

shift-none : {A : Type 0} (ps : List (Period A)) (fs : List (MadeFrame A)) → All AsksNoShift (map (λ p. p.field) ps) → shift_due ps fs ≡ pos 0
shift-none ps fs h = go (handed_due ps fs)
  where
    go : (o : Option ℕ) → (elim o as (λ x. ℤ) [ None ↦ latest_shift (counted_fields ps fs) | Some h ↦ pos 0 ]) ≡ pos 0
    go None = ap (λ (o : Option ℤ). unwrap_or o (pos 0)) (asks-none (counted_fields ps fs) (counted-none ps fs h))
    go (Some h) = refl

-- ---- what is handed over

-- one frame is made in each period
made_from-period : (s : ℕ) (ts : List CallPeriod) → made_from s (frames_by_period ts) ≡ length ts - s
made_from-period s [] = omega arith
made_from-period s (t ∷ past) =
    let rest = made_from-period s past in
    elim (cases_lt (length past) s) [
      | inl early ↦ ap length (cond-false (nat_le s (length past)) _ (filter (λ f. nat_le s f.period) (frames_by_period past)) (lt-leb _ _ early)) ∙ omega arith
      | inr late ↦ ap length (cond-true (nat_le s (length past)) _ (filter (λ f. nat_le s f.period) (frames_by_period past)) (le-leb _ _ late)) ∙ omega arith
    ]

-- the period's own item, if it lies in a bridge
due-own : (t : CallPeriod) (past : List CallPeriod) → AreUnshifted (t ∷ past) →
    handed_due (down_periods (t ∷ past)) (frames_by_period past) ≡ option_map (λ item. length past) t.handed
due-own t past h = by_start (latest_start (down_periods (t ∷ past))) refl
  where
    by_hand : (s : ℕ) → latest_start (down_periods (t ∷ past)) ≡ Some s → (o : Option (List ℕ)) → s + made_from s (frames_by_period past) ≡ length past →
        hands_at (s + made_from s (frames_by_period past)) (down_periods (t ∷ past)) ≡ is_some o →
        handed_due (down_periods (t ∷ past)) (frames_by_period past) ≡ option_map (λ item. length past) o
    by_hand s e None here own = due-none (down_periods (t ∷ past)) (frames_by_period past) s e own
    by_hand s e (Some item) here own = due-some (down_periods (t ∷ past)) (frames_by_period past) s e own ∙ ap (λ k. Some k) here

    by_item : (s : ℕ) → latest_start (down_periods (t ∷ past)) ≡ Some s → (o : Option (List ℕ)) → t.handed ≡ o →
        handed_due (down_periods (t ∷ past)) (frames_by_period past) ≡ option_map (λ item. length past) o
    by_item s e o q =
        let n = length-down_periods past in
        let below = latest_start-below (down_periods (t ∷ past)) s e in
        let m = made_from-period s past in
        let here : s + made_from s (frames_by_period past) ≡ length past = omega arith in
        let own : hands_at (s + made_from s (frames_by_period past)) (down_periods (t ∷ past)) ≡ is_some o =
        hands_at-new (down_period t past) (down_periods past) (s + made_from s (frames_by_period past)) (omega arith) ∙ ap is_some q in
        by_hand s e o here own

    unbridged : latest_start (down_periods (t ∷ past)) ≡ None → (o : Option (List ℕ)) → t.handed ≡ o → None ≡ option_map (λ item. length past) o
    unbridged e None q = refl
    unbridged e (Some item) q =
        let s = started (down_periods (t ∷ past)) h.bridges (ap is_some q) in
        let clash : Some s.0 ≡ None = sym s.1 ∙ e in
        cc

    by_start : (o : Option ℕ) → latest_start (down_periods (t ∷ past)) ≡ o →
        handed_due (down_periods (t ∷ past)) (frames_by_period past) ≡ option_map (λ item. length past) t.handed
    by_start None e =
        ap (λ (o : Option ℕ). elim o as (λ x. Option ℕ) [
          | None ↦ None
          | Some s ↦ let h = s + made_from s (frames_by_period past) in if hands_at h (down_periods (t ∷ past)) then Some h else None
        ]) e ∙ unbridged e t.handed refl
    by_start (Some s) e = by_item s e t.handed refl

-- ---- the frames

next_start-period : (ts : List CallPeriod) → next_start (frames_by_period ts) ≡ 160 * length ts
next_start-period [] = refl
next_start-period (t ∷ past) = omega arith

abbrev frame_with : CallPeriod → List CallPeriod → ℕ → ℕ → ℤ → Option ℕ → ℕ → CallFrame
frame_with t past start period shift carries epoch =
    record { start = start; period = period; shift = shift; carries = carries; epoch = epoch; load = t ∷ past }

frame-period : (t : CallPeriod) (past : List CallPeriod) → AreUnshifted (t ∷ past) →
    next_frame (down_period t past) (down_periods past) (frames_by_period past) ∷ frames_by_period past ≡ frames_by_period (t ∷ past)
frame-period t past h =
    let ps = down_periods (t ∷ past) in
    let fs = frames_by_period past in
    ap (λ start. frame_with t past start (length (down_periods past)) (shift_due ps fs) (handed_due ps fs) (epoch_of ps) ∷ fs) (next_start-period past)
    ∙ ap (λ k. frame_with t past (160 * length past) k (shift_due ps fs) (handed_due ps fs) (epoch_of ps) ∷ fs) (length-down_periods past)
    ∙ ap (λ v. frame_with t past (160 * length past) (length past) v (handed_due ps fs) (epoch_of ps) ∷ fs) (shift-none ps fs h.fields)
    ∙ ap (λ o. frame_with t past (160 * length past) (length past) (pos 0) o (epoch_of ps) ∷ fs) (due-own t past h)
    ∙ ap (λ e. frame_with t past (160 * length past) (length past) (pos 0) (option_map (λ item. length past) t.handed) e ∷ fs) (begun-same (t ∷ past))

-- **Each period makes one frame.**
pub frames-same : (ts : List CallPeriod) → AreUnshifted ts → frames_of ts ≡ frames_by_period ts
frames-same [] h = refl
frames-same (t ∷ past) h =
    let p = down_period t past in
    let ps = down_periods past in
    let n = length-down_periods past in
    let start = next_start-period past in
    let next = next_start-period (t ∷ past) in
    ap (λ fs. grown p ps (grown p ps fs)) (frames-same past (unshifted-past t past h))
    ∙ ap (grown p ps) (one_made p ps (frames_by_period past) (omega arith) ∙ frame-period t past h)
    ∙ none_made p ps (frames_by_period (t ∷ past)) (omega arith)
