-- A run of the recording writes what was recorded.
use Rattle.std.proofs.Common.{◌≡◌, refl, sym, ap, ◌∙◌, ℕ, ◌+◌, ◌-◌, ◌*◌, true, Option, Some, None, List, [], ◌∷◌, ◌++◌, length, take, replicate, arith, append_assoc, append-nil}
use Rattle.std.specs.Prelude.{is_some, option_map}
use Rattle.std.proofs.lemmas.List.{take_at}
use Rattle.trau_alaw.specs.declared.Law.{Law}
use Rattle.trau_bits.specs.Bits.{bits_of}
use Rattle.trau_orders.specs.Lists.{AreOrders}
use Rattle.switchboard.specs.declared.act.Span.{Span}
use Rattle.switchboard.specs.Calls.{opened_at}
use Rattle.call_leg.specs.Who.{Who}
use Rattle.call_leg.specs.Periods.{CallPeriod}
use Rattle.call_leg.specs.Out.{out_line}
use Rattle.call_leg.specs.Down.{down_line}
use Rattle.call_leg.proofs.LineLaws.{length-down_line}
use Rattle.call_spec.specs.Call.{Call as WholeCall}
use Rattle.call_spec.specs.Out.{out}
use Rattle.call_spec.specs.Down.{down}
use Rattle.call_spec.specs.Whole.{IsWhole, periods_of_call}
use Rattle.call_coders.specs.Replay.{who_is}
use Rattle.call_coders.specs.Lines.{OutAndDown, AreReplayed, recorded_out, recorded_down}
use Rattle.run_spec.specs.Run.{Run, done_in, start_in, end_in, who_in, span_at, other_in, ups_to, item_of, handed_to, period_of, periods_to, periods_in}
use Rattle.run_spec.proofs.Periods.Same.{same_period}
use Rattle.run_calls_spec.specs.Whole.{whole_call}
use Rattle.rtp_call.specs.declared.call.Call.{Call}
use Rattle.call_records.specs.Turns.{Turn, Partner, period_of_turn, periods_of, recorded_up, recorded_pcm, outgoing}
use Rattle.call_records.specs.Recorded.{IsRecorded}
use Rattle.call_records.specs.Runs.{HasPartner, HasTurn, HasTurns, IsRecordedIn, WritesRecorded}
use Rattle.call_records.proofs.Periods.{length-periods_of}
use Rattle.call_records.proofs.Lines.{HaveUps, HavePcms, have-ups, have-pcms, up-at, pcm-at}

-- ---- the periods

-- what is handed over in a period
handed-same : (r : Run) (c t : ℕ) (turn : Turn) → HasPartner r c t (span_at r c t) turn.partner →
    handed_to r c t ≡ option_map (λ p. item_of p.number p.ups) turn.partner
handed-same r c t turn h = by (span_at r c t) turn.partner h
  where
    by : (o : Option Span) (p : Option Partner) → HasPartner r c t o p →
        option_map (λ x. let d = other_in c x in item_of d (ups_to r d (t + 1 - start_in r d))) o ≡ option_map (λ p. item_of p.number p.ups) p
    by None None h = refl
    by None (Some p) h = absurd h
    by (Some x) None h = absurd h
    by (Some x) (Some p) h =
        ap (λ (d : ℕ). Some (item_of d (ups_to r d (t + 1 - start_in r d)))) h.0 ∙ ap (λ (ups : List (List ℕ)). Some (item_of p.number ups)) h.1

-- **Each period of the run is that of the turn.**
period-same : (r : Run) (c : ℕ) (turn : Turn) (past : List Turn) (up pcm : List ℕ) → HaveUps (turn ∷ past) → HavePcms (turn ∷ past) →
    (r.lines c).up ≡ recorded_up (turn ∷ past) ++ up → (r.lines c).pcm ≡ recorded_pcm (turn ∷ past) ++ pcm →
    HasTurn r c (start_in r c + length past) turn past → period_of r c (length past) ≡ period_of_turn turn past
unfolding period_of
period-same r c turn past up pcm ups pcms u p h =
    same_period _ _ _ _ _ _ _ _ _ _ _ _
    (up-at r c turn past up ups u)
    (pcm-at r c turn past pcm pcms p)
    h.level
    h.mode
    h.starts
    (handed-same r c (start_in r c + length past) turn h.partner)

-- **And so are all of them.**
periods-same : (r : Run) (c : ℕ) (past : List Turn) (up pcm : List ℕ) → HaveUps past → HavePcms past → (r.lines c).up ≡ recorded_up past ++ up →
    (r.lines c).pcm ≡ recorded_pcm past ++ pcm → HasTurns r c past → periods_to r c (length past) ≡ periods_of past
periods-same r c [] up pcm ups pcms u p h = refl
periods-same r c (turn ∷ past) up pcm ups pcms u p h =
    ap (λ (t : CallPeriod). t ∷ periods_to r c (length past)) (period-same r c turn past up pcm ups pcms u p h.0)
    ∙ ap (λ (ts : List CallPeriod). period_of_turn turn past ∷ ts)
    (periods-same r c past (turn.recorded.up ++ up) (turn.recorded.pcm ++ pcm) ups.1 pcms.1
    (u ∙ append_assoc (recorded_up past) turn.recorded.up up) (p ∙ append_assoc (recorded_pcm past) turn.recorded.pcm pcm) h.1)

all-same : (r : Run) (c : ℕ) (past : List Turn) (call : Call) → IsRecorded c past call → IsRecordedIn r c call.law past → periods_in r c ≡ periods_of past
all-same r c past call was h =
    ap (λ (n : ℕ). periods_to r c n) (counted (end_in r c) (start_in r c) (length past) h.ends)
    ∙ periods-same r c past [] [] (have-ups past was.stands.heard was.stands.records) (have-pcms past was.stands.pcms)
    (h.up ∙ sym (append-nil (recorded_up past))) (h.pcm ∙ sym (append-nil (recorded_pcm past))) h.turns
  where
    counted : (e s n : ℕ) → e ≡ s + n → e - s ≡ n
    counted e s n l = omega arith

-- ---- the lines

-- the laws of the crates below
pub record Laws : Type 0 where
  pub out_of_periods : (call : WholeCall) → IsWhole call → out_line call.who (periods_of_call call) ≡ out call
  pub down_of_periods : (call : WholeCall) → IsWhole call → down_line call.who (periods_of_call call) ≡ down call
  pub whole : (r : Run) (c : ℕ) → AreOrders r.orders → is_some (opened_at c (done_in r)) ≡ true → IsWhole (whole_call r c)
  pub periods : (r : Run) (c : ℕ) → AreOrders r.orders → periods_of_call (whole_call r c) ≡ periods_in r c
  pub out_is : (who : Who) (ts : List CallPeriod) (rs : List OutAndDown) → AreReplayed who ts rs → out_line who ts ≡ recorded_out rs
  pub down_is : (who : Who) (t : CallPeriod) (past : List CallPeriod) (r : OutAndDown) (rs : List OutAndDown) →
      AreReplayed who (t ∷ past) (r ∷ rs) → down_line who (t ∷ past) ≡ replicate 320 1 ++ recorded_down rs

-- what is made of the call's periods is made of the turns
of-turns : (laws : Laws) (line : Who → List CallPeriod → List ℕ) (r : Run) (c : ℕ) (past : List Turn) (call : Call) → IsRecorded c past call →
    IsRecordedIn r c call.law past → line (who_in r c) (periods_of_call (whole_call r c)) ≡ line (who_is c call.law) (periods_of past)
of-turns laws line r c past call was h =
    ap (λ (ts : List CallPeriod). line (who_in r c) ts) (laws.periods r c h.orders ∙ all-same r c past call was h)
    ∙ ap (λ (l : Law). line (who_is c l) (periods_of past)) h.law_is

-- 320 ones and the recorded frames, as far as the line goes
down-recorded : (laws : Laws) (who : Who) (past : List Turn) → AreReplayed who (periods_of past) (outgoing past) →
    down_line who (periods_of past) ≡ take (320 * length past) (replicate 320 1 ++ recorded_down (outgoing past))
down-recorded laws who [] h = refl
down-recorded laws who (t ∷ past) h =
    let line = laws.down_is who (period_of_turn t past) (periods_of past) (record { out = t.recorded.out; down = t.recorded.down }) (outgoing past) h in
    let size : length (replicate 320 1 ++ recorded_down (outgoing past)) ≡ 320 * length (t ∷ past) =
    sym (ap length line) ∙ length-down_line who (periods_of (t ∷ past)) ∙ ap (λ (n : ℕ). 320 * n) (length-periods_of (t ∷ past)) in
    line ∙ sym (take_at (replicate 320 1 ++ recorded_down (outgoing past)) (bits_of t.recorded.down) (320 * length (t ∷ past)) size)
    ∙ ap (λ (xs : List ℕ). take (320 * length (t ∷ past)) xs) (append_assoc (replicate 320 1) (recorded_down (outgoing past)) (bits_of t.recorded.down))

-- **The run writes the recorded lines.**
pub writes : (laws : Laws) (r : Run) (c : ℕ) (past : List Turn) (call : Call) → IsRecorded c past call → IsRecordedIn r c call.law past →
    WritesRecorded r c past
writes laws r c past call was h =
    let whole = laws.whole r c h.orders h.opened in
    let who = who_is c call.law in
    record {
      out_is = sym (laws.out_of_periods (whole_call r c) whole) ∙ of-turns laws out_line r c past call was h
          ∙ laws.out_is who (periods_of past) (outgoing past) was.replayed;
      down_is = sym (laws.down_of_periods (whole_call r c) whole) ∙ of-turns laws down_line r c past call was h
          ∙ down-recorded laws who past was.replayed;
    }
