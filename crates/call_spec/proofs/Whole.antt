-- For crates above: the periods of a whole call are a history (`history-whole`), and the call of that history is the
-- call (`call-whole`).
use Rattle.std.proofs.Common.{◌≡◌, refl, sym, ap, ◌∙◌, inl, inr, ℕ, ◌+◌, ◌*◌, ◌≤◌, zero, suc, true, false, ◌||◌, Option, Some, None, List, [], ◌∷◌, length}
use Rattle.std.proofs.Common.{drop, reverse, All, arith, length-drop, length-take}
use Rattle.std.specs.Prelude.{is_some}
use Rattle.std.proofs.lemmas.Bool.{cases_lt, or_right, true≢false}
use Rattle.std.proofs.lemmas.List.{take_all}
use Rattle.std.proofs.lemmas.List.Elements.{All-nil, All-cons}
use Rattle.down_framer.specs.Bridges.{LeavePeriodsBetween}
use Rattle.down_framer.proofs.FrameLaws.{apart}
use Rattle.call_leg.specs.Who.{Who}
use Rattle.call_leg.specs.Periods.{pcm_of}
use Rattle.call_leg.specs.Down.{down_periods}
use Rattle.call_spec.specs.Call.{Call, Setting, Span, periods, item_at, starts_at}
use Rattle.call_spec.specs.History.{IsCallHistory, settings_of, spans_in_history, call_of_history}
use Rattle.call_spec.specs.Whole.{AreSpans, IsWhole, call_period, first_periods, periods_of_call}
use Rattle.call_spec.proofs.FirstPeriods.{ups-first, pcms-first, settings-first}
use Rattle.call_spec.proofs.Bridges.Ordered.{head_early, head_late, head_inside, item-none, starts-other, starts-here, starts-none}
use Rattle.call_spec.proofs.Bridges.SoFar.{so_far-all, spans-first}

-- before a span starts nothing is handed over
gap : (low n j : ℕ) (spans : List Span) → AreSpans low n spans → starts_at spans (suc j) ≡ true → item_at spans j ≡ None
gap low n j [] h s = absurd (true≢false (sym s))
gap low n j (span ∷ spans) h s =
    let count = h.3 in
    let rest : AreSpans (span.to + 1) n spans = h.4 in
    elim (cases_lt j span.from) [
      | inl early ↦ head_early span spans j early ∙ item-none (span.to + 1) n j spans rest (omega arith)
      | inr begun ↦
          let other : starts_at spans (suc j) ≡ true = sym (starts-other span spans (suc j) (λ e. omega arith)) ∙ s in
          elim (cases_lt j span.to) [
            | inl goes ↦ absurd (true≢false (sym other ∙ starts-none (span.to + 1) n (suc j) spans rest (omega arith)))
            | inr over ↦ head_late span spans j over ∙ gap (span.to + 1) n j spans rest other
          ]
    ]

some : (o : Option (List ℕ)) (x : List ℕ) → o ≡ Some x → is_some o ≡ true
some o x e = ap is_some e

-- what is handed over begins at a start and goes on without a gap
no_gap : (low n j : ℕ) (spans : List Span) → AreSpans low n spans → is_some (item_at spans (suc j)) ≡ true →
    (starts_at spans (suc j) || is_some (item_at spans j)) ≡ true
no_gap low n j [] h s = absurd (true≢false (sym s))
no_gap low n j (span ∷ spans) h s =
    let count = h.3 in
    let rest : AreSpans (span.to + 1) n spans = h.4 in
    elim (cases_lt (suc j) span.from) [
      | inl early ↦
          absurd (true≢false (sym s ∙ ap is_some (head_early span spans (suc j) early ∙ item-none (span.to + 1) n (suc j) spans rest (omega arith))))
      | inr begun ↦ elim (cases_lt j span.from) [
        | inl now ↦ ap (λ b. b || is_some (item_at (span ∷ spans) j)) (starts-here span spans (suc j) (omega arith))
        | inr before ↦ elim (cases_lt j span.to) [
          | inl goes ↦
              ap (λ b. starts_at (span ∷ spans) (suc j) || b) (some _ _ (head_inside span spans j before goes))
              ∙ or_right (starts_at (span ∷ spans) (suc j)) true refl
          | inr over ↦
              ap (λ b. b || is_some (item_at (span ∷ spans) j)) (starts-other span spans (suc j) (λ e. omega arith)) ∙
              ap (λ o. starts_at spans (suc j) || is_some o) (head_late span spans j over) ∙
              no_gap (span.to + 1) n j spans rest (sym (ap is_some (head_late span spans (suc j) (omega arith))) ∙ s)
        ]
      ]
    ]

-- in the first period too
from_start : (low n : ℕ) (spans : List Span) → AreSpans low n spans → is_some (item_at spans 0) ≡ true → starts_at spans 0 ≡ true
from_start low n [] h s = s
from_start low n (span ∷ spans) h s = elim (cases_lt 0 span.from) [
  | inl early ↦
      let count = h.3 in
      absurd (true≢false (sym s ∙ ap is_some (head_early span spans 0 early ∙ item-none (span.to + 1) n 0 spans h.4 (omega arith))))
  | inr now ↦ starts-here span spans 0 (omega arith)
]

-- so bridges leave a period between
apart-first : (call : Call) (n k : ℕ) → AreSpans 0 n call.spans → LeavePeriodsBetween (down_periods (first_periods call k))
apart-first call n zero h = tt
apart-first call n (suc zero) h = (tt, λ s. refl, λ b. ap (λ z. z || false) (from_start 0 n call.spans h b))
apart-first call n (suc (suc k)) h = (
  apart-first call n (suc k) h,
  λ s. ap is_some (gap 0 n k call.spans h s),
  λ b. no_gap 0 n k call.spans h b,
)

-- ---- the history

ups-sized : (call : Call) (k : ℕ) → length call.up ≡ 40 * periods call → k ≤ periods call → All (λ t. length t.up ≡ 40) (first_periods call k)
ups-sized call zero e l = All-nil (λ t. length t.up ≡ 40)
ups-sized call (suc k) e l =
    let rest = length-drop (40 * k) call.up in
    All-cons (λ t. length t.up ≡ 40) (call_period call k) (first_periods call k)
    (length-take 40 (drop (40 * k) call.up) ∙ omega arith) (ups-sized call k e (omega arith))

pcms-sized : (call : Call) (k : ℕ) → length call.pcm ≡ 160 * periods call → k ≤ periods call → All (λ t. length t.pcm ≡ 160) (first_periods call k)
pcms-sized call zero e l = All-nil (λ t. length t.pcm ≡ 160)
pcms-sized call (suc k) e l =
    let rest = length-drop (160 * k) call.pcm in
    All-cons (λ t. length t.pcm ≡ 160) (call_period call k) (first_periods call k)
    (length-take 160 (drop (160 * k) call.pcm) ∙ omega arith) (pcms-sized call k e (omega arith))

-- **The periods of a call as a whole are a history.**
pub history-whole : (call : Call) → IsWhole call → IsCallHistory (periods_of_call call)
history-whole call h = record {
  ups = ups-sized call (periods call) h.up (omega arith);
  pcms = pcms-sized call (periods call) h.pcm (omega arith);
  bridges = apart (down_periods (periods_of_call call)) (apart-first call (periods call) (periods call) h.spans);
}

-- a call by its parts
abbrev call5 : Who → List ℕ → List ℕ → List Setting → List Span → Call
call5 who up pcm settings spans = record { who = who; up = up; pcm = pcm; settings = settings; spans = spans }

-- **And the call of that history is the call itself.**
pub call-whole : (call : Call) → IsWhole call → call_of_history call.who (periods_of_call call) ≡ call
call-whole call h =
    let ts = periods_of_call call in
    let up = h.up in
    let pcm = h.pcm in
    ap (λ z. call5 call.who z (pcm_of ts) (settings_of ts) (reverse (spans_in_history ts)))
    (ups-first call (periods call) ∙ take_all (40 * periods call) call.up (omega arith)) ∙
    ap (λ z. call5 call.who call.up z (settings_of ts) (reverse (spans_in_history ts)))
    (pcms-first call (periods call) ∙ take_all (160 * periods call) call.pcm (omega arith)) ∙
    ap (λ z. call5 call.who call.up call.pcm z (reverse (spans_in_history ts)))
    (settings-first call (periods call) (omega arith) ∙ take_all (periods call) call.settings (omega arith)) ∙
    ap (call5 call.who call.up call.pcm call.settings) (spans-first call (periods call) (periods call) h.spans ∙ so_far-all 0 (periods call) call.spans h.spans)
