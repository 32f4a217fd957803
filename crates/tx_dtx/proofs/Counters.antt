-- The counters of the memory give what the look back over the stretch counts.
use Rattle.std.proofs.Common.{◌≡◌, ◌+◌, ◌<◌, ◌≤◌, min, true, false, nat_le, Option, Some, None, List, [], ◌∷◌, ◌++◌, map, take, length, replicate, refl, sym}
use Rattle.std.proofs.Common.{ap, ◌∙◌, suc, arith, inl, inr, subst}
use Rattle.std.specs.Prelude.{option_map, is_none, IfSome, ◌==◌}
use Rattle.std.proofs.lemmas.Bool.{cases_Bool, cond-true, cond-false, lt-leb, le-leb, eq-eqb, ne_eqb}
use Rattle.std.proofs.lemmas.Grind.{common_steps}
use Rattle.trau_params.specs.Fields.{Fields}
use Rattle.tx_dtx.specs.Stretch.{Measures, Coded, is_active}
use Rattle.tx_dtx.specs.SilenceDescriptor.{sid_of}
use Rattle.tx_dtx.specs.Sent.{described_from, hangover_after, SidPlace, one_later, pause_of, is_sid_place, newest_four, latest_place, before_pause, still_used, sid_used}
use Rattle.tx_dtx.specs.Memory.{TxMemory, no_measures}
use Rattle.tx_dtx.specs.Step.{elapsed_later, after_active, after_sid, hangs_at, after_early}
use Rattle.tx_dtx.specs.Stands.{elapsed_of, Stands}

-- ---- how many frames since the last SID

-- one frame later
elapsed-later : (o : Option SidPlace) → elapsed_of (option_map one_later o) ≡ elapsed_later (elapsed_of o)
elapsed-later None = refl
elapsed-later (Some place) = let e : min (place.since + 1) hangover_after ≡ min (min place.since hangover_after + 1) hangover_after = omega arith in e

-- a pause hangs, or goes on with the last SID, by what has elapsed at its first frame
hangs_by : (o : Option SidPlace) → nat_le hangover_after (elapsed_later (elapsed_of o)) ≡ is_none (still_used o)
hangs_by None = refl
hangs_by (Some place) = grind (arith, common_steps)

-- the last SID is the same one frame later
sid-later : (sid : Fields) (o : Option SidPlace) → IfSome o (λ place. sid ≡ sid_of place.four) →
    IfSome (option_map one_later o) (λ place. sid ≡ sid_of place.four)
sid-later sid None h = tt
sid-later sid (Some place) h = h

-- ---- one frame more

-- the latest SID place, where the newest frame is none
pub no_place : (f : Coded) (fs : List Coded) → is_sid_place (f ∷ fs) ≡ false → latest_place (f ∷ fs) ≡ option_map one_later (latest_place fs)
no_place f fs n = cond-false (is_sid_place (f ∷ fs)) (Some (record { since = 0; four = newest_four (f ∷ fs) })) (option_map one_later (latest_place fs)) n

-- and where it is one
sid_place : (f : Coded) (fs : List Coded) → is_sid_place (f ∷ fs) ≡ true → latest_place (f ∷ fs) ≡ Some (record { since = 0; four = newest_four (f ∷ fs) })
sid_place f fs y = cond-true (is_sid_place (f ∷ fs)) (Some (record { since = 0; four = newest_four (f ∷ fs) })) (option_map one_later (latest_place fs)) y

-- the measures of the last three frames
pub recent-more : (f : Coded) (past : List Coded) (recent : List Measures) → recent ≡ take 3 (map (λ f. f.measures) past ++ replicate 3 no_measures) →
    take 3 (f.measures ∷ recent) ≡ take 3 (map (λ f. f.measures) (f ∷ past) ++ replicate 3 no_measures)
recent-more f past recent e = ap (λ z. f.measures ∷ take 2 z) e ∙ ap (λ z. f.measures ∷ z) (take_take (map (λ f. f.measures) past ++ replicate 3 no_measures))
  where
    take_take : (xs : List Measures) → take 2 (take 3 xs) ≡ take 2 xs
    take_take [] = refl
    take_take (a ∷ []) = refl
    take_take (a ∷ b ∷ []) = refl
    take_take (a ∷ b ∷ c ∷ xs) = refl

-- a SID is made after three frames, or more
pub four_by_then : (fs : List Coded) → described_from ≤ length fs + 1 → 3 ≤ length fs
four_by_then fs h = omega arith

-- the newest four, where three come before
pub newest-four : (f : Coded) (past : List Coded) (recent : List Measures) → recent ≡ take 3 (map (λ f. f.measures) past ++ replicate 3 no_measures) →
    3 ≤ length past → f.measures ∷ recent ≡ newest_four (f ∷ past)
newest-four f [] recent e l = absurd (omega arith)
newest-four f (a ∷ []) recent e l = absurd (omega arith)
newest-four f (a ∷ b ∷ []) recent e l = absurd (omega arith)
newest-four f (a ∷ b ∷ c ∷ past) recent e l = ap (λ z. f.measures ∷ z) e

pub pause-length : (fs : List Coded) → pause_of fs ≤ length fs
pause-length [] = omega arith
pause-length (f ∷ fs) = elim (cases_Bool (is_active f)) [
  | inl a ↦ let e = cond-true (is_active f) 0 (suc (pause_of fs)) a in omega arith
  | inr n ↦ let e = cond-false (is_active f) 0 (suc (pause_of fs)) n in let l = pause-length fs in omega arith
]

-- ---- one step, before the measures are remembered

-- the memory but for the measures
pub record Counts (past : List Coded) (m : TxMemory) : Type 0 where
  pub run : m.run ≡ min (pause_of past) described_from
  pub elapsed : m.elapsed ≡ elapsed_of (latest_place past)
  pub hangs : 0 < pause_of past → m.hangs ≡ is_none (sid_used (before_pause past))
  pub sid : IfSome (latest_place past) (λ place. m.sid ≡ sid_of place.four)

-- fewer inactive frames make no SID place
pub not_place : (f : Coded) (past : List Coded) → pause_of (f ∷ past) < described_from → is_sid_place (f ∷ past) ≡ false
not_place f past l = lt-leb described_from (pause_of (f ∷ past)) l

-- an active frame
pub active-counts : (f : Coded) (past : List Coded) (m : TxMemory) → is_active f ≡ true → Stands past m → Counts (f ∷ past) (after_active m)
active-counts f past m a s =
    let none : pause_of (f ∷ past) ≡ 0 = cond-true (is_active f) 0 (suc (pause_of past)) a in
    let place = no_place f past (not_place f past (omega arith)) in
    let elapsed = s.elapsed in
    record {
      run = omega arith;
      elapsed = ap elapsed_later elapsed ∙ sym (elapsed-later (latest_place past)) ∙ sym (ap elapsed_of place);
      hangs = λ some. absurd (omega arith);
      sid = subst (λ o. IfSome o (λ place. m.sid ≡ sid_of place.four)) (sym place) (sid-later m.sid (latest_place past) s.sid);
    }

-- an inactive frame makes the pause longer
pub one_longer : (f : Coded) (past : List Coded) → is_active f ≡ false → pause_of (f ∷ past) ≡ suc (pause_of past)
one_longer f past n = cond-false (is_active f) 0 (suc (pause_of past)) n

-- an inactive frame at which a SID is made
pub sid-counts : (f : Coded) (past : List Coded) (m : TxMemory) → is_active f ≡ false → described_from ≤ pause_of past + 1 → Stands past m →
    Counts (f ∷ past) (after_sid m (f.measures ∷ m.recent))
sid-counts f past m n l s =
    let longer = one_longer f past n in
    let place = sid_place f past (le-leb described_from (pause_of (f ∷ past)) (omega arith)) in
    let long = pause-length past in
    let four = newest-four f past m.recent s.recent (four_by_then past (omega arith)) in
    let before : before_pause (f ∷ past) ≡ before_pause past = cond-false (is_active f) (f ∷ past) (before_pause past) n in
    record {
      run = omega arith;
      elapsed = sym (ap elapsed_of place);
      hangs = λ some. s.hangs (omega arith) ∙ sym (ap (λ z. is_none (sid_used z)) before);
      sid = subst (λ o. IfSome o (λ place. sid_of (f.measures ∷ m.recent) ≡ sid_of place.four)) (sym place) (ap sid_of four);
    }

-- whether the pause hangs, at its first frame and later
pub hangs-now : (f : Coded) (past : List Coded) (m : TxMemory) → is_active f ≡ false → pause_of past + 1 < described_from → Stands past m →
    hangs_at (pause_of past + 1) (elapsed_later m.elapsed) m.hangs ≡ is_none (sid_used (before_pause past))
hangs-now f [] m n l s = ap (λ e. nat_le hangover_after (elapsed_later e)) s.elapsed
hangs-now f (g ∷ past) m n l s = elim (cases_Bool (is_active g)) [
  | inl a ↦
      let none : pause_of (g ∷ past) ≡ 0 = cond-true (is_active g) 0 (suc (pause_of past)) a in
      let before : before_pause (g ∷ past) ≡ g ∷ past = cond-true (is_active g) (g ∷ past) (before_pause past) a in
      cond-true (pause_of (g ∷ past) + 1 == 1) (nat_le hangover_after (elapsed_later m.elapsed)) m.hangs
      (eq-eqb (pause_of (g ∷ past) + 1) 1 (omega arith)) ∙
      ap (λ e. nat_le hangover_after (elapsed_later e)) s.elapsed ∙ hangs_by (latest_place (g ∷ past)) ∙ sym (ap (λ z. is_none (sid_used z)) before)
  | inr p ↦
      let longer = one_longer g past p in
      cond-false (pause_of (g ∷ past) + 1 == 1) (nat_le hangover_after (elapsed_later m.elapsed)) m.hangs
      (ne_eqb (pause_of (g ∷ past) + 1) 1 (omega arith))
      ∙ s.hangs (omega arith)
]

-- one earlier in its pause
pub early-counts : (f : Coded) (past : List Coded) (m : TxMemory) → is_active f ≡ false → pause_of past + 1 < described_from → Stands past m →
    Counts (f ∷ past) (after_early m (pause_of past + 1))
early-counts f past m n l s =
    let longer = one_longer f past n in
    let place = no_place f past (not_place f past (omega arith)) in
    let before : before_pause (f ∷ past) ≡ before_pause past = cond-false (is_active f) (f ∷ past) (before_pause past) n in
    record {
      run = omega arith;
      elapsed = ap elapsed_later s.elapsed ∙ sym (elapsed-later (latest_place past)) ∙ sym (ap elapsed_of place);
      hangs = λ some. hangs-now f past m n l s ∙ sym (ap (λ z. is_none (sid_used z)) before);
      sid = subst (λ o. IfSome o (λ place. m.sid ≡ sid_of place.four)) (sym place) (sid-later m.sid (latest_place past) s.sid);
    }
