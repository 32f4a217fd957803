-- For crates above: what is sent by the memory is what the definition of the stretch gives (`step-stands`).
use Rattle.std.proofs.Common.{◌≡◌, ◌+◌, ◌<◌, ◌≤◌, min, Bool, true, false, if◌then◌else◌, nat_le, Option, Some, None, List, [], ◌∷◌, ◌++◌, take, refl, sym, ap}
use Rattle.std.proofs.Common.{◌∙◌, arith, inl, inr, subst}
use Rattle.std.specs.Prelude.{option_map, is_none, IfSome, ◌==◌}
use Rattle.std.proofs.lemmas.Bool.{cases_Bool, cases_lt, cond-true, cond-false, le-leb, eq-eqb, ne_eqb}
use Rattle.trau_params.specs.Fields.{Fields}
use Rattle.tx_dtx.specs.Stretch.{Coded, is_active, Sent}
use Rattle.tx_dtx.specs.SilenceDescriptor.{sid_of}
use Rattle.tx_dtx.specs.Sent.{described_from, hangover_after, SidPlace, one_later, pause_of, is_sid_place, newest_four, latest_place, before_pause, still_used, itself, silence, sent_early}
use Rattle.tx_dtx.specs.Sent.{sent_of, all_sent}
use Rattle.tx_dtx.specs.Memory.{TxMemory, home_memory}
use Rattle.tx_dtx.specs.Step.{after_active, with_measures, sid_step, early_step, pause_step, sent_after, next_sent, sent_in_turn}
use Rattle.tx_dtx.specs.Stands.{Stands}
use Rattle.tx_dtx.proofs.Counters.{no_place, recent-more, four_by_then, newest-four, pause-length, Counts, not_place, active-counts, one_longer, sid-counts, hangs-now}
use Rattle.tx_dtx.proofs.Counters.{early-counts}

-- ---- what is sent

-- the latest SID place of before a short pause has the last SID
sid-before : (past : List Coded) (sid : Fields) → pause_of past + 1 < described_from → IfSome (latest_place past) (λ place. sid ≡ sid_of place.four) →
    IfSome (latest_place (before_pause past)) (λ place. sid ≡ sid_of place.four)
sid-before [] sid l h = h
sid-before (f ∷ past) sid l h = elim (cases_Bool (is_active f)) [
  | inl a ↦ subst (λ z. IfSome (latest_place z) (λ place. sid ≡ sid_of place.four)) (sym (cond-true (is_active f) (f ∷ past) (before_pause past) a)) h
  | inr n ↦
      let longer = one_longer f past n in
      let place = no_place f past (not_place f past (omega arith)) in
      subst (λ z. IfSome (latest_place z) (λ place. sid ≡ sid_of place.four)) (sym (cond-false (is_active f) (f ∷ past) (before_pause past) n))
      (sid-before past sid (omega arith) (sid-earlier (latest_place past) (subst (λ o. IfSome o (λ place. sid ≡ sid_of place.four)) place h)))
]
  where
    sid-earlier : (o : Option SidPlace) → IfSome (option_map one_later o) (λ place. sid ≡ sid_of place.four) → IfSome o (λ place. sid ≡ sid_of place.four)
    sid-earlier None h = tt
    sid-earlier (Some place) h = h

-- early in a pause the memory sends what the stretch says
sent-early : (f : Coded) (sid : Fields) (o : Option SidPlace) → IfSome o (λ place. sid ≡ sid_of place.four) →
    (if is_none (still_used o) then itself f.fields else record { fields = sid; sp = false }) ≡ sent_early f (still_used o)
sent-early f sid None h = refl
sent-early f sid (Some place) h = by (nat_le hangover_after (place.since + 1))
  where
    by : (b : Bool) →
        (if is_none (if b then None else Some place) then itself f.fields else record { fields = sid; sp = false }) ≡
        sent_early f (if b then None else Some place)
    by true = refl
    by false = ap (λ z. let s : Sent = record { fields = z; sp = false } in s) h

-- what is sent of a frame, and the memory but for the measures
pub record Takes (f : Coded) (past : List Coded) (out : Sent × TxMemory) : Type 0 where
  pub sent : out.0 ≡ sent_of f past
  pub counts : Counts (f ∷ past) out.1

-- an active frame
takes-active : (f : Coded) (past : List Coded) (m : TxMemory) → is_active f ≡ true → Stands past m → Takes f past (itself f.fields, after_active m)
unfolding sent_of
takes-active f past m a s = record {
  sent = sym (cond-true (is_active f) (itself f.fields) _ a);
  counts = active-counts f past m a s;
}

-- an inactive frame of which a SID is made
takes-sid : (f : Coded) (past : List Coded) (m : TxMemory) → is_active f ≡ false → described_from ≤ pause_of past + 1 → Stands past m →
    Takes f past (sid_step m f.measures)
unfolding sent_of
takes-sid f past m n l s =
    let longer = one_longer f past n in
    let long = pause-length past in
    record {
      sent = ap silence (newest-four f past m.recent s.recent (four_by_then past (omega arith))) ∙
          sym (cond-false (is_active f) (itself f.fields) _ n ∙
          cond-true (is_sid_place (f ∷ past)) (silence (newest_four (f ∷ past))) _ (le-leb described_from (pause_of (f ∷ past)) (omega arith)));
      counts = sid-counts f past m n l s;
    }

-- one earlier in its pause
takes-early : (f : Coded) (past : List Coded) (m : TxMemory) → is_active f ≡ false → pause_of past + 1 < described_from → Stands past m →
    Takes f past (early_step m (pause_of past + 1) f.fields)
unfolding sent_of
takes-early f past m n l s =
    let longer = one_longer f past n in
    record {
      sent = ap (λ b. if b then itself f.fields else record { fields = m.sid; sp = false }) (hangs-now f past m n l s) ∙
          sent-early f m.sid (latest_place (before_pause past)) (sid-before past m.sid l s.sid) ∙
          sym (cond-false (is_active f) (itself f.fields) _ n ∙
          cond-false (is_sid_place (f ∷ past)) (silence (newest_four (f ∷ past))) _ (not_place f past (omega arith)));
      counts = early-counts f past m n l s;
    }

-- any inactive frame
takes-inactive : (f : Coded) (past : List Coded) (m : TxMemory) → is_active f ≡ false → Stands past m →
    Takes f past (pause_step m f.fields f.measures)
unfolding pause_step
takes-inactive f past m n s =
    let run = s.run in
    elim (cases_lt (pause_of past + 1) described_from) [
      | inl short ↦
          let now : min (m.run + 1) described_from ≡ pause_of past + 1 = omega arith in
          subst (Takes f past)
          (sym (cond-false (min (m.run + 1) described_from == described_from) (sid_step m f.measures)
          (early_step m (min (m.run + 1) described_from) f.fields)
          (ne_eqb (min (m.run + 1) described_from) described_from (omega arith)) ∙
          ap (λ r. early_step m r f.fields) now))
          (takes-early f past m n short s)
      | inr long ↦
          subst (Takes f past)
          (sym (cond-true (min (m.run + 1) described_from == described_from) (sid_step m f.measures)
          (early_step m (min (m.run + 1) described_from) f.fields)
          (eq-eqb (min (m.run + 1) described_from) described_from (omega arith))))
          (takes-sid f past m n long s)
    ]

-- any frame
takes : (f : Coded) (past : List Coded) (m : TxMemory) → Stands past m → Takes f past (sent_after m f)
unfolding sent_after
takes f past m s = elim (cases_Bool (is_active f)) [
  | inl a ↦ subst (Takes f past) (sym (cond-true (is_active f) (itself f.fields, after_active m) (pause_step m f.fields f.measures) a))
      (takes-active f past m a s)
  | inr n ↦ subst (Takes f past) (sym (cond-false (is_active f) (itself f.fields, after_active m) (pause_step m f.fields f.measures) n))
      (takes-inactive f past m n s)
]

-- ---- a whole step

-- the measures are remembered after that
taken-recent : (m : TxMemory) (f : Coded) → (sent_after m f).1.recent ≡ m.recent
unfolding sent_after pause_step
taken-recent m f = by (is_active f) (min (m.run + 1) described_from == described_from)
  where
    by : (a b : Bool) →
        (if a then (itself f.fields, after_active m) else if b then sid_step m f.measures
        else early_step m (min (m.run + 1) described_from) f.fields).1.recent ≡
        m.recent
    by true b = refl
    by false true = refl
    by false false = refl

-- what is sent of a frame after those of the past, and the memory after it
pub step-stands : (f : Coded) (past : List Coded) (m : TxMemory) → Stands past m → Stands (f ∷ past) (next_sent m f).1 × ((next_sent m f).0 ≡ sent_of f past)
unfolding next_sent
step-stands f past m s =
    let t = takes f past m s in
    let c = t.counts in (
      record {
        run = c.run;
        elapsed = c.elapsed;
        hangs = c.hangs;
        sid = c.sid;
        recent = ap (λ z. take 3 (f.measures ∷ z)) (taken-recent m f) ∙ recent-more f past m.recent s.recent;
      },
      t.sent,
    )

-- a step, by its parts
pub stepped_by : (m : TxMemory) (f : Coded) (sent : Sent) (between now : TxMemory) → sent_after m f ≡ (sent, between) →
    now ≡ with_measures between f.measures →
    next_sent m f ≡ (sent, now)
unfolding next_sent
stepped_by m f sent between now t r = ap (λ (out : Sent × TxMemory). let s : Sent × TxMemory = (out.0, with_measures out.1 f.measures) in s) t ∙
    ap (λ z. let s : Sent × TxMemory = (sent, z) in s) (sym r)

-- the same in the stretch
pub step-history : (m : TxMemory) (f : Coded) (sent : Sent) (now : TxMemory) (past : List Coded) → next_sent m f ≡ (sent, now) → Stands past m →
    Stands (f ∷ past) now × (sent ≡ sent_of f past)
step-history m f sent now past e s = subst (λ (out : Sent × TxMemory). Stands (f ∷ past) out.1 × (out.0 ≡ sent_of f past)) e (step-stands f past m s)

-- ---- a whole stretch

-- at home nothing was sent
home-stands : Stands [] home_memory
home-stands = record { run = refl; elapsed = refl; hangs = λ some. absurd (omega arith); sid = tt; recent = refl }

-- frames one after another
pub in_turn : (past : List Coded) → Stands past (sent_in_turn past).1 × ((sent_in_turn past).0 ≡ all_sent past)
unfolding sent_in_turn all_sent
in_turn [] = (home-stands, refl)
in_turn (f ∷ past) =
    let memory = (sent_in_turn past).1 in
    let before = in_turn past in
    let newest = step-stands f past memory before.0 in
    (newest.0, ap (λ sent. sent ++ (next_sent memory f).0 ∷ []) before.1 ∙ ap (λ z. all_sent past ++ z ∷ []) newest.1)
