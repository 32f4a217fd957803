-- What the frames of a downlink carry.
use Rattle.std.proofs.Common.{◌≡◌, refl, sym, ap, ◌∙◌, ℕ, suc, ◌+◌, ◌*◌, ◌<◌, ◌≤◌, Bool, true, false, Option, Some, None, List, [], ◌∷◌, length, inl, inr}
use Rattle.std.proofs.Common.{arith}
use Rattle.std.specs.Prelude.{◌&&◌, is_some, filter, nat_le, nat_lt, ◌==◌, if◌then◌else◌}
use Rattle.std.specs.List.{AllByRecursion}
use Rattle.std.proofs.lemmas.Bool.{cases_Bool, cases_lt, cases_eq, le-leb, lt-leb, lt-ltb, le-ltb, eq-eqb, ne_eqb, cond_both, and_from}
use Rattle.down_framer.specs.Made.{Period, MadeFrame, next_start, latest_start, hands_at, made_from, handed_due, epoch_of, next_frame, grown, made_frames}
use Rattle.down_framer.proofs.Due.{hands_at-late, hands_at-old, due-some, due-none}
use Rattle.call_leg.specs.Down.{CallFrame}
use Rattle.call_leg.specs.Places.{carried}
use Rattle.run_spec.specs.Facts.{carries_in}
use Rattle.switchboard.proofs.Lists.{not_both}
use Rattle.run_spec.proofs.Lists.{each_weaker}

-- a frame carries what was handed over in a bridge: where that is the latest one, from its start on, else before
pub record Carries {A : Type 0} (ps : List (Period A)) (epoch h : ℕ) : Type 0 where
  pub inside : h < length ps
  pub bridged : hands_at h ps ≡ true
  pub start : ℕ
  pub latest : latest_start ps ≡ Some start
  pub within : epoch ≤ epoch_of ps
  pub newest : epoch ≡ epoch_of ps → start ≤ h
  pub older : epoch < epoch_of ps → h < start

-- what each of these frames carries, if anything, is of its epoch
abbrev pub AreCarried : {A : Type 0} → List (Period A) → List (MadeFrame A) → Type 0
AreCarried ps fs = AllByRecursion (λ f. (h : ℕ) → f.carries ≡ Some h → Carries ps f.epoch h) fs

-- a period more changes nothing of it
carries_more : {A : Type 0} (p : Period A) (past : List (Period A)) (epoch h : ℕ) → Carries past epoch h → Carries (p ∷ past) epoch h
carries_more p past epoch h k = by p.starts refl
  where
    by : (b : Bool) → p.starts ≡ b → Carries (p ∷ past) epoch h
    by true e =
        let m : epoch_of (p ∷ past) ≡ suc (epoch_of past) =
        ap (λ (b : Bool). length (if b then p ∷ filter (λ p. p.starts) past else filter (λ p. p.starts) past)) e in
        let w = k.within in
        record {
          inside = let i = k.inside in omega arith;
          bridged = hands_at-old p past h k.inside ∙ k.bridged;
          start = length past;
          latest = ap (λ (b : Bool). if b then Some (length past) else latest_start past) e;
          within = omega arith;
          newest = λ q. absurd (omega arith);
          older = λ q. k.inside;
        }
    by false e =
        let m : epoch_of (p ∷ past) ≡ epoch_of past =
        ap (λ (b : Bool). length (if b then p ∷ filter (λ p. p.starts) past else filter (λ p. p.starts) past)) e in
        let w = k.within in
        record {
          inside = let i = k.inside in omega arith;
          bridged = hands_at-old p past h k.inside ∙ k.bridged;
          start = k.start;
          latest = ap (λ (b : Bool). if b then Some (length past) else latest_start past) e ∙ k.latest;
          within = omega arith;
          newest = λ q. k.newest (q ∙ m);
          older = λ q. k.older (omega arith);
        }

-- what is due lies in the latest bridge
pub due_parts : {A : Type 0} (ps : List (Period A)) (fs : List (MadeFrame A)) (h : ℕ) → handed_due ps fs ≡ Some h →
    (s : ℕ) × (latest_start ps ≡ Some s) × (s ≤ h) × (hands_at h ps ≡ true)
due_parts ps fs h e = by (latest_start ps) refl
  where
    by : (o : Option ℕ) → latest_start ps ≡ o → (s : ℕ) × (latest_start ps ≡ Some s) × (s ≤ h) × (hands_at h ps ≡ true)
    by None f =
        absurd (let g : handed_due ps fs ≡ None = ap
        (λ (o : Option ℕ).
        elim o as (λ x. Option ℕ) [ None ↦ None | Some s ↦ if hands_at (s + made_from s fs) ps then Some (s + made_from s fs) else None ]) f in cc)
    by (Some s) f = elim (cases_Bool (hands_at (s + made_from s fs) ps)) [
      | inl b ↦ let g = due-some ps fs s f b in let q : s + made_from s fs ≡ h = cc in (s, f, omega arith, ap (λ h. hands_at h ps) (sym q) ∙ b)
      | inr b ↦ absurd (let g = due-none ps fs s f b in cc)
    ]

-- what is due is of the newest epoch
carries_new : {A : Type 0} (p : Period A) (past : List (Period A)) (fs : List (MadeFrame A)) (h : ℕ) → handed_due (p ∷ past) fs ≡ Some h →
    Carries (p ∷ past) (epoch_of (p ∷ past)) h
carries_new p past fs h e =
    let d = due_parts (p ∷ past) fs h e in
    record {
      inside = elim (cases_lt h (length (p ∷ past))) [ inl l ↦ l | inr l ↦ absurd (not_both _ (hands_at-late (p ∷ past) h l) d.3) ];
      bridged = d.3;
      start = d.0;
      latest = d.1;
      within = omega arith;
      newest = λ q. d.2;
      older = λ q. absurd (omega arith);
    }

-- so is what a try makes
grown_carried : {A : Type 0} (p : Period A) (past : List (Period A)) (fs : List (MadeFrame A)) → AreCarried (p ∷ past) fs →
    AreCarried (p ∷ past) (grown p past fs)
grown_carried p past fs k =
    cond_both (nat_le (next_start fs) (160 * length past)) (next_frame p past fs ∷ fs) fs (AreCarried (p ∷ past)) (λ y. (λ h e. carries_new p past fs h e, k))
    (λ n. k)

-- **What a made frame carries is of its epoch.**
pub made_carried : {A : Type 0} (ps : List (Period A)) → AreCarried ps (made_frames ps)
made_carried [] = tt
made_carried (p ∷ past) = grown_carried p past (grown p past (made_frames past)) (grown_carried p past (made_frames past)
    (each_weaker (λ f. (h : ℕ) → f.carries ≡ Some h → Carries past f.epoch h) (λ f. (h : ℕ) → f.carries ≡ Some h → Carries (p ∷ past) f.epoch h)
    (made_frames past)
    (λ f k h e. carries_more p past f.epoch h (k h e)) (made_carried past)))

-- ---- how many carry what was handed over in a span

-- how many of these frames carry what was handed over from s up to, and without, e
abbrev pub sent_of : {A : Type 0} → ℕ → ℕ → List (MadeFrame A) → ℕ
sent_of s e fs = length (filter (λ f. carries_in s e f.carries) fs)

-- those of an epoch are those of a span where each of them is
pub carried_same : (s e k : ℕ) (fs : List CallFrame) → AllByRecursion (λ f. (is_some f.carries && f.epoch == k) ≡ carries_in s e f.carries) fs →
    carried k fs ≡ sent_of s e fs
carried_same s e k [] h = refl
carried_same s e k (f ∷ fs) h =
    ap (λ (b : Bool). if b then suc (carried k fs) else carried k fs) h.0 ∙ by (carries_in s e f.carries) (carried_same s e k fs h.1)
  where
    by : (b : Bool) → carried k fs ≡ sent_of s e fs →
        (if b then suc (carried k fs) else carried k fs)
        ≡ length (if b then f ∷ filter (λ f. carries_in s e f.carries) fs else filter (λ f. carries_in s e f.carries) fs)
    by true q = ap suc q
    by false q = q

carried_some : {A : Type 0} (ps : List (Period A)) (s e : ℕ) (epoch : ℕ) (o : Option ℕ) → latest_start ps ≡ Some s →
    ((h : ℕ) → s ≤ h → h < length ps → hands_at h ps ≡ true → h < e) →
    ((h : ℕ) → o ≡ Some h → Carries ps epoch h) → (is_some o && epoch == epoch_of ps) ≡ carries_in s e o
carried_some ps s e epoch None l over k = refl
carried_some ps s e epoch (Some h) l over k =
    let c = k h refl in
    let same : c.start ≡ s = (let q = c.latest in cc) in
    elim (cases_eq epoch (epoch_of ps)) [
      | inl q ↦
          let low : s ≤ h = (let m = c.newest q in omega (arith, same)) in
          eq-eqb epoch (epoch_of ps) q ∙ sym (and_from _ _ (le-leb s h low) (lt-ltb h e (over h low c.inside c.bridged)))
      | inr q ↦
          let less : epoch < epoch_of ps = (let w = c.within in below epoch (epoch_of ps) w q) in
          let low : h < s = (let m = c.older less in omega (arith, same)) in
          ne_eqb epoch (epoch_of ps) q ∙ sym (ap (λ t. t && nat_lt h e) (lt-leb s h low))
    ]
  where
    below : (a b : ℕ) → a ≤ b → (a ≡ b → ⊥) → a < b
    below a b l n = omega arith

-- those that carry what was handed over in the latest bridge
pub carried_latest : (ps : List (Period _)) (s e : ℕ) → latest_start ps ≡ Some s → ((h : ℕ) → s ≤ h → h < length ps → hands_at h ps ≡ true → h < e) →
    carried (epoch_of ps) (made_frames ps) ≡ sent_of s e (made_frames ps)
carried_latest ps s e l over = carried_same s e (epoch_of ps) (made_frames ps)
    (each_weaker (λ f. (h : ℕ) → f.carries ≡ Some h → Carries ps f.epoch h) _ (made_frames ps) (λ f k. carried_some ps s e f.epoch f.carries l over k)
    (made_carried ps))

-- those of a bridge that is only to start
none_sent : {A : Type 0} (s e : ℕ) (fs : List (MadeFrame A)) → AllByRecursion (λ f. carries_in s e f.carries ≡ false) fs → sent_of s e fs ≡ 0
none_sent s e [] h = refl
none_sent s e (f ∷ fs) h =
    ap (λ (b : Bool). length (if b then f ∷ filter (λ f. carries_in s e f.carries) fs else filter (λ f. carries_in s e f.carries) fs)) h.0
    ∙ none_sent s e fs h.1

-- of an epoch that is to come none was carried
pub carried_next : (ps : List (Period _)) (s e : ℕ) → length ps ≤ s → carried (suc (epoch_of ps)) (made_frames ps) ≡ sent_of s e (made_frames ps)
carried_next ps s e l =
    none_carried (made_frames ps) (made_carried ps)
    ∙ sym (none_sent s e (made_frames ps)
    (each_weaker (λ f. (h : ℕ) → f.carries ≡ Some h → Carries ps f.epoch h) _ (made_frames ps) (λ f k. by f.epoch f.carries k) (made_carried ps)))
  where
    by : (epoch : ℕ) (o : Option ℕ) → ((h : ℕ) → o ≡ Some h → Carries ps epoch h) → carries_in s e o ≡ false
    by epoch None k = refl
    by epoch (Some h) k = let i = (k h refl).inside in ap (λ t. t && nat_lt h e) (lt-leb s h (omega arith))

    one : (epoch : ℕ) (o : Option ℕ) → ((h : ℕ) → o ≡ Some h → Carries ps epoch h) → (is_some o && epoch == suc (epoch_of ps)) ≡ false
    one epoch None k = refl
    one epoch (Some h) k = let w = (k h refl).within in ne_eqb epoch (suc (epoch_of ps)) (λ q. omega arith)

    none_carried : (fs : List CallFrame) → AreCarried ps fs → carried (suc (epoch_of ps)) fs ≡ 0
    none_carried [] k = refl
    none_carried (f ∷ fs) k =
        ap (λ (b : Bool). if b then suc (carried (suc (epoch_of ps)) fs) else carried (suc (epoch_of ps)) fs) (one f.epoch f.carries k.0) ∙ none_carried fs k.1

-- ---- later periods

-- a frame that carries nothing of a span adds nothing to it
grown_sent : {A : Type 0} (p : Period A) (past : List (Period A)) (fs : List (MadeFrame A)) (s e : ℕ) → ((h : ℕ) → handed_due (p ∷ past) fs ≡ Some h → e ≤ h) →
    sent_of s e (grown p past fs) ≡ sent_of s e fs
grown_sent p past fs s e k =
    cond_both (nat_le (next_start fs) (160 * length past)) (next_frame p past fs ∷ fs) fs (λ gs. sent_of s e gs ≡ sent_of s e fs)
    (λ y. ap (λ (b : Bool). length (if b then next_frame p past fs ∷ filter (λ f. carries_in s e f.carries) fs else filter (λ f. carries_in s e f.carries) fs))
    (by (handed_due (p ∷ past) fs) k)) (λ n. refl)
  where
    by : (o : Option ℕ) → ((h : ℕ) → o ≡ Some h → e ≤ h) → carries_in s e o ≡ false
    by None k = refl
    by (Some h) k = let l = k h refl in late (nat_le s h) (nat_lt h e) (le-ltb h e l)
      where
        late : (a b : Bool) → b ≡ false → (a && b) ≡ false
        late true b e = e
        late false b e = refl

-- after a later bridge started, no frame carries what was handed over before it
pub sent_kept : {A : Type 0} (p : Period A) (past : List (Period A)) (s e n : ℕ) → latest_start (p ∷ past) ≡ Some n → e ≤ n →
    sent_of s e (made_frames (p ∷ past)) ≡ sent_of s e (made_frames past)
sent_kept p past s e n l m =
    grown_sent p past (grown p past (made_frames past)) s e (λ h q. late (grown p past (made_frames past)) h q)
    ∙ grown_sent p past (made_frames past) s e (λ h q. late (made_frames past) h q)
  where
    late : (fs : List (MadeFrame _)) (h : ℕ) → handed_due (p ∷ past) fs ≡ Some h → e ≤ h
    late fs h q = let d = due_parts (p ∷ past) fs h q in let w : d.0 ≡ n = (let a = d.1 in cc) in let b = d.2 in omega arith
