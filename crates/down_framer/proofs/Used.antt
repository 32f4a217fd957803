-- For crates above: each bridge but the latest is used up: since its start as many frames were made as it has periods
-- (`AreUsed`).
use Rattle.std.proofs.Common.{◌≡◌, refl, sym, ◌∙◌, subst, ℕ, ◌+◌, ◌-◌, ◌*◌, ◌≤◌, Bool, true, false, if◌then◌else◌, nat_le, Option, Some, None, List, [], ◌∷◌}
use Rattle.std.proofs.Common.{length, filter, arith, inl, inr}
use Rattle.std.proofs.lemmas.Bool.{cases_lt, lt-ltb, cases_Bool, cond_both, cond-true, cond-false}
use Rattle.down_framer.specs.Made.{Period, MadeFrame, next_start, latest_start, made_from, handed_due, next_frame, grown, made_frames}
use Rattle.down_framer.specs.Bridges.{IsHistory}
use Rattle.down_framer.specs.ByNumber.{Bridge, longer, bridges_in}
use Rattle.down_framer.proofs.Due.{due-some}
use Rattle.down_framer.proofs.Latest.{latest, no_bridge}

-- of each of these bridges as many frames were made since its start as it has periods
abbrev pub AreUsed : {A : Type 0} → List Bridge → List (MadeFrame A) → Type 0
AreUsed [] fs = Unit {0}
AreUsed (b ∷ bs) fs = (b.to - b.from ≤ made_from b.from fs) × AreUsed bs fs

-- without the latest one
abbrev pub earlier_of : List Bridge → List Bridge
earlier_of [] = []
earlier_of (b ∷ bs) = bs

-- a longer latest one leaves the others
earlier-longer : (bs : List Bridge) → earlier_of (longer bs) ≡ earlier_of bs
earlier-longer [] = refl
earlier-longer (b ∷ bs) = refl

-- more frames use them up as well
pub AreUsed-more : {A : Type 0} (bs : List Bridge) (fs gs : List (MadeFrame A)) → ((s : ℕ) → made_from s fs ≤ made_from s gs) → AreUsed bs fs → AreUsed bs gs
AreUsed-more [] fs gs m u = tt
AreUsed-more (b ∷ bs) fs gs m u = (let l = m b.from in let k = u.0 in omega arith, AreUsed-more bs fs gs m u.1)

made_from-more : {A : Type 0} (f : MadeFrame A) (fs : List (MadeFrame A)) (s : ℕ) → made_from s fs ≤ made_from s (f ∷ fs)
made_from-more f fs s = by (nat_le s f.period)
  where
    by : (b : Bool) → made_from s fs ≤ length (if b then f ∷ filter (λ f. nat_le s f.period) fs else filter (λ f. nat_le s f.period) fs)
    by true = omega arith
    by false = omega arith

-- a try makes no frame fewer
pub grown-more : {A : Type 0} (p : Period A) (past : List (Period A)) (fs : List (MadeFrame A)) (s : ℕ) → made_from s fs ≤ made_from s (grown p past fs)
grown-more p past fs s =
    cond_both (nat_le (next_start fs) (160 * length past)) (next_frame p past fs ∷ fs) fs (λ gs. made_from s fs ≤ made_from s gs)
    (λ y. made_from-more (next_frame p past fs) fs s) (λ n. omega arith)

-- all are, where no handed frame is due
all_used : {A : Type 0} (ps : List (Period A)) (fs : List (MadeFrame A)) → IsHistory ps → handed_due ps fs ≡ None → AreUsed (earlier_of (bridges_in ps)) fs →
    AreUsed (bridges_in ps) fs
all_used ps fs h d u = by (latest_start ps) refl
  where
    by : (o : Option ℕ) → latest_start ps ≡ o → AreUsed (bridges_in ps) fs
    by None e = subst (λ bs. AreUsed bs fs) (sym (no_bridge ps e)) tt
    by (Some s) e =
        let l = latest ps s h e in
        let rest : AreUsed l.earlier fs = subst (λ bs. AreUsed (earlier_of bs) fs) l.is u in
        let first : l.to - s ≤ made_from s fs = elim (cases_lt (made_from s fs) (l.to - s)) [
          | inl left ↦
              let waits = due-some ps fs s e (l.at (s + made_from s fs) (omega arith) ∙ lt-ltb (s + made_from s fs) l.to (omega arith)) in
              let q : Some (s + made_from s fs) ≡ None = sym waits ∙ d in cc
          | inr used ↦ used
        ] in
        subst (λ bs. AreUsed bs fs) (sym l.is) (first, rest)

-- **Before one period more all bridges but the latest are used up.**
pub used_step : {A : Type 0} (p : Period A) (past : List (Period A)) → IsHistory (p ∷ past) → AreUsed (earlier_of (bridges_in past)) (made_frames past) →
    AreUsed (earlier_of (bridges_in (p ∷ past))) (made_frames past)
used_step p past h u = elim (cases_Bool p.starts) [
  | inl new ↦
      subst (λ bs. AreUsed (earlier_of bs) (made_frames past))
      (sym (cond-true p.starts _ (if p.bridged then longer (bridges_in past) else bridges_in past) new))
      (all_used past (made_frames past) h.0 (h.1 new) u)
  | inr old ↦
      subst (λ bs. AreUsed (earlier_of bs) (made_frames past))
      (sym (cond-false p.starts _ (if p.bridged then longer (bridges_in past) else bridges_in past) old))
      (cond_both p.bridged (longer (bridges_in past)) (bridges_in past) (λ bs. AreUsed (earlier_of bs) (made_frames past))
      (λ y. subst (λ bs. AreUsed bs (made_frames past)) (sym (earlier-longer (bridges_in past))) u) (λ n. u))
]

-- **And after all periods.**
pub used_before : {A : Type 0} (ps : List (Period A)) → IsHistory ps → AreUsed (earlier_of (bridges_in ps)) (made_frames ps)
used_before [] h = tt
used_before (p ∷ past) h =
    AreUsed-more (earlier_of (bridges_in (p ∷ past))) (made_frames past) (made_frames (p ∷ past))
    (λ s. let a = grown-more p past (made_frames past) s in let b = grown-more p past (grown p past (made_frames past)) s in omega arith)
    (used_step p past h (used_before past h.0))
