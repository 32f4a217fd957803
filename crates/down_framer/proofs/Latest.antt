-- For crates above: a bridge by its ends (`bridge`); a bridge that goes on has started (`started`).
-- The latest of the bridges of some periods.
use Rattle.std.proofs.Common.{◌≡◌, refl, sym, ap, ◌∙◌, subst, ℕ, ◌+◌, ◌≤◌, true, false, ◌||◌, if◌then◌else◌, nat_lt, Some, None, List, [], ◌∷◌, ◌++◌, length}
use Rattle.std.proofs.Common.{arith, inl, inr, length-append}
use Rattle.std.proofs.lemmas.Bool.{cases_lt, lt-ltb, le-ltb, cases_Bool, cond_both, cond-true, cond-false}
use Rattle.down_framer.specs.Made.{Period, latest_start, hands_at}
use Rattle.down_framer.specs.Bridges.{in_bridge, IsHistory}
use Rattle.down_framer.specs.ByNumber.{Bridge, longer, bridges_in}
use Rattle.down_framer.proofs.Due.{hands_at-late, hands_at-new, hands_at-old, outside}

-- the latest bridge started at s; it has the periods from s on that lie in a bridge, and where the newest does, so many
-- as there are
pub record Latest {A : Type 0} (ps : List (Period A)) (s : ℕ) : Type 0 where
  pub to : ℕ
  pub earlier : List Bridge
  pub is : bridges_in ps ≡ (let b : Bridge = record { from = s; to = to } in b) ∷ earlier
  pub at : (h : ℕ) → s ≤ h → hands_at h ps ≡ nat_lt h to
  pub goes_on : in_bridge ps ≡ true → to ≡ length ps
  pub within : to ≤ length ps

-- a bridge by its ends
abbrev pub bridge : ℕ → ℕ → Bridge
bridge from to = record { from = from; to = to }

-- a bridge that starts in the newest period
begun : {A : Type 0} (p : Period A) (past : List (Period A)) → p.starts ≡ true → Latest (p ∷ past) (length past)
begun p past new = elim (cases_Bool p.bridged) [
  | inl goes ↦ record {
    to = length past + 1;
    earlier = bridges_in past;
    is = list ∙ ap (λ to. bridge (length past) to ∷ bridges_in past) (cond-true p.bridged (length past + 1) (length past) goes);
    at = λ h m. elim (cases_lt (length past) h) [
      | inl later ↦ hands_at-late (p ∷ past) h later ∙ sym (le-ltb h (length past + 1) (omega arith))
      | inr now ↦ hands_at-new p past h (omega arith) ∙ goes ∙ sym (lt-ltb h (length past + 1) (omega arith))
    ];
    goes_on = λ b. omega arith;
    within = omega arith;
  }
  | inr out ↦ record {
    to = length past;
    earlier = bridges_in past;
    is = list ∙ ap (λ to. bridge (length past) to ∷ bridges_in past) (cond-false p.bridged (length past + 1) (length past) out);
    at = λ h m. outside p past h out m ∙ sym (le-ltb h (length past) m);
    goes_on = λ b. let q : true ≡ false = sym b ∙ out in cc;
    within = omega arith;
  }
]
  where
    list : bridges_in (p ∷ past) ≡ bridge (length past) (if p.bridged then length past + 1 else length past) ∷ bridges_in past
    list = cond-true p.starts _ (if p.bridged then longer (bridges_in past) else bridges_in past) new

-- a bridge that goes on, or is over
kept_on : {A : Type 0} (p : Period A) (past : List (Period A)) (s : ℕ) → p.starts ≡ false → (p.bridged ≡ true → in_bridge past ≡ true) → Latest past s →
    Latest (p ∷ past) s
kept_on p past s old c l = elim (cases_Bool p.bridged) [
  | inl goes ↦
      let to = l.goes_on (c goes) in
      record {
        to = l.to + 1;
        earlier = l.earlier;
        is = list ∙ cond-true p.bridged (longer (bridges_in past)) (bridges_in past) goes ∙ ap longer l.is;
        at = λ h m. elim (cases_lt h (length past)) [
          | inl before ↦ hands_at-old p past h before ∙ l.at h m ∙ lt-ltb h l.to (omega arith) ∙ sym (lt-ltb h (l.to + 1) (omega arith))
          | inr after ↦ elim (cases_lt (length past) h) [
            | inl later ↦ hands_at-late (p ∷ past) h later ∙ sym (le-ltb h (l.to + 1) (omega arith))
            | inr now ↦ hands_at-new p past h (omega arith) ∙ goes ∙ sym (lt-ltb h (l.to + 1) (omega arith))
          ]
        ];
        goes_on = λ b. omega arith;
        within = omega arith;
      }
  | inr out ↦
      let within = l.within in
      record {
        to = l.to;
        earlier = l.earlier;
        is = list ∙ cond-false p.bridged (longer (bridges_in past)) (bridges_in past) out ∙ l.is;
        at = λ h m. elim (cases_lt h (length past)) [
          | inl before ↦ hands_at-old p past h before ∙ l.at h m
          | inr after ↦ outside p past h out after ∙ sym (le-ltb h l.to (omega arith))
        ];
        goes_on = λ b. let q : true ≡ false = sym b ∙ out in cc;
        within = omega arith;
      }
]
  where
    list : bridges_in (p ∷ past) ≡ (if p.bridged then longer (bridges_in past) else bridges_in past)
    list = cond-false p.starts _ (if p.bridged then longer (bridges_in past) else bridges_in past) old

-- no bridge goes on in a period that starts none, but where it went on before
pub went_on : {A : Type 0} (p : Period A) (past : List (Period A)) → p.starts ≡ false → (p.bridged ≡ true → (p.starts || in_bridge past) ≡ true) →
    p.bridged ≡ true → in_bridge past ≡ true
went_on p past old c b = sym (ap (λ t. t || in_bridge past) old) ∙ c b

-- a bridge that starts in the newest period is the latest
pub start_now : {A : Type 0} (p : Period A) (past : List (Period A)) (s : ℕ) → p.starts ≡ true → latest_start (p ∷ past) ≡ Some s → length past ≡ s
start_now p past s new e = same (length past) s (sym (cond-true p.starts (Some (length past)) (latest_start past) new) ∙ e)
  where
    same : (a b : ℕ) → Some a ≡ Some b → a ≡ b
    same a b e = cc

-- where none starts the latest is that of the past
pub start_before : {A : Type 0} (p : Period A) (past : List (Period A)) (s : ℕ) → p.starts ≡ false → latest_start (p ∷ past) ≡ Some s →
    latest_start past ≡ Some s
start_before p past s old e = sym (cond-false p.starts (Some (length past)) (latest_start past) old) ∙ e

-- **The latest bridge has the periods from its start on that lie in a bridge.**
pub latest : {A : Type 0} (ps : List (Period A)) (s : ℕ) → IsHistory ps → latest_start ps ≡ Some s → Latest ps s
latest [] s h e = cc
latest (p ∷ past) s h e = elim (cases_Bool p.starts) [
  | inl new ↦ subst (Latest (p ∷ past)) (start_now p past s new e) (begun p past new)
  | inr old ↦ kept_on p past s old (went_on p past old h.2) (latest past s h.0 (start_before p past s old e))
]

-- without a start there is no bridge
pub no_bridge : {A : Type 0} (ps : List (Period A)) → latest_start ps ≡ None → bridges_in ps ≡ []
no_bridge [] e = refl
no_bridge (p ∷ past) e = elim (cases_Bool p.starts) [
  | inl new ↦ let q : Some (length past) ≡ None = sym (cond-true p.starts (Some (length past)) (latest_start past) new) ∙ e in cc
  | inr old ↦
      let before = no_bridge past (sym (cond-false p.starts (Some (length past)) (latest_start past) old) ∙ e) in
      cond-false p.starts _ (if p.bridged then longer (bridges_in past) else bridges_in past) old ∙
      ap (λ bs. if p.bridged then longer bs else bs) before ∙ cond_both p.bridged [] [] (λ (bs : List Bridge). bs ≡ []) (λ y. refl) (λ n. refl)
]

-- ---- later periods change no earlier frame

-- a bridge that goes on has started
pub started : {A : Type 0} (ps : List (Period A)) → IsHistory ps → in_bridge ps ≡ true → (s : ℕ) × (latest_start ps ≡ Some s)
started [] h b = let q : false ≡ true = b in cc
started (p ∷ past) h b = elim (cases_Bool p.starts) [
  | inl new ↦ (length past, cond-true p.starts (Some (length past)) (latest_start past) new)
  | inr old ↦
      let before = started past h.0 (went_on p past old h.2 b) in
      (before.0, cond-false p.starts (Some (length past)) (latest_start past) old ∙ before.1)
]

-- the periods up to an earlier one
pub so_far : {A : Type 0} (more ps : List (Period A)) → IsHistory (more ++ ps) → IsHistory ps
so_far [] ps h = h
so_far (q ∷ more) ps h = so_far more ps h.0

-- a bridge that started by period p and still goes on was going on in it
pub still : {A : Type 0} (more : List (Period A)) (p : Period A) (past : List (Period A)) (s : ℕ) → IsHistory (more ++ p ∷ past) →
    latest_start (more ++ p ∷ past) ≡ Some s →
    in_bridge (more ++ p ∷ past) ≡ true → s ≤ length past → (latest_start (p ∷ past) ≡ Some s) × (p.bridged ≡ true)
still [] p past s h e b l = (e, b)
still (q ∷ more) p past s h e b l = elim (cases_Bool q.starts) [
  | inl new ↦
      let n = length-append more (p ∷ past) in
      let q : length (more ++ p ∷ past) ≡ s = start_now q (more ++ p ∷ past) s new e in
      absurd (omega arith)
  | inr old ↦ still more p past s h.0 (start_before q (more ++ p ∷ past) s old e) (went_on q (more ++ p ∷ past) old h.2 b) l
]
