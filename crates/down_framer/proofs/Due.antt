-- For crates above: which handed item is due, which periods hand one over, and when a period makes a frame.
use Rattle.std.proofs.Common.{◌≡◌, refl, ap, ◌∙◌, ℕ, ◌+◌, ◌*◌, ◌≤◌, ◌<◌, suc, ℤ, pos, Bool, true, false, if◌then◌else◌, nat_le, Option, Some, None, List, []}
use Rattle.std.proofs.Common.{◌∷◌, length, filter, arith, inl, inr}
use Rattle.std.specs.Prelude.{◌==◌}
use Rattle.std.proofs.lemmas.Bool.{cases_lt, lt-leb, le-leb, eq-eqb, ne_eqb, cond_both, cond-true, cond-false}
use Rattle.time_align.specs.Shift.{latest_shift}
use Rattle.down_framer.specs.Made.{counted_fields, Period, MadeFrame, octets_to_next, next_start, latest_start, hands_at, made_from, handed_due, next_frame}
use Rattle.down_framer.specs.Made.{grown, made_frames}

-- a period that is to come hands nothing over
pub hands_at-late : {A : Type 0} (ps : List (Period A)) (h : ℕ) → length ps ≤ h → hands_at h ps ≡ false
hands_at-late [] h l = refl
hands_at-late (p ∷ past) h l =
    cond-false (h == length past) p.bridged (hands_at h past) (ne_eqb h (length past) (omega arith)) ∙ hands_at-late past h (omega arith)

-- the newest period
pub hands_at-new : {A : Type 0} (p : Period A) (past : List (Period A)) (h : ℕ) → h ≡ length past → hands_at h (p ∷ past) ≡ p.bridged
hands_at-new p past h e = cond-true (h == length past) p.bridged (hands_at h past) (eq-eqb h (length past) e)

-- an older one
pub hands_at-old : {A : Type 0} (p : Period A) (past : List (Period A)) (h : ℕ) → h < length past → hands_at h (p ∷ past) ≡ hands_at h past
hands_at-old p past h l = cond-false (h == length past) p.bridged (hands_at h past) (ne_eqb h (length past) (omega arith))

-- ---- how many frames were made since

-- of the frames since s one more is made
pub made_from-next : {A : Type 0} (p : Period A) (past : List (Period A)) (fs : List (MadeFrame A)) (s : ℕ) → s ≤ length past →
    made_from s (next_frame p past fs ∷ fs) ≡ suc (made_from s fs)
made_from-next p past fs s l =
    ap length
    (cond-true (nat_le s (length past)) (next_frame p past fs ∷ filter (λ f. nat_le s f.period) fs) (filter (λ f. nat_le s f.period) fs)
    (le-leb s (length past) l))

-- a frame before s is none of them
pub made_from-early : {A : Type 0} (p : Period A) (past : List (Period A)) (fs : List (MadeFrame A)) (s : ℕ) → length past < s →
    made_from s (next_frame p past fs ∷ fs) ≡ made_from s fs
made_from-early p past fs s l =
    ap length
    (cond-false (nat_le s (length past)) (next_frame p past fs ∷ filter (λ f. nat_le s f.period) fs) (filter (λ f. nat_le s f.period) fs) (lt-leb _ _ l))

-- ---- a period that makes no frame, and one whose first frame carries

-- without the octets of a frame a period makes none
pub none_made : {A : Type 0} (p : Period A) (past : List (Period A)) (fs : List (MadeFrame A)) → 160 * length past < next_start fs → grown p past fs ≡ fs
none_made p past fs l = cond-false (nat_le (next_start fs) (160 * length past)) (next_frame p past fs ∷ fs) fs (lt-leb _ _ l)

-- with them it makes the next one
pub one_made : {A : Type 0} (p : Period A) (past : List (Period A)) (fs : List (MadeFrame A)) → next_start fs ≤ 160 * length past →
    grown p past fs ≡ next_frame p past fs ∷ fs
one_made p past fs l = cond-true (nat_le (next_start fs) (160 * length past)) (next_frame p past fs ∷ fs) fs (le-leb _ _ l)

-- a frame that carries something has no shift
pub zero_if : (o : Option ℕ) (v : ℤ) (h : ℕ) → o ≡ Some h → (elim o [ None ↦ v | Some h ↦ pos 0 ]) ≡ pos 0
zero_if o v h e = ap (λ (o : Option ℕ). elim o as (λ x. ℤ) [ None ↦ v | Some h ↦ pos 0 ]) e

-- so the next one starts 160 octets later
pub no_shift : {A : Type 0} (p : Period A) (past : List (Period A)) (fs : List (MadeFrame A)) (h : ℕ) → handed_due (p ∷ past) fs ≡ Some h →
    next_start (next_frame p past fs ∷ fs) ≡ next_start fs + 160
no_shift p past fs h e = ap (λ v. next_start fs + octets_to_next v) (zero_if (handed_due (p ∷ past) fs) (latest_shift (counted_fields (p ∷ past) fs)) h e)

-- the handed frame that is due, by the latest start
due_by : {A : Type 0} (ps : List (Period A)) (fs : List (MadeFrame A)) (s : ℕ) → latest_start ps ≡ Some s →
    handed_due ps fs ≡ (if hands_at (s + made_from s fs) ps then Some (s + made_from s fs) else None)
due_by ps fs s e =
    ap (λ (o : Option ℕ). elim o as (λ x. Option ℕ) [ None ↦ None | Some s ↦ if hands_at (s + made_from s fs) ps then Some (s + made_from s fs) else None ]) e

-- the item of the latest bridge that is due
pub due-some : {A : Type 0} (ps : List (Period A)) (fs : List (MadeFrame A)) (s : ℕ) → latest_start ps ≡ Some s → hands_at (s + made_from s fs) ps ≡ true →
    handed_due ps fs ≡ Some (s + made_from s fs)
due-some ps fs s e b = due_by ps fs s e ∙ cond-true (hands_at (s + made_from s fs) ps) (Some (s + made_from s fs)) None b

-- none is due past the bridge
pub due-none : {A : Type 0} (ps : List (Period A)) (fs : List (MadeFrame A)) (s : ℕ) → latest_start ps ≡ Some s → hands_at (s + made_from s fs) ps ≡ false →
    handed_due ps fs ≡ None
due-none ps fs s e b = due_by ps fs s e ∙ cond-false (hands_at (s + made_from s fs) ps) (Some (s + made_from s fs)) None b

-- a period whose first frame carries makes just this one
pub carries_one : {A : Type 0} (p : Period A) (past : List (Period A)) (fs : List (MadeFrame A)) (h : ℕ) → handed_due (p ∷ past) fs ≡ Some h →
    next_start fs ≤ 160 * length past → 160 * length past < next_start fs + 160 → grown p past (grown p past fs) ≡ next_frame p past fs ∷ fs
carries_one p past fs h e up low =
    let n = no_shift p past fs h e in
    ap (grown p past) (one_made p past fs up) ∙ none_made p past (next_frame p past fs ∷ fs) (omega arith)

-- a period without the octets of a frame makes none in two tries
pub makes_none : {A : Type 0} (p : Period A) (past : List (Period A)) (fs : List (MadeFrame A)) → 160 * length past < next_start fs →
    grown p past (grown p past fs) ≡ fs
makes_none p past fs l = ap (grown p past) (none_made p past fs l) ∙ none_made p past fs l

-- ---- one more period

-- a try before s adds nothing to the frames since s
grown-early : {A : Type 0} (p : Period A) (past : List (Period A)) (fs : List (MadeFrame A)) (s : ℕ) → length past < s →
    made_from s (grown p past fs) ≡ made_from s fs
grown-early p past fs s l =
    cond_both (nat_le (next_start fs) (160 * length past)) (next_frame p past fs ∷ fs) fs (λ gs. made_from s gs ≡ made_from s fs)
    (λ yes. made_from-early p past fs s l) (λ no. refl)

-- none was made in periods that are to come
pub made_from-zero : {A : Type 0} (ps : List (Period A)) (s : ℕ) → length ps ≤ s → made_from s (made_frames ps) ≡ 0
made_from-zero [] s l = refl
made_from-zero (p ∷ past) s l =
    grown-early p past (grown p past (made_frames past)) s (omega arith) ∙ grown-early p past (made_frames past) s (omega arith)
    ∙ made_from-zero past s (omega arith)

-- a try makes no frame fewer
grown-later : {A : Type 0} (p : Period A) (past : List (Period A)) (fs : List (MadeFrame A)) (s : ℕ) → s ≤ length past →
    made_from s fs ≤ made_from s (grown p past fs)
grown-later p past fs s l =
    cond_both (nat_le (next_start fs) (160 * length past)) (next_frame p past fs ∷ fs) fs (λ gs. made_from s fs ≤ made_from s gs)
    (λ yes. let e = made_from-next p past fs s l in omega arith) (λ no. omega arith)

-- nor do two
pub made-later : {A : Type 0} (p : Period A) (past : List (Period A)) (fs : List (MadeFrame A)) (s : ℕ) → s ≤ length past →
    made_from s fs ≤ made_from s (grown p past (grown p past fs))
made-later p past fs s l = let a = grown-later p past fs s l in let b = grown-later p past (grown p past fs) s l in omega arith

-- the latest bridge started in one of the periods
pub latest_start-below : {A : Type 0} (ps : List (Period A)) (s : ℕ) → latest_start ps ≡ Some s → s < length ps
latest_start-below [] s e = cc
latest_start-below (p ∷ past) s e = go p.starts (latest_start past) (latest_start-below past s) e
  where
    go : (b : Bool) (o : Option ℕ) → (o ≡ Some s → s < length past) → (if b then Some (length past) else o) ≡ Some s → s < suc (length past)
    go true o h e = let q : length past ≡ s = cc in omega arith
    go false o h e = let q = h e in omega arith

-- a period outside of a bridge
pub outside : {A : Type 0} (p : Period A) (past : List (Period A)) (h : ℕ) → p.bridged ≡ false → length past ≤ h → hands_at h (p ∷ past) ≡ false
outside p past h b l = elim (cases_lt (length past) h) [
  | inl later ↦ hands_at-late (p ∷ past) h later
  | inr here ↦ hands_at-new p past h (omega arith) ∙ b
]
