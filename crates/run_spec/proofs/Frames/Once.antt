-- Each handed frame is carried once, and in order.
use Rattle.std.proofs.Common.{◌≡◌, refl, sym, ap, ◌∙◌, subst, ℕ, ◌+◌, ◌*◌, ◌<◌, ◌≤◌, Bool, true, false, Option, Some, None, List, [], ◌∷◌, length, inl, inr}
use Rattle.std.proofs.Common.{arith, ◌-◌, min}
use Rattle.std.specs.Prelude.{◌&&◌, filter, nat_le, nat_lt, if◌then◌else◌}
use Rattle.std.specs.List.{AllByRecursion}
use Rattle.std.proofs.lemmas.Bool.{leb-true, ltb-true, cases_Bool, cond_both}
use Rattle.down_framer.specs.Made.{Period, MadeFrame, next_start, latest_start, hands_at, made_from, handed_due, next_frame, grown, made_frames}
use Rattle.down_framer.proofs.Due.{due-some, due-none, made_from-next, latest_start-below}
use Rattle.run_spec.specs.Facts.{carries_in}
use Rattle.run_spec.proofs.Lists.{each_weaker}
use Rattle.run_spec.proofs.Frames.Carried.{Carries, AreCarried, due_parts, made_carried, sent_of}

-- what these frames carry was handed over before period b
abbrev CarryBelow : {A : Type 0} → ℕ → List (MadeFrame A) → Type 0
CarryBelow b fs = AllByRecursion (λ f. (h : ℕ) → f.carries ≡ Some h → h < b) fs

-- a later frame carries what was handed over later
abbrev Follow : {A : Type 0} → List (MadeFrame A) → Type 0
Follow [] = Unit {0}
Follow (f ∷ fs) = ((h : ℕ) → f.carries ≡ Some h → CarryBelow h fs) × Follow fs

below_more : {A : Type 0} (b c : ℕ) (fs : List (MadeFrame A)) → b ≤ c → CarryBelow b fs → CarryBelow c fs
below_more b c fs l k =
    each_weaker (λ f. (h : ℕ) → f.carries ≡ Some h → h < b) (λ f. (h : ℕ) → f.carries ≡ Some h → h < c) fs (λ f k h e. let m = k h e in omega arith) k

-- as many as periods are left before it, at most
sent_below : {A : Type 0} (s e b : ℕ) (fs : List (MadeFrame A)) → Follow fs → CarryBelow b fs → sent_of s e fs ≤ min b e - s
sent_below s e b [] h k = omega arith
sent_below s e b (f ∷ fs) h k = by f.carries (h.0) (k.0) (sent_below s e b fs h.1 k.1) (λ c below. sent_below s e c fs h.1 below)
  where
    by : (o : Option ℕ) → ((h : ℕ) → o ≡ Some h → CarryBelow h fs) → ((h : ℕ) → o ≡ Some h → h < b) → sent_of s e fs ≤ min b e - s →
        ((c : ℕ) → CarryBelow c fs → sent_of s e fs ≤ min c e - s) →
        length (if carries_in s e o then f ∷ filter (λ f. carries_in s e f.carries) fs else filter (λ f. carries_in s e f.carries) fs) ≤ min b e - s
    by None above below rest at = rest
    by (Some h) above below rest at = go (nat_le s h) (nat_lt h e) refl refl
      where
        go : (p q : Bool) → nat_le s h ≡ p → nat_lt h e ≡ q →
            length (if p && q then f ∷ filter (λ f. carries_in s e f.carries) fs else filter (λ f. carries_in s e f.carries) fs) ≤ min b e - s
        go true true x y =
            let l = leb-true s h x in
            let m = ltb-true h e y in
            let n = below h refl in
            let k = at h (above h refl) in
            omega arith
        go true false x y = rest
        go false q x y = rest

-- the frames so far carry what was handed over before the one that is next
record IsBehind {A : Type 0} (ps : List (Period A)) (fs : List (MadeFrame A)) : Type 0 where
  follow : Follow fs
  behind : (s : ℕ) → latest_start ps ≡ Some s → CarryBelow (s + made_from s fs) fs

-- what is due is that of the latest bridge
due_is : {A : Type 0} (ps : List (Period A)) (fs : List (MadeFrame A)) (s h : ℕ) → latest_start ps ≡ Some s → handed_due ps fs ≡ Some h → h ≡ s + made_from s fs
due_is ps fs s h e d = elim (cases_Bool (hands_at (s + made_from s fs) ps)) [
  | inl b ↦ let g = due-some ps fs s e b in cc
  | inr b ↦ absurd (let g = due-none ps fs s e b in cc)
]

-- a try keeps it
grown_behind : {A : Type 0} (p : Period A) (past : List (Period A)) (fs : List (MadeFrame A)) → IsBehind (p ∷ past) fs → IsBehind (p ∷ past) (grown p past fs)
grown_behind p past fs k =
    cond_both (nat_le (next_start fs) (160 * length past)) (next_frame p past fs ∷ fs) fs (IsBehind (p ∷ past))
    (λ y. record {
      follow = (
        λ h e. let d = due_parts (p ∷ past) fs h e in subst (λ (h : ℕ). CarryBelow h fs) (sym (due_is (p ∷ past) fs d.0 h d.1 e)) (k.behind d.0 d.1),
        k.follow,
      );
      behind = λ s e.
          let low : s ≤ length past = (let l = latest_start-below (p ∷ past) s e in omega arith) in
          let more = made_from-next p past fs s low in (
            λ h d. let q = due_is (p ∷ past) fs s h e d in omega arith,
            below_more (s + made_from s fs) (s + made_from s (next_frame p past fs ∷ fs)) fs (omega arith) (k.behind s e),
          );
    })
    (λ n. k)

-- and so does a period
period_behind : {A : Type 0} (p : Period A) (past : List (Period A)) (fs : List (MadeFrame A)) → AreCarried past fs → IsBehind past fs → IsBehind (p ∷ past) fs
period_behind p past fs c k = record { follow = k.follow; behind = by p.starts refl }
  where
    by : (b : Bool) → p.starts ≡ b → (s : ℕ) → latest_start (p ∷ past) ≡ Some s → CarryBelow (s + made_from s fs) fs
    by true e s l =
        let q : length past ≡ s = (let m = ap (λ (b : Bool). if b then Some (length past) else latest_start past) e in cc) in
        below_more (length past) (s + made_from s fs) fs (omega arith)
        (each_weaker (λ f. (h : ℕ) → f.carries ≡ Some h → Carries past f.epoch h) (λ f. (h : ℕ) → f.carries ≡ Some h → h < length past) fs
        (λ f g h d. (g h d).inside) c)
    by false e s l = k.behind s (sym (ap (λ (b : Bool). if b then Some (length past) else latest_start past) e) ∙ l)

-- **All that is carried was handed over before what is due.**
made_behind : {A : Type 0} (ps : List (Period A)) → IsBehind ps (made_frames ps)
made_behind [] = record { follow = tt; behind = λ s e. tt }
made_behind (p ∷ past) =
    grown_behind p past (grown p past (made_frames past))
    (grown_behind p past (made_frames past) (period_behind p past (made_frames past) (made_carried past) (made_behind past)))

-- **No more frames are sent of a span than it has periods.**
pub sent_few : {A : Type 0} (s e : ℕ) (ps : List (Period A)) → sent_of s e (made_frames ps) ≤ e - s
sent_few s e ps =
    let m = sent_below s e (length ps) (made_frames ps) (made_behind ps).follow
    (each_weaker (λ f. (h : ℕ) → f.carries ≡ Some h → Carries ps f.epoch h) (λ f. (h : ℕ) → f.carries ≡ Some h → h < length ps) (made_frames ps)
    (λ f g h d. (g h d).inside) (made_carried ps)) in
    omega arith
