-- The queue of frames that wait, when one more frame is made.
use Rattle.std.proofs.Common.{◌≡◌, refl, sym, ap, ◌∙◌, ℕ, ◌+◌, ◌-◌, ◌<◌, suc, ℤ, pos, Bool, true, false, not, ◌&&◌, ◌||◌, if◌then◌else◌, Option, Some, None}
use Rattle.std.proofs.Common.{is_none, is_some, find, List, [], ◌∷◌, length, map, take, drop, slice_get, arith}
use Rattle.std.specs.Prelude.{◌==◌}
use Rattle.std.proofs.lemmas.Bool.{cond-true, cond-false, ne_eqb}
use Rattle.time_align.specs.Shift.{latest_ask}
use Rattle.down_framer.specs.Made.{Period, MadeFrame, latest_start, made_from, hands_at, handed_due, counted_fields, next_frame}
use Rattle.down_framer.proofs.Due.{made_from-next, latest_start-below}
use Rattle.call_leg.specs.Periods.{CallPeriod}
use Rattle.call_leg.specs.Down.{CallFrame, down_period, down_periods}
use Rattle.call_leg.specs.Waiting.{place_at, due_at, bits_in, Waits}

-- ---- the next one that is due stands first

-- the frame that is due next is the first that waits
pub due-first : {A : Type 0} (ps : List (Period A)) (fs : List (MadeFrame A)) → handed_due ps fs ≡ due_at ps fs 0
due-first ps fs = go (latest_start ps)
  where
    go : (o : Option ℕ) → (elim o as (λ x. Option ℕ) [ None ↦ None | Some s ↦ if hands_at (s + made_from s fs) ps then Some (s + made_from s fs) else None ])
        ≡ place_at ps fs 0 o
    go None = refl
    go (Some s) = let e : s + made_from s fs ≡ s + made_from s fs + 0 = omega arith in ap (λ h. if hands_at h ps then Some h else None) e

-- once a frame is made, all move up
pub due-next : {A : Type 0} (p : Period A) (past : List (Period A)) (fs : List (MadeFrame A)) (n : ℕ) → due_at (p ∷ past) (next_frame p past fs ∷ fs) n
    ≡ due_at (p ∷ past) fs (suc n)
due-next p past fs n = go (latest_start (p ∷ past)) (λ s e. latest_start-below (p ∷ past) s e)
  where
    go : (o : Option ℕ) → ((s : ℕ) → o ≡ Some s → s < suc (length past)) → place_at (p ∷ past) (next_frame p past fs ∷ fs) n o
        ≡ place_at (p ∷ past) fs (suc n) o
    go None h = refl
    go (Some s) h =
        let l = h s refl in
        let m = made_from-next p past fs s (omega arith) in
        let e : s + made_from s (next_frame p past fs ∷ fs) + n ≡ s + made_from s fs + suc n = omega arith in
        ap (λ h. if hands_at h (p ∷ past) then Some h else None) e

get-drop : (q : List (List ℕ)) (n : ℕ) → slice_get (drop 1 q) n ≡ slice_get q (suc n)
get-drop [] n = refl
get-drop (x ∷ xs) n = refl

-- a frame takes the first that waits
pub waits-next : (t : CallPeriod) (past : List CallPeriod) (fs : List CallFrame) (q : List (List ℕ)) → Waits (t ∷ past) fs q →
    Waits (t ∷ past) (next_frame (down_period t past) (down_periods past) fs ∷ fs) (drop 1 q)
waits-next t past fs q h = record {
  each = λ n. get-drop q n ∙ h.each (suc n) ∙ sym (ap (bits_in (t ∷ past)) (due-next (down_period t past) (down_periods past) fs n));
}

-- the first that waits is what the due period was handed
pub waits-first : (ts : List CallPeriod) (fs : List CallFrame) (q : List (List ℕ)) → Waits ts fs q → slice_get q 0
    ≡ bits_in ts (handed_due (down_periods ts) fs)
waits-first ts fs q h = h.each 0 ∙ sym (ap (bits_in ts) (due-first (down_periods ts) fs))

is_some-bits_in : (ts : List CallPeriod) (o : Option ℕ) → is_some (bits_in ts o) ≡ is_some o
is_some-bits_in ts None = refl
is_some-bits_in ts (Some h) = refl

not_empty : (q : List (List ℕ)) → not (length q == 0) ≡ is_some (slice_get q 0)
not_empty [] = refl
not_empty (x ∷ xs) = ap not (ne_eqb (suc (length xs)) 0 (λ e. omega arith))

-- whether one waits
pub waits-some : (ts : List CallPeriod) (fs : List CallFrame) (q : List (List ℕ)) → Waits ts fs q → not (length q == 0)
    ≡ is_some (handed_due (down_periods ts) fs)
waits-some ts fs q h = not_empty q ∙ ap is_some (waits-first ts fs q h) ∙ is_some-bits_in ts (handed_due (down_periods ts) fs)

none_after : (q : List (List ℕ)) → is_some (slice_get q 0) ≡ false → is_some (slice_get (drop 1 q) 0) ≡ false
none_after [] e = refl
none_after (x ∷ xs) e = cc

-- where none is due, none is due after one more frame
pub none_due : (t : CallPeriod) (past : List CallPeriod) (fs : List CallFrame) (q : List (List ℕ)) → Waits (t ∷ past) fs q →
    is_some (handed_due (down_periods (t ∷ past)) fs) ≡ false →
    is_some (handed_due (down_periods (t ∷ past)) (next_frame (down_period t past) (down_periods past) fs ∷ fs)) ≡ false
none_due t past fs q h e =
    let ts : List CallPeriod = t ∷ past in
    let fs1 : List CallFrame = next_frame (down_period t past) (down_periods past) fs ∷ fs in
    let w = waits-next t past fs q h in
    let a : is_some (slice_get q 0) ≡ false = ap is_some (waits-first ts fs q h) ∙ is_some-bits_in ts (handed_due (down_periods ts) fs) ∙ e in
    sym (is_some-bits_in ts (handed_due (down_periods ts) fs1)) ∙ sym (ap is_some (waits-first ts fs1 (drop 1 q) w)) ∙ none_after q a

-- ---- the frozen flag, and the shift

-- the shifts thaw where none waits any more
pub thawed : (h b b' : Bool) → (b ≡ false → b' ≡ false) → ((h || b) && (h || b')) ≡ (h || b')
thawed true b b' k = refl
thawed false true b' k = refl
thawed false false b' k = sym (k refl)

-- a frame that carries something adopts no shift
pub adopted : (o : Option ℕ) (handed frozen : Bool) (v w : ℤ) → frozen ≡ (handed || is_some o) → (handed ≡ true → o ≡ None → ⊥) → v ≡ w →
    (if frozen then pos 0 else v) ≡ (elim o as (λ x. ℤ) [ None ↦ w | Some h ↦ pos 0 ])
adopted (Some h) true frozen v w e n q = cond-true frozen (pos 0) v e
adopted (Some h) false frozen v w e n q = cond-true frozen (pos 0) v e
adopted None true frozen v w e n q = absurd (n refl refl)
adopted None false frozen v w e n q = cond-false frozen (pos 0) v e ∙ q

-- a frame that carries something leaves the fields since the last that doesn't
since-carries : {A : Type 0} (ps : List (Period A)) (f : MadeFrame A) (fs : List (MadeFrame A)) (h : ℕ) → f.carries ≡ Some h → counted_fields ps (f ∷ fs)
    ≡ counted_fields ps fs
since-carries ps f fs h e =
    ap (λ (o : Option ℕ). elim (if is_none o then Some f else find (λ g. is_none g.carries) fs) as (λ x. List (Option ℕ)) [
      | None ↦ map (λ p. p.field) ps
      | Some m ↦ take (length ps - (m.period + 1)) (map (λ p. p.field) ps)
    ]) e

-- a frame that carries nothing starts the fields anew
since-none : {A : Type 0} (ps : List (Period A)) (f : MadeFrame A) (fs : List (MadeFrame A)) → f.carries ≡ None → length ps ≡ f.period + 1 →
    counted_fields ps (f ∷ fs) ≡ []
since-none ps f fs e l =
    let z : length ps - (f.period + 1) ≡ 0 = omega arith in
    ap (λ (o : Option ℕ). elim (if is_none o then Some f else find (λ g. is_none g.carries) fs) as (λ x. List (Option ℕ)) [
      | None ↦ map (λ p. p.field) ps
      | Some m ↦ take (length ps - (m.period + 1)) (map (λ p. p.field) ps)
    ]) e ∙ ap (λ n. take n (map (λ p. p.field) ps)) z

-- the kept shift, once a frame is made
pub kept-next : {A : Type 0} (ps : List (Period A)) (f : MadeFrame A) (fs : List (MadeFrame A)) (o : Option ℕ) (handed frozen : Bool) (old : Option ℤ) →
    f.carries ≡ o → length ps ≡ f.period + 1 →
    frozen ≡ (handed || is_some o) → (handed ≡ true → o ≡ None → ⊥) → old ≡ latest_ask (counted_fields ps fs) →
    (if frozen then old else None) ≡ latest_ask (counted_fields ps (f ∷ fs))
kept-next ps f fs (Some h) true frozen old c l e n q = cond-true frozen old None e ∙ q ∙ sym (ap latest_ask (since-carries ps f fs h c))
kept-next ps f fs (Some h) false frozen old c l e n q = cond-true frozen old None e ∙ q ∙ sym (ap latest_ask (since-carries ps f fs h c))
kept-next ps f fs None true frozen old c l e n q = absurd (n refl refl)
kept-next ps f fs None false frozen old c l e n q = cond-false frozen old None e ∙ sym (ap latest_ask (since-none ps f fs c l))
