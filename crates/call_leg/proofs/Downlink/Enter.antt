-- For crates above: the downlink's history has one period for each of the call's (`length-down_periods`).
-- A period begins: its octets are put, and what is handed over in it joins the queue.
use Rattle.std.proofs.Common.{◌≡◌, refl, sym, ap, ◌∙◌, ℕ, ◌+◌, ◌≤◌, ◌<◌, zero, suc, true, false, ◌||◌, if◌then◌else◌, Option, Some, None, is_some, unwrap_or}
use Rattle.std.proofs.Common.{List, [], ◌∷◌, ◌++◌, length, slice_get, option_to_list, arith, ◌⊎◌, inl, inr}
use Rattle.std.specs.Prelude.{◌==◌}
use Rattle.std.proofs.lemmas.Bool.{cond-true, cond-false, cases_Bool, cases_lt, eq-eqb, ne_eqb, true≢false}
use Rattle.down_framer.specs.Made.{Period, MadeFrame, latest_start, made_from, hands_at}
use Rattle.down_framer.specs.Bridges.{in_bridge, IsHistory}
use Rattle.down_framer.proofs.Due.{hands_at-late, hands_at-new, hands_at-old, made_from-zero, outside}
use Rattle.down_framer.proofs.Waiting.{Phase, phase}
use Rattle.call_leg.specs.Periods.{CallPeriod, handed_in}
use Rattle.call_leg.specs.Down.{CallFrame, down_period, down_periods, frames_of}
use Rattle.call_leg.specs.Waiting.{place_at, bits_in, Waits}
use Rattle.call_leg.proofs.Downlink.Queue.{waits-first}

pub length-down_periods : (ts : List CallPeriod) → length (down_periods ts) ≡ length ts
length-down_periods [] = refl
length-down_periods (t ∷ past) = ap suc (length-down_periods past)

-- ---- queues of one and none

-- none waits, and one does
pub get-none : (q : List (List ℕ)) → slice_get q 0 ≡ None → q ≡ []
get-none [] e = refl
get-none (x ∷ xs) e = cc

get-one : (q : List (List ℕ)) (x : List ℕ) → slice_get q 0 ≡ Some x → slice_get q 1 ≡ None → q ≡ x ∷ []
get-one [] x e n = cc
get-one (y ∷ ys) x e n = let z = get-none ys n in cc

-- ---- places in the queue

-- the period whose frame is due next, within a bridge and past it
pub place-some : {A : Type 0} (ps : List (Period A)) (fs : List (MadeFrame A)) (s n h : ℕ) → s + made_from s fs + n ≡ h → hands_at h ps ≡ true →
    place_at ps fs n (Some s) ≡ Some h
place-some ps fs s n h e b = ap (λ k. if hands_at k ps then Some k else None) e ∙ cond-true (hands_at h ps) (Some h) None b

pub place-none : {A : Type 0} (ps : List (Period A)) (fs : List (MadeFrame A)) (s n h : ℕ) → s + made_from s fs + n ≡ h → hands_at h ps ≡ false →
    place_at ps fs n (Some s) ≡ None
place-none ps fs s n h e b = ap (λ k. if hands_at k ps then Some k else None) e ∙ cond-false (hands_at h ps) (Some h) None b

-- what was handed over in the newest period
handed-new : (t : CallPeriod) (past : List CallPeriod) (h : ℕ) (x : List ℕ) → h ≡ length past → t.handed ≡ Some x → handed_in h (t ∷ past) ≡ x
handed-new t past h x e q = cond-true (h == length past) (unwrap_or t.handed []) (handed_in h past) (eq-eqb h (length past) e) ∙ ap (λ o. unwrap_or o []) q

-- what was handed over in an earlier period
handed-old : (t : CallPeriod) (past : List CallPeriod) (h : ℕ) → h < length past → handed_in h (t ∷ past) ≡ handed_in h past
handed-old t past h l = cond-false (h == length past) (unwrap_or t.handed []) (handed_in h past) (ne_eqb h (length past) (omega arith))

-- the newest period's own frame is the only one that waits
one_new : (t : CallPeriod) (past : List CallPeriod) (fs : List CallFrame) (s : ℕ) → s + made_from s fs ≡ length past → (n : ℕ) →
    slice_get (option_to_list t.handed) n ≡ bits_in (t ∷ past) (place_at (down_periods (t ∷ past)) fs n (Some s))
one_new t past fs s i n = go t.handed refl n
  where
    go : (o : Option (List ℕ)) → t.handed ≡ o → (n : ℕ) → slice_get (option_to_list o) n ≡ bits_in (t ∷ past) (place_at (down_periods (t ∷ past)) fs n (Some s))
    go None e n =
        let l = length-down_periods past in
        sym (ap (bits_in (t ∷ past)) (place-none (down_periods (t ∷ past)) fs s n (s + made_from s fs + n) refl
        (outside (down_period t past) (down_periods past) (s + made_from s fs + n) (ap is_some e) (omega arith))))
    go (Some x) e zero =
        let l = length-down_periods past in
        let b = hands_at-new (down_period t past) (down_periods past) (s + made_from s fs) (omega arith) ∙ ap is_some e in
        sym (ap (bits_in (t ∷ past)) (place-some (down_periods (t ∷ past)) fs s 0 (s + made_from s fs) (omega arith) b)
        ∙ ap (λ z. Some z) (handed-new t past (s + made_from s fs) x i e))
    go (Some x) e (suc n) =
        let l = length-down_periods past in
        sym (ap (bits_in (t ∷ past)) (place-none (down_periods (t ∷ past)) fs s (suc n) (s + made_from s fs + suc n) refl
        (hands_at-late (down_periods (t ∷ past)) (s + made_from s fs + suc n) (omega arith))))

-- one waits from before, and the period's own
one_more : (t : CallPeriod) (past : List CallPeriod) (fs : List CallFrame) (s : ℕ) → s + made_from s fs + 1 ≡ length past →
    hands_at (s + made_from s fs) (down_periods past) ≡ true → (n : ℕ) →
    slice_get (handed_in (s + made_from s fs) past ∷ option_to_list t.handed) n ≡ bits_in (t ∷ past) (place_at (down_periods (t ∷ past)) fs n (Some s))
one_more t past fs s i b n = go t.handed refl n
  where
    first : (xs : List (List ℕ)) → slice_get (handed_in (s + made_from s fs) past ∷ xs) 0
        ≡ bits_in (t ∷ past) (place_at (down_periods (t ∷ past)) fs 0 (Some s))
    first xs =
        let l = length-down_periods past in
        let o = hands_at-old (down_period t past) (down_periods past) (s + made_from s fs) (omega arith) ∙ b in
        sym (ap (bits_in (t ∷ past)) (place-some (down_periods (t ∷ past)) fs s 0 (s + made_from s fs) (omega arith) o)
        ∙ ap (λ z. Some z) (handed-old t past (s + made_from s fs) (omega arith)))

    go : (o : Option (List ℕ)) → t.handed ≡ o → (n : ℕ) → slice_get (handed_in (s + made_from s fs) past ∷ option_to_list o) n
        ≡ bits_in (t ∷ past) (place_at (down_periods (t ∷ past)) fs n (Some s))
    go o e zero = first (option_to_list o)
    go None e (suc n) =
        let l = length-down_periods past in
        sym (ap (bits_in (t ∷ past)) (place-none (down_periods (t ∷ past)) fs s (suc n) (s + made_from s fs + suc n) refl
        (outside (down_period t past) (down_periods past) (s + made_from s fs + suc n) (ap is_some e) (omega arith))))
    go (Some x) e (suc zero) =
        let l = length-down_periods past in
        let h = hands_at-new (down_period t past) (down_periods past) (s + made_from s fs + 1) (omega arith) ∙ ap is_some e in
        sym (ap (bits_in (t ∷ past)) (place-some (down_periods (t ∷ past)) fs s 1 (s + made_from s fs + 1) refl h)
        ∙ ap (λ z. Some z) (handed-new t past (s + made_from s fs + 1) x i e))
    go (Some x) e (suc (suc n)) =
        let l = length-down_periods past in
        sym (ap (bits_in (t ∷ past)) (place-none (down_periods (t ∷ past)) fs s (suc (suc n)) (s + made_from s fs + suc (suc n)) refl
        (hands_at-late (down_periods (t ∷ past)) (s + made_from s fs + suc (suc n)) (omega arith))))

-- none waits, and none is handed over
no_more : (t : CallPeriod) (past : List CallPeriod) (fs : List CallFrame) (s : ℕ) → t.handed ≡ None →
    ((h : ℕ) → s + made_from s fs ≤ h → hands_at h (down_periods past) ≡ false) → (n : ℕ) →
    slice_get (option_to_list t.handed) n ≡ bits_in (t ∷ past) (place_at (down_periods (t ∷ past)) fs n (Some s))
no_more t past fs s e o n =
    let b : hands_at (s + made_from s fs + n) (down_periods (t ∷ past)) ≡ false = elim (cases_lt (s + made_from s fs + n) (length (down_periods past))) [
      | inl old ↦ hands_at-old (down_period t past) (down_periods past) (s + made_from s fs + n) old ∙ o (s + made_from s fs + n) (omega arith)
      | inr here ↦ outside (down_period t past) (down_periods past) (s + made_from s fs + n) (ap is_some e) here
    ] in
    ap (λ o. slice_get (option_to_list o) n) e ∙ sym (ap (bits_in (t ∷ past)) (place-none (down_periods (t ∷ past)) fs s n (s + made_from s fs + n) refl b))

-- without any start there is no bridge
pub not_begun : {A : Type 0} (ps : List (Period A)) → IsHistory ps → latest_start ps ≡ None → in_bridge ps ≡ false
not_begun [] h e = refl
not_begun (p ∷ past) h e = go (cases_Bool p.starts) (cases_Bool p.bridged) (not_begun past h.0)
  where
    go : (p.starts ≡ true) ⊎ (p.starts ≡ false) → (p.bridged ≡ true) ⊎ (p.bridged ≡ false) → (latest_start past ≡ None → in_bridge past ≡ false) →
        p.bridged ≡ false
    go s (inr n) k = n
    go (inl es) (inl y) k = let q : Some (length past) ≡ None = sym (cond-true p.starts (Some (length past)) (latest_start past) es) ∙ e in cc
    go (inr es) (inl y) k =
        let q : latest_start past ≡ None = sym (cond-false p.starts (Some (length past)) (latest_start past) es) ∙ e in
        let i : in_bridge past ≡ true = sym (ap (λ z. z || in_bridge past) es) ∙ h.2 y in
        let j : in_bridge past ≡ false = k q in
        let z : true ≡ false = sym i ∙ j in
        cc

handed_none : (t : CallPeriod) → is_some t.handed ≡ false → t.handed ≡ None
handed_none t e = go t.handed e
  where
    go : (o : Option (List ℕ)) → is_some o ≡ false → o ≡ None
    go None e = refl
    go (Some x) e = cc

-- ---- the queue at the start of a period

-- what waits, with one period more: before the first bridge
enter_first : (t : CallPeriod) (past : List CallPeriod) (fs : List CallFrame) (q : List (List ℕ)) → t.handed ≡ None → latest_start (down_periods (t ∷ past))
    ≡ None → q ≡ [] → Waits (t ∷ past) fs (q ++ option_to_list t.handed)
enter_first t past fs q h e z = record {
  each = λ n. ap (λ o. slice_get (q ++ option_to_list o) n) h ∙ ap (λ q. slice_get (q ++ []) n) z
      ∙ sym (ap (λ o. bits_in (t ∷ past) (place_at (down_periods (t ∷ past)) fs n o)) e);
}

-- what waits, with one period more: in the latest bridge
enter_by : (t : CallPeriod) (past : List CallPeriod) (fs : List CallFrame) (q r : List (List ℕ)) (s : ℕ) → latest_start (down_periods (t ∷ past)) ≡ Some s →
    q ≡ r →
    ((n : ℕ) → slice_get (r ++ option_to_list t.handed) n ≡ bits_in (t ∷ past) (place_at (down_periods (t ∷ past)) fs n (Some s))) →
    Waits (t ∷ past) fs (q ++ option_to_list t.handed)
enter_by t past fs q r s e z f = record {
  each = λ n. ap (λ q. slice_get (q ++ option_to_list t.handed) n) z ∙ f n ∙ sym (ap (λ o. bits_in (t ∷ past) (place_at (down_periods (t ∷ past)) fs n o)) e);
}

-- what the queue was, by where the latest bridge started
pub was : (past : List CallPeriod) (fs : List CallFrame) (q : List (List ℕ)) (o : Option ℕ) → Waits past fs q → latest_start (down_periods past) ≡ o → (n : ℕ) →
    slice_get q n ≡ bits_in past (place_at (down_periods past) fs n o)
was past fs q o w e n = w.each n ∙ ap (λ o. bits_in past (place_at (down_periods past) fs n o)) e

-- **What waits, with one period more.**
pub waits-enter : (t : CallPeriod) (past : List CallPeriod) (q : List (List ℕ)) → IsHistory (down_periods (t ∷ past)) → Waits past (frames_of past) q →
    Waits (t ∷ past) (frames_of past) (q ++ option_to_list t.handed)
waits-enter t past q h w = go (cases_Bool t.starts) (latest_start (down_periods past)) refl
  where
    goes : t.starts ≡ false → (s : ℕ) → latest_start (down_periods past) ≡ Some s → Phase s (down_periods past) (frames_of past) →
        Waits (t ∷ past) (frames_of past) (q ++ option_to_list t.handed)
    goes es s e (inl v) =
        let l = length-down_periods past in
        let e1 = cond-false t.starts (Some (length (down_periods past))) (latest_start (down_periods past)) es ∙ e in
        let z : q ≡ [] = get-none q (was past (frames_of past) q (Some s) w e 0
        ∙ ap (bits_in past) (place-none (down_periods past) (frames_of past) s 0 (s + made_from s (frames_of past)) (omega arith)
        (v.over (s + made_from s (frames_of past)) (omega arith)))) in
        elim (cases_Bool (is_some t.handed)) [
          | inl y ↦ let x = v.exact (sym (ap (λ z. z || in_bridge (down_periods past)) es) ∙ h.2 y) in
              enter_by t past (frames_of past) q [] s e1 z (one_new t past (frames_of past) s (omega arith))
          | inr n ↦ enter_by t past (frames_of past) q [] s e1 z (no_more t past (frames_of past) s (handed_none t n) v.over)
        ]
    goes es s e (inr b) =
        let l = length-down_periods past in
        let late = b.newest in
        let e1 = cond-false t.starts (Some (length (down_periods past))) (latest_start (down_periods past)) es ∙ e in
        let first = was past (frames_of past) q (Some s) w e 0
        ∙ ap (bits_in past) (place-some (down_periods past) (frames_of past) s 0 (s + made_from s (frames_of past)) (omega arith) b.waits) in
        let second = was past (frames_of past) q (Some s) w e 1
        ∙ ap (bits_in past) (place-none (down_periods past) (frames_of past) s 1 (s + made_from s (frames_of past) + 1) refl
        (hands_at-late (down_periods past) (s + made_from s (frames_of past) + 1) (omega arith))) in
        enter_by t past (frames_of past) q (handed_in (s + made_from s (frames_of past)) past ∷ []) s e1
        (get-one q (handed_in (s + made_from s (frames_of past)) past) first second)
        (one_more t past (frames_of past) s (omega arith) b.waits)

    go : (t.starts ≡ true) ⊎ (t.starts ≡ false) → (o : Option ℕ) → latest_start (down_periods past) ≡ o →
        Waits (t ∷ past) (frames_of past) (q ++ option_to_list t.handed)
    go (inl y) o e =
        let l = length-down_periods past in
        let e1 = cond-true t.starts (Some (length (down_periods past))) (latest_start (down_periods past)) y in
        let z : q ≡ [] = get-none q (waits-first past (frames_of past) q w ∙ ap (bits_in past) (h.1 y)) in
        let m = made_from-zero (down_periods past) (length (down_periods past)) (omega arith) in
        enter_by t past (frames_of past) q [] (length (down_periods past)) e1 z (one_new t past (frames_of past) (length (down_periods past)) (omega arith))
    go (inr n) None e =
        let e1 = cond-false t.starts (Some (length (down_periods past))) (latest_start (down_periods past)) n ∙ e in
        let z : q ≡ [] = get-none q (was past (frames_of past) q None w e 0) in
        elim (cases_Bool (is_some t.handed)) [
          | inl y ↦ let i : in_bridge (down_periods past) ≡ true = sym (ap (λ z. z || in_bridge (down_periods past)) n) ∙ h.2 y in
              let j = not_begun (down_periods past) h.0 e in
              let z : true ≡ false = sym i ∙ j in absurd (true≢false z)
          | inr k ↦ enter_first t past (frames_of past) q (handed_none t k) e1 z
        ]
    go (inr n) (Some s) e = goes n s e (phase (down_periods past) s h.0 e)
