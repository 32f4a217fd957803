-- The ends of calls, told one after another.
use Rattle.std.proofs.Common.{◌≡◌, refl, sym, ap, ◌∙◌, subst, ℕ, zero, suc, ◌+◌, ◌<◌, ◌≤◌, Bool, true, false, not, ◌&&◌, ◌||◌, Option, Some, None, List, []}
use Rattle.std.proofs.Common.{◌∷◌, length, map, take, get_or, arith}
use Rattle.std.specs.Prelude.{◌==◌, if◌then◌else◌, is_some, IfSome, slice_index}
use Rattle.std.specs.List.{AllByRecursion}
use Rattle.std.proofs.lemmas.Bool.{eqb-true, and_parts}
use Rattle.std.proofs.lemmas.List.{take_all}
use Rattle.trau_io.specs.declared.ends.CallEnd.{CallEnd}
use Rattle.trau_orders.specs.Lists.{AreOrders}
use Rattle.switchboard.specs.State.{State, EndBefore, first_stamp, last_stamp, orders_of, told_more}
use Rattle.switchboard.specs.Open.{open_now, partner_now, open_without}
use Rattle.farm_rounds.specs.Calls.{Kept, call_in, partner_in}
use Rattle.farm_rounds.specs.Numbers.{IsRising, is_among}
use Rattle.farm_run.specs.Match.{AtClock}
use Rattle.farm_run.specs.Ending.{AreApart, has_left, partner_past, limit_at, told_after, is_told}
use Rattle.farm_run.proofs.Told.Boards.{told_done, told_left, told_orders, told_next, before_round}
use Rattle.farm_run.proofs.Told.Next.{front, eqb-sym, any_next, open_more, apart_front}

-- These ends were told, and their calls are open no more.
pub record IsTold (was now : State) (ends : List CallEnd) : Type 0 where
  pub told : now ≡ told_after was ends
  pub is_open : (c : ℕ) → open_now now c ≡ (open_now was c && not (is_told c ends))

-- **One end more is told.**
pub told_step : (was now new : State) (ends : List CallEnd) (i : ℕ) (e : CallEnd) →
    i < length ends → e ≡ get_or ends i e → new ≡ told_more now e →
    ((c : ℕ) → open_now new c ≡ open_without e.call (open_now now) c) → IsTold was now (take i ends) → IsTold was new (take (i + 1) ends)
told_step was now new ends i e l is n o h = subst (IsTold was new) (sym (front ends i e l is)) (record {
  told = n ∙ ap (λ s. told_more s e) h.told ∙ sym (told_next was (take i ends) e);
  is_open = λ c.
      o c ∙ open_more (open_now was c) (is_told c (take i ends)) (open_now now c) (c == e.call) (h.is_open c)
      ∙ ap (λ s. open_now was c && not s) (sym (any_next (λ d. c == d.call) (take i ends) e));
})

-- **Until then its call is open.**
pub told_open : (was now : State) (ends : List CallEnd) (i : ℕ) (e : CallEnd) → AreApart ends → i < length ends → e ≡ get_or ends i e →
    open_now was e.call ≡ true → IsTold was now (take i ends) →
    open_now now e.call ≡ true
told_open was now ends i e a l is o h = by (open_now was e.call) (is_told e.call (take i ends)) (h.is_open e.call) o (apart_front ends i e a l is)
  where
    by : (b s : Bool) → open_now now e.call ≡ (b && not s) → b ≡ true → s ≡ false → open_now now e.call ≡ true
    by true false e f g = e
    by false s e f g = cc
    by true true e f g = cc

-- No order was executed meanwhile.
pub told_late : (was now : State) (ends : List CallEnd) (at : ℕ) → IsTold was now ends → last_stamp was.done ≤ at → last_stamp now.done ≤ at
told_late was now ends at h l = subst (λ ds. last_stamp ds ≤ at) (sym (ap (λ (s : State). s.done) h.told ∙ told_done was ends)) l

-- ---- before the first end and after the last one

-- before the first end none is told
pub none_told : (was : State) → IsTold was was []
none_told was = record { told = refl; is_open = λ c. kept (open_now was c) }
  where
    kept : (b : Bool) → b ≡ (b && true)
    kept true = refl
    kept false = refl

-- before the first end each call has its partner
pub none_past : (partner : ℕ → Option ℕ) (c : ℕ) → partner c ≡ partner_past [] partner c
none_past partner c = go (partner c)
  where
    go : (o : Option ℕ) → o ≡ (if has_left o [] then None else o)
    go None = refl
    go (Some p) = refl

-- all ends are told
pub told_all : (was now : State) (ends : List CallEnd) (i : ℕ) → length ends ≤ i → IsTold was now (take i ends) → IsTold was now ends
told_all was now ends i l h = subst (IsTold was now) (take_all i ends l) h

-- ---- the end of the run

-- the run's end is told of these calls
pub limits_told : (at c : ℕ) (calls : List ℕ) → is_told c (map (limit_at at) calls) ≡ is_among calls c
limits_told at c [] = refl
limits_told at c (d ∷ calls) = ap (λ b. b || is_told c (map (limit_at at) calls)) (eqb-sym c d) ∙ ap (λ b. d == c || b) (limits_told at c calls)

-- **Calls whose numbers rise are apart.**
pub limits_apart : (at : ℕ) (calls : List ℕ) → IsRising calls → AreApart (map (limit_at at) calls)
limits_apart at [] r = tt
limits_apart at (c ∷ calls) r =
    (above calls (λ j l. r 0 (suc j) (omega arith) (omega arith)), limits_apart at calls (λ i j l k. r (suc i) (suc j) (omega arith) (omega arith)))
  where
    above : (ds : List ℕ) → ((j : ℕ) → j < length ds → c < slice_index ds j) → is_told c (map (limit_at at) ds) ≡ false
    above [] h = refl
    above (d ∷ ds) h = by (c == d) refl (above ds (λ j l. h (suc j) (omega arith)))
      where
        by : (b : Bool) → (c == d) ≡ b → is_told c (map (limit_at at) ds) ≡ false → (b || is_told c (map (limit_at at) ds)) ≡ false
        by false q k = k
        by true q k = let e = eqb-true c d q in let l = h 0 (omega arith) in absurd (omega arith)

-- the end of the call at an index
pub limit_there : (at : ℕ) (calls : List ℕ) (i : ℕ) → i < length calls →
    limit_at at (get_or calls i 0) ≡ get_or (map (limit_at at) calls) i (limit_at at (get_or calls i 0))
limit_there at [] i l = absurd (omega arith)
limit_there at (c ∷ calls) zero l = refl
limit_there at (c ∷ calls) (suc i) l = limit_there at calls i (omega arith)

-- **The calls that the run's end ends are open no more.**
pub limits_open : (was now : State) (at : ℕ) (calls : List ℕ) → IsTold was now (map (limit_at at) calls) → (c : ℕ) →
    open_now now c ≡ (open_now was c && not (is_among calls c))
limits_open was now at calls h c = h.is_open c ∙ ap (λ b. open_now was c && not b) (limits_told at c calls)

-- **If these calls were all that were open, no call is.**
pub none_open : (was now : State) (at : ℕ) (calls : List ℕ) →
    IsTold was now (map (limit_at at) calls) → ((c : ℕ) → is_among calls c ≡ open_now was c) →
    (c : ℕ) → open_now now c ≡ false
none_open was now at calls h e c = limits_open was now at calls h c ∙ ap (λ b. open_now was c && not b) (e c) ∙ neither (open_now was c)
  where
    neither : (b : Bool) → (b && not b) ≡ false
    neither true = refl
    neither false = refl

-- ---- a round

-- **After a round, whose ends were told and whose farm kept the calls that didn't end, the board and the farm stand at
-- the clock behind it.**
pub clock_round : (t n : ℕ) (b now : State) (calls calls' : List Kept) (ends : List CallEnd) →
    AtClock t b calls → AllByRecursion (λ e. e.at < t + n) ends →
    IfSome (first_stamp b.left) (λ s. t + n ≤ s) →
    now ≡ told_after b ends → ((c : ℕ) → open_now now c ≡ (open_now b c && not (is_told c ends))) →
    ((c : ℕ) → partner_now now c ≡ partner_past ends (partner_now b) c) →
    ((c : ℕ) → is_some (call_in calls' c) ≡ (is_some (call_in calls c) && not (is_told c ends))) →
    ((c : ℕ) → partner_in calls' c ≡ partner_past ends (partner_in calls) c) → AtClock (t + n) now calls'
clock_round t n b now calls calls' ends a before clear told o p c q =
    let past = a.past in
    let m = a.matches in
    record {
      orders = subst (λ s. AreOrders (orders_of s)) (sym told) (subst AreOrders (sym (told_orders b ends)) a.orders);
      ahead = subst (λ os. IfSome (first_stamp os) (λ s. t + n ≤ s)) (sym (ap (λ (s : State). s.left) told ∙ told_left b ends)) clear;
      past = subst (λ ds. last_stamp ds ≤ t + n) (sym (ap (λ (s : State). s.done) told ∙ told_done b ends)) (omega arith);
      ends = subst (EndBefore (t + n)) (sym told) (before_round t n b ends a.ends before);
      matches = record {
        is_open = λ d. c d ∙ ap (λ s. s && not (is_told d ends)) (m.is_open d) ∙ sym (o d);
        partner = λ d. q d ∙ ap (λ s. if is_told d ends || has_left s ends then None else s) (m.partner d) ∙ sym (p d);
        number = λ d e. m.number d (and_parts (open_now b d) (not (is_told d ends)) (sym (o d) ∙ e)).0;
      };
    }
