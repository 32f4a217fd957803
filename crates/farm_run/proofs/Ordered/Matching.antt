-- Orders keep the board and the farm together.
use Rattle.std.proofs.Common.{◌≡◌, refl, sym, ap, ◌∙◌, subst, ℕ, Bool, true, false, not, ◌&&◌, ◌||◌, Option, Some, None, List, arith, inl, inr}
use Rattle.std.specs.Prelude.{if◌then◌else◌, ◌==◌, is_some, option_map}
use Rattle.std.proofs.lemmas.Bool.{eqb-true, or_cases}
use Rattle.switchboard.specs.declared.act.Act.{Act}
use Rattle.switchboard.specs.declared.act.Act.TheVariants as act
use Rattle.switchboard.specs.Calls.{closed_at}
use Rattle.switchboard.specs.State.{State, gone_in}
use Rattle.switchboard.specs.Open.{opened_now, open_now, partner_now, open_after, partner_after, Finds, FindsOpen}
use Rattle.switchboard.specs.Replies.{IsInRange}
use Rattle.call_number.specs.CallNumber.{IsCallNumber}
use Rattle.farm_rounds.specs.Calls.{Call, Kept, call_in, partner_in}
use Rattle.farm_rounds.specs.Acts.{new_call, bridged_call, parted_call, set_by, change_at, change_partner, calls_after, is_open_in, ActFits}
use Rattle.run_spec.proofs.Lists.{some_mapped}
use Rattle.farm_run.specs.Match.{Matches}

-- a call that was never opened isn't open
pub unopened : (b : State) (c : ℕ) → opened_now b c ≡ false → open_now b c ≡ false
unopened b c e = ap (λ t. t && not (is_some (closed_at c b.done)) && not (gone_in b c)) e

-- ---- who is open after an order

-- a function that is used in one case alone changes no None
some_if : {X : Type 0} (t : Bool) (g : X → X) (o : Option X) → is_some (if t then option_map g o else o) ≡ is_some o
some_if true g o = some_mapped g o
some_if false g o = refl

-- a change of a call leaves which calls there are
live_changed : (n : ℕ) (g : Call → Call) (f : ℕ → Option Call) (c : ℕ) → is_some (change_at n g f c) ≡ is_some (f c)
live_changed n g f c = some_if (c == n) g (f c)

-- freeing a partner leaves which calls there are
live_released : (p : Option ℕ) (g : Call → Call) (f : ℕ → Option Call) (c : ℕ) → is_some (change_partner p g f c) ≡ is_some (f c)
live_released None g f c = refl
live_released (Some n) g f c = live_changed n g f c

-- a test that decides between a call and none
some_opened : (t : Bool) (x : Call) (o : Option Call) → is_some (if t then Some x else o) ≡ (t || is_some o)
some_opened true x o = refl
some_opened false x o = refl

some_closed : (t : Bool) (o q : Option Call) → is_some o ≡ is_some q → is_some (if t then None else o) ≡ (if t then false else is_some q)
some_closed true o q e = refl
some_closed false o q e = e

-- **An act leaves those calls that it leaves open.**
live_after : (a : Act) (f : ℕ → Option Call) (c : ℕ) → is_some (calls_after a f c) ≡ open_after a (λ c. is_some (f c)) c
live_after (act.Opened n law) f c = some_opened (c == n) (new_call n law) (f c)
live_after (act.Closed n p) f c = some_closed (c == n) (change_partner p parted_call f c) (f c) (live_released p parted_call f c)
live_after (act.Bridged a b) f c = live_changed a bridged_call (change_at b bridged_call f) c ∙ live_changed b bridged_call f c
live_after (act.Unbridged a b) f c = live_changed a parted_call (change_at b parted_call f) c ∙ live_changed b parted_call f c
live_after (act.LevelSet n level) f c = live_changed n (set_by (act.LevelSet n level)) f c
live_after (act.DtxSet n mode) f c = live_changed n (set_by (act.DtxSet n mode)) f c

-- ---- board and farm

-- the same calls are open, as functions, and have the same partners
opens : (b : State) (calls : List Kept) → Matches b calls → is_open_in calls ≡ open_now b
opens b calls m = λ i. λ c. m.is_open c i

partners : (b : State) (calls : List Kept) → Matches b calls → partner_in calls ≡ partner_now b
partners b calls m = λ i. λ c. m.partner c i

found_open : (b : State) (a : Act) → Finds a (opened_now b) (open_now b) (partner_now b) → FindsOpen a (open_now b) (partner_now b)
found_open b (act.Opened n law) f = unopened b n f.1
found_open b (act.Closed n p) f = f
found_open b (act.Bridged a d) f = f
found_open b (act.Unbridged a d) f = f.1.0
found_open b (act.LevelSet n level) f = f
found_open b (act.DtxSet n mode) f = f

-- **What the board finds, the farm finds.**
pub fits : (b : State) (calls : List Kept) (a : Act) → Matches b calls →
    Finds a (opened_now b) (open_now b) (partner_now b) → IsInRange a → ActFits calls a
fits b calls a m f r =
    (subst (λ g. FindsOpen a g (partner_in calls)) (sym (opens b calls m)) (subst (FindsOpen a (open_now b)) (sym (partners b calls m)) (found_open b a f)), r)

-- the calls that are open after an order have numbers of calls
numbered : (b : State) (a : Act) → Finds a (opened_now b) (open_now b) (partner_now b) →
    ((c : ℕ) → open_now b c ≡ true → IsCallNumber c) → (c : ℕ) →
    open_after a (open_now b) c ≡ true → IsCallNumber c
numbered b (act.Opened n law) f h c e = elim (or_cases (c == n) (open_now b c) e) [
  | inl q ↦ subst IsCallNumber (sym (eqb-true c n q)) (omega (arith, f.0.0), omega (arith, f.0.1))
  | inr q ↦ h c q
]
numbered b (act.Closed n p) f h c e = h c (other (c == n) (open_now b c) e)
  where
    other : (s t : Bool) → (if s then false else t) ≡ true → t ≡ true
    other true t q = cc
    other false t q = q
numbered b (act.Bridged a d) f h c e = h c e
numbered b (act.Unbridged a d) f h c e = h c e
numbered b (act.LevelSet n level) f h c e = h c e
numbered b (act.DtxSet n mode) f h c e = h c e

-- **An accepted order keeps the board and the farm together.**
pub matches_more : (b b' : State) (calls calls' : List Kept) (a : Act) → Matches b calls →
    Finds a (opened_now b) (open_now b) (partner_now b) →
    ((c : ℕ) → open_now b' c ≡ open_after a (open_now b) c) → ((c : ℕ) → partner_now b' c ≡ partner_after a (partner_now b) c) →
    ((c : ℕ) → call_in calls' c ≡ calls_after a (call_in calls) c) →
    ((c : ℕ) → partner_in calls' c ≡ partner_after a (partner_in calls) c) → Matches b' calls'
matches_more b b' calls calls' a m f o p c q = record {
  is_open = λ n. ap is_some (c n) ∙ live_after a (call_in calls) n ∙ ap (λ g. open_after a g n) (opens b calls m) ∙ sym (o n);
  partner = λ n. q n ∙ ap (λ g. partner_after a g n) (partners b calls m) ∙ sym (p n);
  number = λ n e. numbered b a f m.number n (sym (o n) ∙ e);
}

-- a refused order keeps the board and the farm together
pub matches_same : (b b' : State) (calls : List Kept) → Matches b calls → ((c : ℕ) → open_now b' c ≡ open_now b c) →
    ((c : ℕ) → partner_now b' c ≡ partner_now b c) → Matches b' calls
matches_same b b' calls m o p = record {
  is_open = λ n. m.is_open n ∙ sym (o n);
  partner = λ n. m.partner n ∙ sym (p n);
  number = λ n e. m.number n (sym (o n) ∙ e);
}
