-- The calls that are over stay so, and what orders leave of what is known of the listed lines.
use Rattle.std.proofs.Common.{◌≡◌, refl, sym, ap, ◌∙◌, subst, ℕ, zero, suc, ◌≤◌, Bool, true, false, not, ◌&&◌, Option, Some, None, List, [], ◌∷◌, length}
use Rattle.std.proofs.Common.{get_or, set, inl, inr, arith}
use Rattle.std.specs.Prelude.{◌==◌, ◌||◌, is_some}
use Rattle.std.proofs.lemmas.Bool.{cases_Bool, cases_lt, eqb-true, eq-eqb, true≢false}
use Rattle.std.proofs.lemmas.List.{get_or-set_same, get_or-set_other}
use Rattle.trau_io.specs.declared.line.Line.{Line}
use Rattle.trau_io.specs.declared.ends.CallEnd.{CallEnd}
use Rattle.trau_orders.specs.declared.order.Order.{Order}
use Rattle.switchboard.specs.declared.act.Act.{Act}
use Rattle.switchboard.specs.declared.act.Act.TheVariants as act
use Rattle.switchboard.specs.Calls.{Done, opened_at, closed_at}
use Rattle.switchboard.specs.State.{State, gone_in, after_turn, told_more}
use Rattle.switchboard.specs.Open.{opened_now, open_now, partner_now, Finds}
use Rattle.switchboard.proofs.Orders.OneMore.{or_else}
use Rattle.run_spec.proofs.Orders.Executed.{opened-append, closed-append}
use Rattle.farm_rounds.specs.Failed.{NoneListed}
use Rattle.farm_run.specs.Runs.{is_listed}
use Rattle.farm_run.specs.Standing.{is_over, KnowsListed}
use Rattle.farm_run.proofs.Told.Boards.{told_done, is_told_end}
use Rattle.farm_run.proofs.Listed.Tests.{or_cases, or_left, or_right, is_false}
use Rattle.farm_run.specs.Ending.{told_after}

-- ---- a call that is open, and one that is over

-- tests of an open call
not_over_by : (p q g : Bool) → (p && not q && not g) ≡ true → (g || q) ≡ false
not_over_by true false false e = refl
not_over_by true false true e = cc
not_over_by true true g e = cc
not_over_by false q g e = cc

-- **An open call isn't over.**
not_over : (b : State) (c : ℕ) → open_now b c ≡ true → is_over b c ≡ false
not_over b c o = not_over_by (is_some (opened_at c b.done)) (is_some (closed_at c b.done)) (gone_in b c) o

-- **An open call that is over where no order was executed is gone.**
pub open_gone : (b n : State) (c : ℕ) → n.done ≡ b.done → open_now b c ≡ true → is_over n c ≡ true → gone_in n c ≡ true
open_gone b n c same o h =
    by (is_some (opened_at c b.done)) (is_some (closed_at c b.done)) (gone_in b c) (is_some (closed_at c n.done)) (gone_in n c) o
    (ap (λ (ds : List Done). is_some (closed_at c ds)) same) h
  where
    by : (p q g q' g' : Bool) → (p && not q && not g) ≡ true → q' ≡ q → (g' || q') ≡ true → g' ≡ true
    by true false false false true o e h = refl
    by true false false false false o e h = cc
    by true false false true g' o e h = cc
    by true false true q' g' o e h = cc
    by true true g q' g' o e h = cc
    by false q g q' g' o e h = cc

-- a call that is over isn't open
pub over_shut : (b : State) (c : ℕ) → is_over b c ≡ true → open_now b c ≡ false
over_shut b c e = is_false (open_now b c) (λ o. true≢false (sym e ∙ not_over b c o))

-- an open call was opened
pub open_opened : (b : State) (c : ℕ) → open_now b c ≡ true → opened_now b c ≡ true
open_opened b c o = by (opened_now b c) (is_some (closed_at c b.done)) (gone_in b c) o
  where
    by : (p q g : Bool) → (p && not q && not g) ≡ true → p ≡ true
    by true q g e = refl
    by false q g e = cc

-- ---- ends are told

-- a call that is gone stays so when an end is told
gone_one : (s : State) (e : CallEnd) (c : ℕ) → gone_in s c ≡ true → gone_in (told_more s e) c ≡ true
gone_one s e c g = elim (cases_Bool (c == e.call)) [
  | inl q ↦
      let same = eqb-true c e.call q in
      elim (cases_lt e.call (length s.told)) [
        | inl l ↦ ap (λ (d : ℕ). gone_in (told_more s e) d) same ∙ ap is_told_end (get_or-set_same s.told e.call (Some e) None l)
        | inr l ↦ ap (λ (xs : List (Option CallEnd)). is_told_end (get_or xs c None)) (set_past s.told e.call l) ∙ g
      ]
  | inr q ↦ ap is_told_end (get_or-set_other s.told e.call c (Some e) None (λ f. true≢false (sym (eq-eqb c e.call f) ∙ q))) ∙ g
]
  where
    set_past : (xs : List (Option CallEnd)) (i : ℕ) → length xs ≤ i → set xs i (Some e) ≡ xs
    set_past [] i l = refl
    set_past (x ∷ xs) zero l = absurd (omega arith)
    set_past (x ∷ xs) (suc i) l = ap (λ (ys : List (Option CallEnd)). x ∷ ys) (set_past xs i (omega arith))

-- a call that is gone stays so when several ends are told
pub gone_told : (s : State) (ends : List CallEnd) (c : ℕ) → gone_in s c ≡ true → gone_in (told_after s ends) c ≡ true
gone_told s [] c e = e
gone_told s (d ∷ ends) c e = gone_told (told_more s d) ends c (gone_one s d c e)

-- **A call that is over stays so when ends are told.**
pub over_told : (s : State) (ends : List CallEnd) (c : ℕ) → is_over s c ≡ true → is_over (told_after s ends) c ≡ true
over_told s ends c e = elim (or_cases (gone_in s c) (is_some (closed_at c s.done)) e) [
  | inl g ↦ or_left (gone_in (told_after s ends) c) (is_some (closed_at c (told_after s ends).done)) (gone_told s ends c g)
  | inr q ↦ or_right (gone_in (told_after s ends) c) (is_some (closed_at c (told_after s ends).done))
      (ap (λ (ds : List Done). is_some (closed_at c ds)) (told_done s ends) ∙ q)
]

-- ---- orders

-- an order that was found is found with more behind it
some_more : (o p : Option ℕ) → is_some o ≡ true → is_some (or_else o p) ≡ true
some_more (Some x) p e = refl
some_more None p e = cc

-- **A call that is over stays so when an order is executed.**
pub over_turned : (s n : State) (o : Option Order) → n ≡ after_turn s o → (c : ℕ) → is_over s c ≡ true → is_over n c ≡ true
over_turned s n o e c h = subst (λ (m : State). is_over m c ≡ true) (sym e) (by o)
  where
    by : (o : Option Order) → is_over (after_turn s o) c ≡ true
    by None = h
    by (Some x) = elim (or_cases (gone_in s c) (is_some (closed_at c s.done)) h) [
      | inl g ↦ or_left (gone_in s c) (is_some (closed_at c (after_turn s (Some x)).done)) g
      | inr q ↦ or_right (gone_in s c) (is_some (closed_at c (after_turn s (Some x)).done))
          (ap is_some (closed-append c s.done _) ∙ some_more (closed_at c s.done) _ q)
    ]

-- a call that is gone stays so
gone_turned : (s n : State) (o : Option Order) → n ≡ after_turn s o → (c : ℕ) → gone_in s c ≡ true → gone_in n c ≡ true
gone_turned s n o e c h = subst (λ (m : State). gone_in m c ≡ true) (sym e) (by o)
  where
    by : (o : Option Order) → gone_in (after_turn s o) c ≡ true
    by None = h
    by (Some x) = h

-- a call that was opened was so after one more order
opened_turned : (s n : State) (o : Option Order) → n ≡ after_turn s o → (c : ℕ) → opened_now s c ≡ true → opened_now n c ≡ true
opened_turned s n o e c h = subst (λ (m : State). opened_now m c ≡ true) (sym e) (by o)
  where
    by : (o : Option Order) → opened_now (after_turn s o) c ≡ true
    by None = h
    by (Some x) = ap is_some (opened-append c s.done _) ∙ some_more (opened_at c s.done) _ h

-- ---- what the board knows

-- **No line of a call that an accepted order opens is listed.**
pub new_unlisted : (s : State) (failed : List Line) (a : Act) → Finds a (opened_now s) (open_now s) (partner_now s) → KnowsListed s failed →
    NoneListed a failed
new_unlisted s failed (act.Opened m law) f k = λ side. is_false (is_listed failed m side) (λ l. true≢false (sym (k.opened m side l) ∙ f.1))
new_unlisted s failed (act.Closed m p) f k = tt
new_unlisted s failed (act.Bridged m p) f k = tt
new_unlisted s failed (act.Unbridged m p) f k = tt
new_unlisted s failed (act.LevelSet m level) f k = tt
new_unlisted s failed (act.DtxSet m mode) f k = tt

-- **After an order the same is known of the listed lines.**
pub knows_turned : (s n : State) (o : Option Order) (failed : List Line) → n ≡ after_turn s o → KnowsListed s failed → KnowsListed n failed
knows_turned s n o failed e k = record {
  opened = λ c side l. opened_turned s n o e c (k.opened c side l);
  ended = λ c side i l. gone_turned s n o e c (k.ended c side i l);
}
