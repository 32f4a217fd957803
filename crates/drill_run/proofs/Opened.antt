-- The calls that a drill opens.
use Rattle.std.proofs.Common.{◌≡◌, sym, ap, ◌∙◌, subst, ℕ, zero, suc, ◌+◌, ◌≤◌, Bool, true, Option, Some, None, is_some, Ok, Err, List, [], ◌∷◌, ◌++◌, map, inl}
use Rattle.std.proofs.Common.{inr, arith}
use Rattle.std.specs.Prelude.{option_map, find, filter, nat_lt, if◌then◌else◌}
use Rattle.std.specs.List.{AllByRecursion, range_with_len}
use Rattle.std.proofs.lemmas.Bool.{cases_Bool, eqb-true}
use Rattle.trau_orders.specs.declared.order.Order.{Order}
use Rattle.trau_orders.specs.declared.order.What.{What}
use Rattle.trau_orders.specs.declared.order.What.TheVariants as what
use Rattle.switchboard.specs.declared.act.Act.{Act}
use Rattle.switchboard.specs.declared.act.Act.TheVariants as act
use Rattle.switchboard.specs.declared.act.Refusal.{Refusal}
use Rattle.switchboard.specs.declared.table.Bridge.{Bridge}
use Rattle.switchboard.specs.Calls.{Done, opened_by, is_this, opened_at, gone_at}
use Rattle.switchboard.specs.Replies.{Known, known_of, reply_from, reply_to, act_of, tests, first_of_tests}
use Rattle.switchboard.specs.Runs.{done_after}
use Rattle.farm_drill.specs.Orders.{opening, bridging, unbridging, bridged_calls, drilled_orders}
use Rattle.run_spec.specs.Run.{Run, done_in, whole_in, IsOpened}
use Rattle.run_spec.proofs.Lists.{each_append, each_filter, each_map, each_all}

-- an order opens a call
abbrev Opens : What → ℕ → Type 0
Opens (what.OpenCall d law) c = c ≡ d
Opens (what.CloseCall d) c = ⊥
Opens (what.Bridge a b) c = ⊥
Opens (what.Unbridge d) c = ⊥
Opens (what.Level d v) c = ⊥
Opens (what.Dtx d m) c = ⊥

-- so does the act that it comes to, and no other
accepted : (c : ℕ) (t : Option Refusal) (a : Act) → is_this c (opened_by (elim t [ None ↦ Ok a | Some r ↦ Err r ])) ≡ true → is_this c (opened_by (Ok a)) ≡ true
accepted c None a e = e
accepted c (Some r) a e = cc

unbridged : (c d : ℕ) (b : Option Bridge) → is_this c (opened_by (Ok (elim b [ None ↦ act.Unbridged d d | Some x ↦ act.Unbridged x.a x.b ]))) ≡ true → ⊥
unbridged c d None e = cc
unbridged c d (Some x) e = cc

by_act : (k : Known) (w : What) (c : ℕ) → is_this c (opened_by (Ok (act_of k w))) ≡ true → Opens w c
by_act k (what.OpenCall d law) c e = eqb-true c d e
by_act k (what.CloseCall d) c e = cc
by_act k (what.Bridge a b) c e = cc
by_act k (what.Unbridge d) c e = unbridged c d (k.bridge_of d) e
by_act k (what.Level d v) c e = cc
by_act k (what.Dtx d m) c e = cc

by_reply : (k : Known) (w : What) (c : ℕ) → is_this c (opened_by (reply_from k w)) ≡ true → Opens w c
by_reply k w c e = by_act k w c (accepted c (first_of_tests (tests k w)) (act_of k w) e)

module _ (P : ℕ → Type 0) where
  abbrev OpensOnly : Order → Type 0
  OpensOnly o = (c : ℕ) → Opens o.what c → P c

  abbrev DoneOnly : Done → Type 0
  DoneOnly d = (c : ℕ) → is_this c (opened_by d.result) ≡ true → P c

  executed_only : (whole : ℕ → ℕ) (ds : List Done) (os : List Order) → AllByRecursion DoneOnly ds → AllByRecursion OpensOnly os →
      AllByRecursion DoneOnly (done_after whole ds os)
  executed_only whole ds [] h k = h
  executed_only whole ds (o ∷ os) h k =
      let gone = gone_at whole o.stamp ds in
      executed_only whole (ds ++ record { order = o; result = reply_to gone ds o } ∷ []) os
      (each_append DoneOnly ds (record { order = o; result = reply_to gone ds o } ∷ []) h ((λ c e. k.0 c (by_reply (known_of gone o.stamp ds) o.what c e)), tt))
      k.1

  some_opened : (c : ℕ) (ds : List Done) → AllByRecursion DoneOnly ds → is_some (opened_at c ds) ≡ true → P c
  some_opened c [] h o = cc
  some_opened c (d ∷ ds) h o = elim (cases_Bool (is_this c (opened_by d.result))) [
    | inl e ↦ h.0 c e
    | inr e ↦ some_opened c ds h.1 (ap (λ (b : Bool). is_some
        (option_map (λ (d : Done). d.order.stamp) (if b then Some d else find (λ (d : Done). is_this c (opened_by d.result)) ds))) (sym e) ∙ o)
  ]

  opened_only : (r : Run) (c : ℕ) → AllByRecursion OpensOnly r.orders → IsOpened r c → P c
  opened_only r c each o = some_opened c (done_in r)
      (executed_only (whole_in r) [] (filter (λ o. nat_lt o.stamp r.periods) r.orders) tt (each_filter OpensOnly _ r.orders each)) o

-- ---- the drill's orders

abbrev IsDrilledCall : ℕ → ℕ → Type 0
IsDrilledCall calls c = (1 ≤ c) × (c ≤ calls)

openings : (calls first n : ℕ) → 1 ≤ first → first + n ≤ calls + 1 → AllByRecursion (λ c. OpensOnly (IsDrilledCall calls) (opening c)) (range_with_len first n)
openings calls first zero low high = tt
openings calls first (suc n) low high = (
  (λ c e. (omega (arith, e, low), omega (arith, e, high))),
  openings calls (first + 1) n (omega (arith, low)) (omega (arith, high)),
)

all_drilled : (calls periods : ℕ) → AllByRecursion (OpensOnly (IsDrilledCall calls)) (drilled_orders calls periods)
unfolding drilled_orders
all_drilled calls periods =
    each_append (OpensOnly (IsDrilledCall calls)) (map opening (range_with_len 1 calls) ++ map (bridging periods) (bridged_calls calls))
    (map (unbridging periods) (bridged_calls calls))
    (each_append (OpensOnly (IsDrilledCall calls)) (map opening (range_with_len 1 calls)) (map (bridging periods) (bridged_calls calls))
    (each_map (OpensOnly (IsDrilledCall calls)) opening (range_with_len 1 calls) (openings calls 1 calls (omega arith) (omega arith)))
    (each_map (OpensOnly (IsDrilledCall calls)) (bridging periods) (bridged_calls calls)
    (each_all (λ d. OpensOnly (IsDrilledCall calls) (bridging periods d)) (bridged_calls calls) (λ d c e. absurd e))))
    (each_map (OpensOnly (IsDrilledCall calls)) (unbridging periods) (bridged_calls calls)
    (each_all (λ d. OpensOnly (IsDrilledCall calls) (unbridging periods d)) (bridged_calls calls) (λ d c e. absurd e)))

-- **A drill opens its own calls alone.**
pub opened_drilled : (r : Run) (calls periods c : ℕ) → r.orders ≡ drilled_orders calls periods → IsOpened r c → (1 ≤ c) × (c ≤ calls)
opened_drilled r calls periods c is o = opened_only (IsDrilledCall calls) r c
    (subst (AllByRecursion (OpensOnly (IsDrilledCall calls))) (sym is) (all_drilled calls periods)) o
