-- When the calls were opened.
use Rattle.std.proofs.Common.{◌≡◌, ap, ℕ, suc, ◌<◌, ◌≤◌, Option, Some, None, List, [], ◌∷◌, ◌++◌, length, map, get_or, arith}
use Rattle.std.specs.Prelude.{unwrap_or, IfSome}
use Rattle.std.specs.List.{AllByRecursion}
use Rattle.trau_orders.specs.declared.order.Order.{Order}
use Rattle.trau_orders.specs.Lists.{AreOrders}
use Rattle.switchboard.specs.Calls.{Done, opened_at}
use Rattle.switchboard.specs.Ends.{start_of}
use Rattle.switchboard.specs.State.{State, last_stamp, orders_of}
use Rattle.run_spec.proofs.Periods.Settled.{found_stamp}
use Rattle.farm_run.specs.Stages.{OpenedBefore}

-- before the first order no call was opened
pub opened_none : (n : ℕ) (ds : List Done) → ds ≡ [] → 1 ≤ n → OpenedBefore n ds
opened_none n ds e some c = let at : start_of ds c ≡ 0 = ap (λ (ds : List Done). start_of ds c) e in omega (arith, at, some)

-- stamps that rise
abbrev Rise : List Order → Type 0
Rise os = (i j : ℕ) (d : Order) → i ≤ j → j < length os → (get_or os i d).stamp ≤ (get_or os j d).stamp

-- of orders with rising stamps none is past the last
stamps_past : (t : ℕ) (ds : List Done) (left : List Order) → Rise (map (λ d. d.order) ds ++ left) → last_stamp ds ≤ t →
    AllByRecursion (λ d. d.order.stamp ≤ t) ds
stamps_past t [] left rise h = tt
stamps_past t (d ∷ []) left rise h = (h, tt)
stamps_past t (d ∷ e ∷ ds) left rise h =
    let rest = stamps_past t (e ∷ ds) left (λ i j o l m. rise (suc i) (suc j) o (omega arith) (omega arith)) h in
    let first = rise 0 1 d.order (omega arith) (omega arith) in
    let second = rest.0 in
    (omega (arith, first, second), rest)

-- **Each call that an order opened was opened before a period past the clock.**
pub opened_by : (t n : ℕ) (b : State) → AreOrders (orders_of b) → last_stamp b.done ≤ t → t < n → OpenedBefore n b.done
opened_by t n b orders past less c =
    by (opened_at c b.done) (found_stamp (λ s. s ≤ t) _ b.done (stamps_past t b.done b.left orders.rising past))
  where
    by : (o : Option ℕ) → IfSome o (λ s. s ≤ t) → unwrap_or o 0 < n
    by None h = omega (arith, less)
    by (Some s) h = omega (arith, less, h)
